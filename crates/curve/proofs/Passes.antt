-- Every accepted text gives a table that passes the check.
use Prim.Native.Nat.{ℕ, zero, suc, ◌+◌, ◌*◌, ◌-◌}
use mathlib.Core.Path.{◌≡◌, refl, sym, ◌∙◌}
use mathlib.Core.Bool.{Bool, true, false, cond}
use mathlib.Core.List.{List, [], ◌++◌, append_assoc, append-nil}
use native.Mathlib.Omega.{arith}
use lib.Dec.{ltb}
use lib.ListN.{length, length-append}
use lib.Seq.{drop_at, take_at}
use borrow.Author.Tests.{eq-eqb, ne_eqb}
use Rattle.model.proofs.Compare.{equal, differ, same}
use Rattle.token.specs.Token.{entry_at}
use Rattle.list.proofs.Values.{values_length}
use Rattle.token.specs.Lines.{line_end, line_at}
use Rattle.row.specs.Row.{row_at, row_of, in_rule, lower_of, line_number}
use Rattle.row.proofs.Line.{line_in_rule}
use Rattle.curve.specs.Curve.{curve, lines_from, curve_of, levels_good, passes, bad_room, load_number, loaded}
use Rattle.curve.specs.Promises.{LoadPasses}
use Rattle.curve.proofs.Lines.{row_below_lem}

-- what is read of the n lines that are left, after the entries done
record Left (n : ℕ) (done entries : List ℕ) : Type 0 where
  pub rest : List ℕ
  pub is : entries ≡ done ++ rest
  pub size : length rest ≡ 64 * n
  pub good : levels_good n (lower_of done) rest ≡ true

no_line_21 : (over : Bool) (done : List ℕ) → (cond over (curve 12 []) (curve 0 done)).number ≡ 0 → (cond over (curve 12 []) (curve 0 done)).entries ≡ done
no_line_21 true done e = absurd (omega arith)
no_line_21 false done e = refl

one_more : (n : ℕ) (lower row rest : List ℕ) → length row ≡ 64 → in_rule 0 lower row ≡ true → levels_good n row rest ≡ true
    → levels_good (suc n) lower (row ++ rest) ≡ true
unfolding levels_good
one_more n lower row rest size e f = rw (take_at row rest 64 size, drop_at row rest 64 size, e) f

all_good : (n : ℕ) (text : List ℕ) (at : ℕ) (done : List ℕ) → (lines_from n text at done).number ≡ 0
    → Left n done (lines_from n text at done).entries
unfolding lines_from levels_good
all_good zero text at done e =
    record { rest = []; is = no_line_21 (ltb at (length text)) done e ∙ sym (append-nil done); size = refl; good = refl }
all_good (suc n) text at done e =
    elim (same (line_number (19 - n) text at done) 0) [
      | equal z ↦
          let row : List ℕ = row_of (19 - n + 1) (line_at text at) in
          let size : length row ≡ 64 = values_length entry_at (line_at text at) (row_at (19 - n + 1) (line_at text at)) 64 in
          let goes = eq-eqb (line_number (19 - n) text at done) 0 z in
          let more = all_good n text (line_end text at + 1) (done ++ row) (rw goes at e) in
          record {
            rest = row ++ more.rest;
            is = rw goes (more.is ∙ append_assoc done row more.rest);
            size = omega (arith, length-append row more.rest, more.size);
            good = one_more n (lower_of done) row more.rest size (line_in_rule (19 - n) text at done z) (rw (row_below_lem done row size) at more.good);
          }
      | differ h ↦ absurd (h (rw (ne_eqb (line_number (19 - n) text at done) 0 h) at e))
    ]

pub accepted_passes : (text : List ℕ) → (curve_of text).number ≡ 0 → passes (curve_of text).entries ≡ true
accepted_passes text e =
    let all = all_good 20 text 0 [] e in
    rw (all.is, eq-eqb (length all.rest) 1280 all.size) all.good

pub load_passes : LoadPasses
unfolding load_number loaded
load_passes text table scratch e =
    let good = room (bad_room (length table) scratch) (curve_of text).number e in
    rw (e, eq-eqb 0 0 refl) (accepted_passes text good)
  where
    room : (bad : Bool) (n : ℕ) → ◌≡◌ {A = ℕ} (cond bad 11 n) 0 → n ≡ 0
    room true n e = absurd (omega arith)
    room false n e = e
