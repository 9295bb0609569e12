-- A line after another: the lines that are left, by the code's tests.
use Prim.Native.Nat.{ℕ, suc, ◌+◌, ◌-◌, ◌≤◌, ◌<◌}
use mathlib.Core.Path.{◌≡◌, refl, ap, sym, ◌∙◌}
use mathlib.Core.List.{List, [], ◌++◌}
use native.Mathlib.Omega.{arith}
use lib.ListN.{length, take, length-append}
use lib.Seq.{drop_at}
use borrow.Author.Tests.{eq-eqb, ne_eqb, lt-ltb, le-ltb}
use Rattle.model.proofs.Compare.{below, above, order, equal, differ, same}
use Rattle.token.specs.Lines.{line_end, line_at}
use Rattle.token.specs.Token.{entry_at}
use Rattle.list.proofs.Values.{values_length}
use Rattle.row.specs.Row.{row_at, row_of, lower_of, row_below, line_number}
use Rattle.row.proofs.Line.{by_lower, lower_held}
use Rattle.curve.specs.Curve.{Curve, curve, lines_from, curve_of}

module _ (i : ℕ) (text : List ℕ) (at : ℕ) (done : List ℕ) where
  -- the lines that are left come to `whole`; k is what the code found of the next
  module _ (whole : Curve) (is : lines_from (20 - i) text at done ≡ whole) where
    module _ (more : i < 20) (k : ℕ) (e : k ≡ line_number i text at done) where
      pub lines_go : k ≡ 0 → (next : ℕ) (then : List ℕ) → next ≡ line_end text at + 1 → then ≡ done ++ row_of (i + 1) (line_at text at)
          → lines_from (20 - (i + 1)) text next then ≡ whole
      unfolding lines_from
      lines_go z next then en et =
          let n : 20 - i ≡ suc (20 - (i + 1)) = omega arith in
          let l : 19 - (20 - (i + 1)) ≡ i = omega arith in
          rw (en, et) (simp (eq-eqb (line_number i text at done) 0 (sym e ∙ z)) at (rw (n, l) at is))

      pub lines_stop : ¬ (k ≡ 0) → k ≡ whole.number
      unfolding lines_from
      lines_stop h =
          let n : 20 - i ≡ suc (20 - (i + 1)) = omega arith in
          let l : 19 - (20 - (i + 1)) ≡ i = omega arith in
          let stops = simp (ne_eqb (line_number i text at done) 0 (λ z. h (e ∙ z))) at (rw (n, l) at is) in
          e ∙ ap (λ (x : Curve). x.number) stops

    module _ (none : 20 ≤ i) where
      pub line_over : at < length text → 12 ≡ whole.number
      unfolding lines_from
      line_over h =
          let n : 20 - i ≡ 0 = omega arith in
          ap (λ (x : Curve). x.number) (rw (n, lt-ltb at (length text) h) at is)

      pub lines_end : length text ≤ at → curve 0 done ≡ whole
      unfolding lines_from
      lines_end h = let n : 20 - i ≡ 0 = omega arith in rw (n, le-ltb at (length text) h) at is

-- ---- the first pass: the scratch holds the last row
pub row_below_lem : (done row : List ℕ) → length row ≡ 64 → lower_of (done ++ row) ≡ row
row_below_lem done row n = drop_at done row (length (done ++ row) - 64) (omega (arith, length-append done row))

-- what the lines that are left come to, after entries of which the scratch holds the last row
pub record Judged (i : ℕ) (text : List ℕ) (at : ℕ) (scratch : List ℕ) : Type 0 where
  pub done : List ℕ
  pub is : lines_from (20 - i) text at done ≡ curve_of text
  pub last : lower_of done ≡ row_below i scratch

module _ (i : ℕ) (text : List ℕ) (at : ℕ) (scratch : List ℕ) (j : Judged i text at scratch) where
  module _ (more : i < 20) (k : ℕ) (e : k ≡ line_number i text at (row_below i scratch)) where
    by_done : k ≡ line_number i text at j.done
    by_done = e ∙ by_lower i text at (row_below i scratch) j.done (lower_held i scratch ∙ sym j.last)

    pub judged_on : k ≡ 0 → (next : ℕ) (then : List ℕ) → next ≡ line_end text at + 1 → take 64 then ≡ row_of (i + 1) (line_at text at)
        → Judged (i + 1) text next then
    judged_on z next then en et =
        let row : List ℕ = row_of (i + 1) (line_at text at) in
        let size : length row ≡ 64 = values_length entry_at (line_at text at) (row_at (i + 1) (line_at text at)) 64 in
        record {
          done = j.done ++ row;
          is = lines_go i text at j.done (curve_of text) j.is more k by_done z next (j.done ++ row) en refl;
          last = row_below_lem j.done row size ∙ sym et ∙ rw (ne_eqb (i + 1) 0 (omega arith));
        }

    pub judged_bad : ¬ (k ≡ 0) → k ≡ (curve_of text).number
    judged_bad h = lines_stop i text at j.done (curve_of text) j.is more k by_done h

  module _ (none : 20 ≤ i) where
    pub judged_over : at < length text → 12 ≡ (curve_of text).number
    judged_over h = line_over i text at j.done (curve_of text) j.is none h

    pub judged_end : length text ≤ at → 0 ≡ (curve_of text).number
    judged_end h = ap (λ (x : Curve). x.number) (lines_end i text at j.done (curve_of text) j.is none h)

pub judged_first : (text scratch : List ℕ) → Judged 0 text 0 scratch
judged_first text scratch = record { done = []; is = refl; last = refl }

-- ---- the second pass: the text is known to be good
module _ (i : ℕ) (text : List ℕ) (at : ℕ) (done : List ℕ) (is : lines_from (20 - i) text at done ≡ curve_of text)
    (good : (curve_of text).number ≡ 0) where
  pub line_known : i < 20 → line_number i text at done ≡ 0
  line_known more =
      elim (same (line_number i text at done) 0) [
        | equal z ↦ z
        | differ h ↦ lines_stop i text at done (curve_of text) is more (line_number i text at done) refl h ∙ good
      ]

  pub all_written : 20 ≤ i → done ≡ (curve_of text).entries
  all_written none =
      elim (order at (length text)) [
        | below h ↦ absurd (omega (arith, line_over i text at done (curve_of text) is none h ∙ good))
        | above h ↦ ap (λ (x : Curve). x.entries) (lines_end i text at done (curve_of text) is none h)
      ]
