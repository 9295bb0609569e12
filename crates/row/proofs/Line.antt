-- A line's number, by the code's tests.
use Prim.Native.Nat.{ℕ, ◌+◌, ◌-◌, ◌≤◌, ◌<◌}
use mathlib.Core.Path.{◌≡◌, refl, ap, sym, ◌∙◌}
use mathlib.Core.Bool.{Bool, true, false, cond}
use mathlib.Core.List.{List, []}
use native.Mathlib.Omega.{arith}
use lib.Dec.{eqb, ltb}
use lib.ListN.{length, take, drop, length-take}
use borrow.Author.Tests.{eq-eqb, ne_eqb, lt-ltb, le-ltb}
use Rattle.std.specs.Prelude.{Option, None, Some, IsSome, MatchOption}
use Rattle.token.specs.declared.Item.{Item}
use Rattle.model.proofs.Compare.{below, above, order}
use Rattle.token.specs.Token.{lost, entry_at}
use Rattle.token.specs.Lines.{line_end, line_at}
use Rattle.list.specs.Items.{values_at}
use Rattle.row.specs.Row.{head_at, row_at, HasEntries, row_of, in_rule, lower_of, row_below, line_number}
use Rattle.row.proofs.Row.{formed}

module _ (i : ℕ) (text : List ℕ) (at : ℕ) (done : List ℕ) where
  pub line_missing : length text ≤ at → 12 ≡ line_number i text at done
  unfolding line_number
  line_missing h = rw (le-ltb at (length text) h)

  pub line_never_11 : ¬ (line_number i text at done ≡ 11)
  unfolding line_number
  line_never_11 = go (ltb at (length text)) (eqb (row_at (i + 1) (line_at text at)) lost) (in_rule 0 (lower_of done) (row_of (i + 1) (line_at text at)))
    where
      go : (inside formless good : Bool) → ¬ (◌≡◌ {A = ℕ} (cond inside (cond formless 12 (cond good 0 13)) 12) 11)
      go false formless good e = omega arith
      go true true good e = omega arith
      go true false true e = omega arith
      go true false false e = omega arith

  -- the line as the code cut it out, and where it found the entries
  module _ (inside : at < length text) (end : ℕ) (ee : end ≡ line_end text at) (line : List ℕ)
      (el : line ≡ take (end - at) (drop at text)) (from : ℕ) (ef : from ≡ row_at (i + 1) line) where
    is_line : line ≡ line_at text at
    unfolding line_at
    is_line = el ∙ ap (λ (e : ℕ). take (e - at) (drop at text)) ee

    is_from : from ≡ row_at (i + 1) (line_at text at)
    is_from = ef ∙ ap (row_at (i + 1)) is_line

    pub is_row : values_at entry_at line from 64 ≡ row_of (i + 1) (line_at text at)
    is_row = rw (is_from, is_line)

    pub line_formless : from ≡ lost → 12 ≡ line_number i text at done
    unfolding line_number
    line_formless h = rw (lt-ltb at (length text) inside, eq-eqb (row_at (i + 1) (line_at text at)) lost (sym is_from ∙ h))

    pub line_judged : (k : ℕ) → k ≡ cond (in_rule 0 (lower_of done) (values_at entry_at line from 64)) 0 13 → ¬ (from ≡ lost)
        → k ≡ line_number i text at done
    unfolding line_number
    line_judged k e h =
        sym (rw (lt-ltb at (length text) inside, ne_eqb (row_at (i + 1) (line_at text at)) lost (λ q. h (is_from ∙ q)), ← is_row) (sym e))

-- ---- the row one level lower is all that a line's number looks at of the entries before
pub by_lower : (i : ℕ) (text : List ℕ) (at : ℕ) (done other : List ℕ) → lower_of done ≡ lower_of other
    → line_number i text at done ≡ line_number i text at other
unfolding line_number
by_lower i text at done other e = rw e

-- and of the row that a scratch holds it looks at all
pub lower_held : (i : ℕ) (scratch : List ℕ) → lower_of (row_below i scratch) ≡ row_below i scratch
lower_held i scratch = held (eqb i 0)
  where
    held : (lowest : Bool) → lower_of (cond lowest [] (take 64 scratch)) ≡ cond lowest [] (take 64 scratch)
    held true = refl
    held false =
        let n : length (take 64 scratch) - 64 ≡ 0 = omega (arith, length-take 64 scratch) in
        rw n

pub held_judged : (i : ℕ) (scratch row : List ℕ) (k : ℕ) → k ≡ cond (in_rule 0 (row_below i scratch) row) 0 13
    → k ≡ cond (in_rule 0 (lower_of (row_below i scratch)) row) 0 13
held_judged i scratch row k e = e ∙ ap (λ (lower : List ℕ). cond (in_rule 0 lower row) 0 13) (sym (lower_held i scratch))

-- ---- what 0 says of a line
pub line_inside : (i : ℕ) (text : List ℕ) (at : ℕ) (done : List ℕ) → line_number i text at done ≡ 0 → at < length text
line_inside i text at done e =
    elim (order at (length text)) [
      | below h ↦ h
      | above h ↦ absurd (omega (arith, line_missing i text at done h ∙ e))
    ]

pub line_formed : (i : ℕ) (text : List ℕ) (at : ℕ) (done : List ℕ) → line_number i text at done ≡ 0
    → ¬ (row_at (i + 1) (line_at text at) ≡ lost)
unfolding line_number
line_formed i text at done e q = go (ltb at (length text)) (rw (eq-eqb (row_at (i + 1) (line_at text at)) lost q) at e)
  where
    go : (inside : Bool) → ¬ (◌≡◌ {A = ℕ} (cond inside 12 12) 0)
    go true e = omega arith
    go false e = omega arith

in_rule_lem : (inside formless good : Bool) → ◌≡◌ {A = ℕ} (cond inside (cond formless 12 (cond good 0 13)) 12) 0 → good ≡ true
in_rule_lem false b g e = absurd (omega arith)
in_rule_lem true true g e = absurd (omega arith)
in_rule_lem true false true e = refl
in_rule_lem true false false e = absurd (omega arith)

pub line_in_rule : (i : ℕ) (text : List ℕ) (at : ℕ) (done : List ℕ) → line_number i text at done ≡ 0
    → in_rule 0 (lower_of done) (row_of (i + 1) (line_at text at)) ≡ true
unfolding line_number
line_in_rule i text at done e =
    in_rule_lem (ltb at (length text)) (eqb (row_at (i + 1) (line_at text at)) lost) (in_rule 0 (lower_of done) (row_of (i + 1) (line_at text at))) e

-- the line as the code cut it out, and what it found before the entries
module _ (i : ℕ) (text : List ℕ) (at : ℕ) (done : List ℕ) (good : line_number i text at done ≡ 0) (end : ℕ) (ee : end ≡ line_end text at) where
  abbrev line : List ℕ
  line = take (end - at) (drop at text)

  some : ¬ (row_at (i + 1) line ≡ lost)
  some q =
      let is = is_line i text at done (line_inside i text at done good) end ee line refl (row_at (i + 1) line) refl in
      line_formed i text at done good (sym (ap (row_at (i + 1)) is) ∙ q)

  pub known_head : (o : Option Item) → MatchOption o ((head_at line).next ≡ lost) (λ head. head ≡ head_at line) → IsSome o
  known_head None e = absurd (some ((formed (i + 1) line some).0 ∙ e))
  known_head (Some head) e = refl

  module _ (head : Item) (eh : head ≡ head_at line) where
    pub known_row : values_at entry_at line head.next 64 ≡ row_of (i + 1) (line_at text at)
    known_row =
        let from : head.next ≡ row_at (i + 1) line = rw eh (sym (formed (i + 1) line some).0) in
        is_row i text at done (line_inside i text at done good) end ee line refl head.next from

    pub known_has : HasEntries line head.next 0
    known_has = rw eh (formed (i + 1) line some).1
