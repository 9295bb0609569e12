-- One entry after another: the scratch, the rules and the entries that are left, a turn of the loop at a time.
use Prim.Native.Nat.{ℕ, suc, ◌+◌, ◌-◌, ◌≤◌, ◌<◌}
use mathlib.Core.Path.{◌≡◌, refl, ap, sym, ◌∙◌}
use mathlib.Core.Bool.{Bool, true, false, cond, ◌&&◌, ◌||◌}
use mathlib.Core.List.{List, [], ◌∷◌, ◌++◌, append-nil}
use native.Mathlib.Omega.{arith}
use native.Mathlib.Numerals.{add-one}
use lib.Dec.{eqb, ltb, leb}
use lib.ListN.{length, take, drop, get_or, set}
use lib.Seq.{take_all, take-suc-set, append_snoc, drop-cons, drop-drop, drop-nil, get_or-drop}
use borrow.Author.Tests.{eq-eqb, ne_eqb, leb-true}
use Rattle.model.proofs.Compare.{equal, differ, same}
use Rattle.model.proofs.RefusalLaws.{and_true}
use Rattle.token.specs.declared.Item.{Item}
use Rattle.token.specs.Token.{eat_at, entry_at}
use Rattle.list.specs.Items.{values_at}
use Rattle.row.specs.Row.{higher, in_rule, small}

-- the code's test of one entry of bin j, after `before` on its line and after i lines
abbrev pub tested : ℕ → List ℕ → ℕ → ℕ → ℕ → Bool
tested i scratch j before x = leb x 4095 && leb before x && (eqb i 0 || ltb (get_or scratch j 0) x)

-- ---- the row one level lower: of what stood at first, the entries from bin j on still stand
module _ (i : ℕ) (row first : List ℕ) (long : length first ≡ 64) (j x : ℕ) (is : drop j row ≡ drop j first) (high : j < 64) where
  held : get_or first j 0 ≡ get_or row j 0
  held =
      let n : j + 0 ≡ j = omega arith in
      rw n at (sym (get_or-drop j first 0 0) ∙ ap (λ (xs : List ℕ). get_or xs 0 0) (sym is) ∙ get_or-drop j row 0 0)

  above_at : higher (drop j (cond (eqb i 0) [] first)) x ≡ (eqb i 0 || ltb (get_or row j 0) x)
  above_at =
      elim (same i 0) [
        | equal z ↦ rw (eq-eqb i 0 z, drop-nil j)
        | differ h ↦ rw (ne_eqb i 0 h, drop-cons first j 0 (omega arith), held)
      ]

  -- what the code found: `good`
  module _ (before : ℕ) (rest : List ℕ) (good : Bool) (e : good ≡ tested i row j before x) where
    pub rule_goes_on : good ≡ true
        → in_rule before (drop j (cond (eqb i 0) [] first)) (x ∷ rest) ≡ in_rule x (drop (j + 1) (cond (eqb i 0) [] first)) rest
    unfolding in_rule
    rule_goes_on f = rw (above_at, sym e ∙ f, drop-drop 1 j (cond (eqb i 0) [] first))

    pub rule_ends : good ≡ false → in_rule before (drop j (cond (eqb i 0) [] first)) (x ∷ rest) ≡ false
    unfolding in_rule
    rule_ends f = rw (above_at, sym e ∙ f)

-- ---- the entries that are left, and the scratch
pub values_on : (line : List ℕ) (p end at : ℕ) (item : Item) (q : ℕ) → at < end → item ≡ entry_at line p → q ≡ eat_at line item.next 32
    → values_at entry_at line p (end - at) ≡ item.value ∷ values_at entry_at line q (end - (at + 1))
unfolding values_at
values_on line p end at item q h e f =
    let n : end - at ≡ suc (end - (at + 1)) = omega arith in
    rw (n, f, e)

pub values_end : (line : List ℕ) (p end at : ℕ) → end ≤ at → values_at entry_at line p (end - at) ≡ []
unfolding values_at
values_end line p end at h = let n : end - at ≡ 0 = omega arith in rw n

pub stored_on : (scratch whole rest : List ℕ) (at x : ℕ) → at < length scratch → take at scratch ++ x ∷ rest ≡ whole
    → take (at + 1) (set scratch at x) ++ rest ≡ whole
stored_on scratch whole rest at x h e = rw (add-one at, take-suc-set scratch at x h) (append_snoc (take at scratch) x rest ∙ e)

pub stored_end : (row rest whole : List ℕ) (at : ℕ) → length row ≤ at → rest ≡ [] → take at row ++ rest ≡ whole → row ≡ whole
stored_end row rest whole at h none e = sym (take_all at row h) ∙ sym (append-nil (take at row)) ∙ rw none at e

-- what stands from a place on stands from the next on
pub drop_more : (j : ℕ) (xs ys : List ℕ) → drop j xs ≡ drop j ys → drop (j + 1) xs ≡ drop (j + 1) ys
drop_more j xs ys e = sym (drop-drop 1 j xs) ∙ ap (drop 1) e ∙ drop-drop 1 j ys

both : (x y : Bool) → x && y ≡ true → x ≡ true
both true y e = refl
both false y e = e

-- ---- a row known to be small
pub small_first : (x : ℕ) (row : List ℕ) → small (x ∷ row) ≡ true → x ≤ 4095
unfolding small
small_first x row e = leb-true x 4095 (both (leb x 4095) (small row) e)

pub small_rest : (x : ℕ) (row : List ℕ) → small (x ∷ row) ≡ true → small row ≡ true
unfolding small
small_rest x row e = (and_true (leb x 4095) (small row) e).1

pub rule_small : (before : ℕ) (lower row : List ℕ) → in_rule before lower row ≡ true → small row ≡ true
unfolding in_rule small
rule_small before lower [] e = refl
rule_small before lower (x ∷ row) e =
    let a = and_true (leb x 4095 && leb before x && higher lower x) (in_rule x (drop 1 lower) row) e in
    let first = both (leb x 4095) (leb before x) (both (leb x 4095 && leb before x) (higher lower x) a.0) in
    rw first (rule_small x (drop 1 lower) row a.1)
