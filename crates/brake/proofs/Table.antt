-- Document 01, 'Brake drive': "its rule is shown once for the whole table", and "one computed test over all entries carries the
-- rule and the rise by level". Here are the test, and what it says of each entry of a table that passes it.
use Prim.Native.Nat.{ℕ, zero, suc, ◌+◌, ◌*◌, ◌-◌, ◌/◌, ◌%◌, ◌<◌}
use native.Mathlib.Nat.{add-zero, zero-add, add-suc, suc-add, le_of_suc-le-suc, not-suc-le-zero}
use native.Mathlib.Omega.{arith}
use mathlib.Core.Path.{◌≡◌, ◌∙◌, sym}
use mathlib.Core.Bool.{Bool, true, false, ◌&&◌}
use mathlib.Core.List.{List, [], ◌∷◌, ◌++◌}
use lib.Dec.{T, eqb, ltb, eqb→eq, ltb→lt}
use lib.ListN.{length, get_or, replicate}
use lib.Seq.{get_or-append-add}
use Rattle.model.specs.Drive.{drive_rule, drive_number, drive}
use Rattle.brake.proofs.Accepted.{in_range, by_rule}

-- the rule at place k = 64 × (level - 1) + bin
abbrev pub rule_at : ℕ → ℕ
rule_at k = drive_rule (k / 64 + 1) (k % 64)

-- The test: from place k on, each entry is the rule's, and above the one that stands in step with it in `lower`.
abbrev pub right : ℕ → List ℕ → List ℕ → Bool
right k lower [] = true
right k [] (x ∷ entries) = false
right k (y ∷ lower) (x ∷ entries) = eqb x (rule_at k) && ltb y x && right (suc k) lower entries

-- A table is held against itself 64 places, one level, lower. Level 1 has none below it: there zeros stand in.
pub record Tested (table : List ℕ) : Type 0 where
  pub size : length table ≡ 1280
  pub passes : T (right 0 (replicate 64 0 ++ table) table)

-- three tests in one, taken apart
three : (a b c : Bool) → T (a && b && c) → T a × T b × T c
three true true c t = (tt, tt, t)
three true false c t = absurd t
three false b c t = absurd t

-- what the test from place k on says of the i-th entry from there
each : (k : ℕ) (lower entries : List ℕ) → T (right k lower entries) → (i : ℕ) → i < length entries →
    (get_or entries i 0 ≡ rule_at (k + i)) × (get_or lower i 0 < get_or entries i 0)
each k lower [] t i h = absurd (not-suc-le-zero h)
each k [] (x ∷ entries) t i h = absurd t
each k (y ∷ lower) (x ∷ entries) t zero h =
    let passed = three (eqb x (rule_at k)) (ltb y x) (right (suc k) lower entries) t in
    (rw (add-zero k) (eqb→eq x (rule_at k) passed.0), ltb→lt y x passed.1)
each k (y ∷ lower) (x ∷ entries) t (suc i) h =
    let passed = three (eqb x (rule_at k)) (ltb y x) (right (suc k) lower entries) t in
    rw (add-suc k i, ← suc-add k i) (each (suc k) lower entries passed.2 i (le_of_suc-le-suc h))

module _ (table : List ℕ) (tested : Tested table) where
  at : (k : ℕ) → k < 1280 → (get_or table k 0 ≡ rule_at (0 + k)) × (get_or (replicate 64 0 ++ table) k 0 < get_or table k 0)
  at k h = each 0 (replicate 64 0 ++ table) table tested.passes k (rw tested.size h)

  -- the rule, at each entry
  pub rule : (k : ℕ) → k < 1280 → get_or table k 0 ≡ rule_at k
  rule k h = rw (zero-add k) at (at k h).0

  -- the rise, at each entry of level 2 and above: 64 places lower stands the same bin, one level lower
  pub rise : (k : ℕ) → 64 + k < 1280 → get_or table k 0 < get_or table (64 + k) 0
  rise k h = rw (get_or-append-add (replicate 64 0) table k 0) at (at (64 + k) h).1

  -- what the look_up finds for a level and a rate that are accepted
  pub look_up : (l r : ℕ) → drive_number l r ≡ 0 → get_or table (64 * (l - 1) + r / 4) 0 ≡ drive l r
  look_up l r accepted =
      let range = in_range l r accepted in
      let k : ℕ = 64 * (l - 1) + r / 4 in
      let level : k / 64 + 1 ≡ l = omega arith in
      let bin : k % 64 ≡ r / 4 = omega arith in
      rw (level, bin) at (rule k (omega arith)) ∙ sym (by_rule l r accepted)
