-- What the check says of the entries of a table that passes it.
use Prim.Native.Nat.{ℕ, zero, suc, ◌+◌, ◌*◌, ◌≤◌, ◌<◌}
use mathlib.Core.Path.{◌≡◌, refl, ap, ◌∙◌}
use mathlib.Core.Bool.{true, ◌&&◌}
use mathlib.Core.List.{List, [], ◌∷◌}
use native.Mathlib.Omega.{arith}
use lib.Dec.{eqb, leb}
use lib.ListN.{length, take, drop, get_or, length-drop}
use lib.Seq.{get_or-take, get_or-drop, drop-drop, length-take-le}
use borrow.Author.Tests.{ltb-true, leb-true, eqb-true}
use Rattle.row.specs.Row.{higher, in_rule}
use Rattle.curve.specs.Curve.{levels_good, passes}
use Rattle.model.proofs.RefusalLaws.{and_true}

-- ---- one row
record First (before : ℕ) (lower : List ℕ) (x : ℕ) (row : List ℕ) : Type 0 where
  pub small : x ≤ 4095
  pub after : before ≤ x
  pub over : higher lower x ≡ true
  pub rest : in_rule x (drop 1 lower) row ≡ true

first : (before : ℕ) (lower : List ℕ) (x : ℕ) (row : List ℕ) → in_rule before lower (x ∷ row) ≡ true → First before lower x row
unfolding in_rule
first before lower x row e =
    let a = and_true (leb x 4095 && leb before x && higher lower x) (in_rule x (drop 1 lower) row) e in
    let b = and_true (leb x 4095 && leb before x) (higher lower x) a.0 in
    let d = and_true (leb x 4095) (leb before x) b.0 in
    record { small = leb-true x 4095 d.0; after = leb-true before x d.1; over = b.1; rest = a.1 }

row_small : (before : ℕ) (lower row : List ℕ) → in_rule before lower row ≡ true → (i : ℕ) → i < length row → get_or row i 0 ≤ 4095
row_small before lower [] e i h = absurd (omega arith)
row_small before lower (x ∷ row) e zero h = (first before lower x row e).small
row_small before lower (x ∷ row) e (suc i) h = row_small x (drop 1 lower) row (first before lower x row e).rest i (omega arith)

row_rises : (before : ℕ) (lower row : List ℕ) → in_rule before lower row ≡ true → (i : ℕ) → suc i < length row
    → get_or row i 0 ≤ get_or row (suc i) 0
row_rises before lower [] e i h = absurd (omega arith)
row_rises before lower (x ∷ []) e i h = absurd (omega arith)
row_rises before lower (x ∷ y ∷ row) e zero h = (first x (drop 1 lower) y row (first before lower x (y ∷ row) e).rest).after
row_rises before lower (x ∷ y ∷ row) e (suc i) h =
    row_rises x (drop 1 lower) (y ∷ row) (first before lower x (y ∷ row) e).rest i (omega arith)

row_over : (before : ℕ) (lower row : List ℕ) → in_rule before lower row ≡ true → (i : ℕ) → i < length row → i < length lower
    → get_or lower i 0 < get_or row i 0
row_over before lower [] e i h l = absurd (omega arith)
row_over before [] (x ∷ row) e i h l = absurd (omega arith)
row_over before (y ∷ lower) (x ∷ row) e zero h l = ltb-true y x (first before (y ∷ lower) x row e).over
row_over before (y ∷ lower) (x ∷ row) e (suc i) h l =
    row_over x lower row (first before (y ∷ lower) x row e).rest i (omega arith) (omega arith)

-- ---- the rows of a table
abbrev row_in : List ℕ → ℕ → List ℕ
row_in table l = take 64 (drop (64 * l) table)

abbrev below : List ℕ → List ℕ → ℕ → List ℕ
below lower table zero = lower
below lower table (suc l) = row_in table l

-- level l + 1 of a table is level l of what lies after its first
row_after : (table : List ℕ) (l : ℕ) → row_in (drop 64 table) l ≡ row_in table (suc l)
row_after table l =
    let n : 64 * suc l ≡ 64 + 64 * l = omega arith in
    rw n (ap (take 64) (drop-drop (64 * l) 64 table))

below_after : (lower table : List ℕ) (l : ℕ) → below (take 64 table) (drop 64 table) l ≡ below lower table (suc l)
below_after lower table zero = refl
below_after lower table (suc l) = row_after table l

level_good : (n : ℕ) (lower table : List ℕ) → levels_good n lower table ≡ true → (l : ℕ) → l < n
    → in_rule 0 (below lower table l) (row_in table l) ≡ true
unfolding levels_good
level_good zero lower table e l h = absurd (omega arith)
level_good (suc n) lower table e zero h =
    (and_true (in_rule 0 lower (take 64 table)) (levels_good n (take 64 table) (drop 64 table)) e).0
level_good (suc n) lower table e (suc l) h =
    let rest = (and_true (in_rule 0 lower (take 64 table)) (levels_good n (take 64 table) (drop 64 table)) e).1 in
    rw (← row_after table l, ← below_after lower table l) (level_good n (take 64 table) (drop 64 table) rest l (omega arith))

-- ---- the promise: l and c count from 0
pub table_long : (table : List ℕ) → passes table ≡ true → length table ≡ 1280
table_long table good = eqb-true (length table) 1280 (and_true (eqb (length table) 1280) (levels_good 20 [] table) good).0

module _ (table : List ℕ) (good : passes table ≡ true) (l c : ℕ) (level : l < 20) (bin : c < 64) where
  in_row : (k i : ℕ) → k < 20 → i < 64 → (get_or (row_in table k) i 0 ≡ get_or table (64 * k + i) 0) × (i < length (row_in table k))
  in_row k i h b =
      let n : length (row_in table k) ≡ 64 =
      length-take-le 64 (drop (64 * k) table) (rw (length-drop (64 * k) table) (omega (arith, table_long table good))) in
      (get_or-take 64 (drop (64 * k) table) i 0 b ∙ get_or-drop (64 * k) table i 0, omega arith)

  rule : (k : ℕ) → k < 20 → in_rule 0 (below [] table k) (row_in table k) ≡ true
  rule k h = level_good 20 [] table (and_true (eqb (length table) 1280) (levels_good 20 [] table) good).1 k h

  -- "Every entry is at most 4,095"
  pub entry_small : get_or table (64 * l + c) 0 ≤ 4095
  entry_small =
      let at = in_row l c level bin in
      rw at.0 at (row_small 0 (below [] table l) (row_in table l) (rule l level) c at.1)

  -- "no line ever falls"
  pub never_falls : suc c < 64 → get_or table (64 * l + c) 0 ≤ get_or table (64 * l + suc c) 0
  never_falls h =
      let here = in_row l c level bin in
      let next = in_row l (suc c) level h in
      rw (here.0, next.0) at (row_rises 0 (below [] table l) (row_in table l) (rule l level) c next.1)

  -- "each entry is above the same bin one level lower"
  pub level_above : suc l < 20 → get_or table (64 * l + c) 0 < get_or table (64 * suc l + c) 0
  level_above h =
      let here = in_row l c level bin in
      let up = in_row (suc l) c h bin in
      rw (here.0, up.0) at (row_over 0 (row_in table l) (row_in table (suc l)) (rule (suc l) h) c up.1 here.1)
