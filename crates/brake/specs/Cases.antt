-- Numbers and drives over a lent table, computed from the definitions in proofs/Cases.antt:
-- whatever a later row mends is wrong in those before it.
use Rattle.std.specs.Prelude.{ℕ, ◌≡◌, List, [], ◌∷◌, map, replicate}
use Rattle.brake.specs.Over.{drive_over_number, drive_over}
use Rattle.brake.specs.Table.{drives}

pub record Row : Type 0 where
  pub table : List ℕ
  pub level : ℕ
  pub rate : ℕ
  pub number : ℕ
  pub drive : ℕ

abbrev row : List ℕ → ℕ → ℕ → ℕ → ℕ → Row
row table level rate number drive = record { table = table; level = level; rate = rate; number = number; drive = drive }

abbrev sevens : ℕ → List ℕ
sevens n = replicate n 7

unfoldable pub rows : List Row
rows =
    row [] 0 256 11 0
    ∷ row (sevens 1279) 0 256 11 0
    ∷ row (sevens 1281) 0 256 11 0
    ∷ row (sevens 1279) 1 0 11 0
    ∷ row (sevens 1281) 20 255 11 0
    ∷ row (sevens 1280) 0 256 9 0
    ∷ row (sevens 1280) 21 256 9 0
    ∷ row (sevens 1280) 0 0 9 0
    ∷ row (sevens 1280) 21 255 9 0
    ∷ row (sevens 1280) 1 256 10 0
    ∷ row (sevens 1280) 20 256 10 0
    ∷ row (sevens 1280) 1 0 0 7
    ∷ row (sevens 1280) 20 255 0 7
    -- C8 to C10, and where l × c is odd
    ∷ row drives 20 255 0 3930
    ∷ row drives 1 0 0 260
    ∷ row drives 1 8 0 261
    ∷ row drives 1 7 0 260
    ∷ row drives 3 4 0 581
    ∷ row drives 19 255 0 3738
    ∷ []

abbrev pub EveryRow : Type 0
EveryRow =
    map {A = Row} {B = ℕ × ℕ} (λ x. (drive_over_number x.table x.level x.rate, drive_over x.table x.level x.rate)) rows
    ≡ map {A = Row} {B = ℕ × ℕ} (λ x. (x.number, x.drive)) rows
