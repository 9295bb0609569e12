-- What the brake promises, said of the numbers and drives that the contracts of `drive` and `drive_over` cite. It is proved in
-- proofs/Promises.antt.
use Rattle.std.specs.Prelude.{ℕ, ◌+◌, ◌≤◌, ◌<◌, ◌≡◌, List}
use Rattle.model.specs.Drive.{drive_number, drive}
use Rattle.brake.specs.Over.{drive_over_number, drive_over}
use Rattle.brake.specs.Table.{drives}

-- "Level l is 1 to 20, rate r is 0 to 255": these are accepted, and no others.
pub record InRange (l r : ℕ) : Type 0 where
  pub above : 0 < l
  pub level : l ≤ 20
  pub rate : r ≤ 255

abbrev pub Accepts : Type 0
Accepts = (l r : ℕ) → (drive_number l r ≡ 0 → InRange l r) × (InRange l r → drive_number l r ≡ 0)

-- "Refused: drive 0."
abbrev pub NoneDriven : Type 0
NoneDriven = (l r : ℕ) → ¬ (drive_number l r ≡ 0) → drive l r ≡ 0

abbrev pub NoneDrivenOver : Type 0
NoneDrivenOver = (table : List ℕ) (l r : ℕ) → ¬ (drive_over_number table l r ≡ 0) → drive_over table l r ≡ 0

-- "in steps of a 12-bit converter": 12 bits hold up to 4095
abbrev pub Fits : Type 0
Fits = (l r : ℕ) → drive_number l r ≡ 0 → drive l r ≤ 4095

-- "the rise by level": a level more drives harder, at every rate
abbrev pub Rises : Type 0
Rises = (l r : ℕ) → drive_number l r ≡ 0 → drive_number (l + 1) r ≡ 0 → drive l r < drive (l + 1) r

-- Ticket 1: "Drive is offered over such a table too". Over the constant table it is the ordinary drive.
abbrev pub OverConstant : Type 0
OverConstant = (l r : ℕ) → (drive_over_number drives l r ≡ drive_number l r) × (drive_over drives l r ≡ drive l r)
