-- Document 01, 'Brake drive'.
use Rattle.std.specs.Prelude.{ℕ, zero, suc, ◌+◌, ◌*◌, ◌/◌, [], ◌∷◌, ◌||◌, eqb, ltb}
use Rattle.model.specs.Numbers.{BAD-LEVEL, BAD-RATE}
use Rattle.model.specs.Refusals.{◌when◌, first}

-- "Bin c = floor(r / 4). Drive = 100 + 160 × l + floor(l × c / 2)"
abbrev pub drive_rule : ℕ → ℕ → ℕ
drive_rule l c = 100 + 160 * l + l * c / 2

-- "9 level 0 or above 20; 10 rate above 255"
unfoldable pub drive_number : ℕ → ℕ → ℕ
drive_number l r = first (BAD-LEVEL when (eqb l 0 || ltb 20 l) ∷ BAD-RATE when ltb 255 r ∷ [])

-- "Refused: drive 0."
abbrev pub drive_unless_refused : ℕ → ℕ → ℕ
drive_unless_refused zero x = x
drive_unless_refused (suc n) x = 0

unfoldable pub drive : ℕ → ℕ → ℕ
drive l r = drive_unless_refused (drive_number l r) (drive_rule l (r / 4))
