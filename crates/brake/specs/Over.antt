-- Ticket 1, 'Brake curves from the bike maker': the drive over a lent table; and what an answer says.
use Rattle.std.specs.Prelude.{ℕ, ◌+◌, ◌*◌, ◌-◌, ◌/◌, ◌≡◌, cond, List, eqb, length, get_or, Result, Ok, Err}
use Rattle.model.specs.declared.refusals.Refusal.{Refusal}
use Rattle.model.specs.Numbers.{NO-ROOM, numbered}
use Rattle.model.specs.Drive.{drive_number, drive_unless_refused}

-- "11 for a table that isn't 1,280 long .., tested first, also before 9 by the drive"
unfoldable pub drive_over_number : List ℕ → ℕ → ℕ → ℕ
drive_over_number table l r = cond (eqb (length table) 1280) (drive_number l r) NO-ROOM

-- "Drive is offered over such a table too, entry 64 × (l - 1) + c."
unfoldable pub drive_over : List ℕ → ℕ → ℕ → ℕ
drive_over table l r = drive_unless_refused (drive_over_number table l r) (get_or table (64 * (l - 1) + r / 4) 0)

-- what an answer drives: "Refused: drive 0."
abbrev pub driven : Result ℕ Refusal → ℕ
driven (Ok d) = d
driven (Err r) = 0

-- an answer is this number and this drive
pub record Answers (answer : Result ℕ Refusal) (n d : ℕ) : Type 0 where
  pub number : numbered answer ≡ n
  pub drive : driven answer ≡ d
