-- Ticket 12, 'Pay per ride': what a ride costs, and the group that a paid ride saves.
use Rattle.std.specs.Prelude.{ℕ, ◌+◌, ◌-◌, ◌*◌, ◌/◌, min, List, ◌∷◌, ◌++◌, cond, eqb}
use Rattle.model.specs.Turns.{plus}

-- "A ride of 0 turns costs nothing; otherwise it costs 25 cents plus 7 cents for each started 500 turns, at most 900 cents."
unfoldable pub price : ℕ → ℕ
price turns = cond (eqb turns 0) 0 (min 900 (25 + 7 * ((turns - 1) / 500 + 1)))

-- "Unit 1, width 8, holds the cents taken, stored like the turns, and a paid ride saves both as one group, turns first."
unfoldable pub paid_group : List ℕ → List ℕ → ℕ → List ℕ
paid_group turnsHeld centsHeld turns = 0 ∷ (plus turnsHeld turns ++ (1 ∷ plus centsHeld (price turns)))
