-- The first member of some bytes: a unit number byte, and as many bytes as the unit is wide.
use Rattle.std.specs.Prelude.{ℕ, suc, ◌<◌, ◌≤◌, ◌≡◌, List, length, get_or, drop}
use Rattle.model.specs.declared.Plan.{Plan}
use Rattle.model.specs.Plans.{width}

-- some bytes begin with a whole member, of this unit and with these bytes behind it
abbrev pub Begins : Plan → List ℕ → ℕ → List ℕ → Type 0
Begins p bytes u behind = (u ≡ get_or bytes 0 0) × (width p u < length bytes) × (behind ≡ drop (suc (width p u)) bytes)

-- they begin with none: there is no byte, or fewer behind the first than the unit is wide
abbrev pub Short : Plan → List ℕ → Type 0
Short p bytes = length bytes ≤ width p (get_or bytes 0 0)
