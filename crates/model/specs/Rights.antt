-- Ticket 11, 'Rider, gym, service': "a table, set at start .. and kept, gives each role, per unit: nothing, see, or see and write". It is
-- a part of the plan, which start takes and every call keeps.
use Rattle.std.specs.Prelude.{ℕ, List, Bool, ◌||◌, eqb, get_or, replicate}
use Rattle.model.specs.declared.Rights.{Rights}
use Rattle.model.specs.declared.Role.{Role}
use Rattle.model.specs.declared.Role.TheVariants.{Rider, Gym, Service}

-- a number of the table; any other than SEE and SEE-AND-WRITE is nothing too
abbrev pub NOTHING : ℕ
NOTHING = 0

abbrev pub SEE : ℕ
SEE = 1

abbrev pub SEE-AND-WRITE : ℕ
SEE-AND-WRITE = 2

-- a role's eight numbers, one a unit
abbrev pub line : Rights → Role → List ℕ
line rights Rider = rights.rider
line rights Gym = rights.gym
line rights Service = rights.service

unfoldable pub right : Rights → Role → ℕ → ℕ
right rights role u = get_or (line rights role) u NOTHING

unfoldable pub may_write : Rights → Role → ℕ → Bool
may_write rights role u = eqb (right rights role u) SEE-AND-WRITE

unfoldable pub may_see : Rights → Role → ℕ → Bool
may_see rights role u = eqb (right rights role u) SEE || may_write rights role u

-- "all nothing if refused"
abbrev pub no_rights : Rights
no_rights = record { rider = replicate 8 NOTHING; gym = replicate 8 NOTHING; service = replicate 8 NOTHING }

-- "The bench is service, with every right."
abbrev pub service_rights : Rights
service_rights = record { rider = replicate 8 NOTHING; gym = replicate 8 NOTHING; service = replicate 8 SEE-AND-WRITE }
