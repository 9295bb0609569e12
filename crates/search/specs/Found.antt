-- What the search for a bad marker finds, and what the calls make of it.
use Rattle.std.specs.Prelude.{ℕ, ◌-◌, List, None, Some}
use Rattle.std.specs.Prelude as prelude
use Rattle.std.proofs.Math.Option.{Option, none, some}
use Rattle.search.specs.declared.Bad.{Bad}
use Rattle.model.specs.declared.Plan.{Plan}
use Rattle.model.specs.Layout.{marker, get}
use Rattle.model.specs.Calls.{lowest_bad}

abbrev pub lowest_from : Plan → List ℕ → ℕ → Option ℕ
lowest_from p image u = lowest_bad p image (p.count - u) u

abbrev pub found : Plan → List ℕ → Option ℕ → prelude.Option Bad
found p image none = None
found p image (some u) = Some (record { unit = u; marker = get p image u marker })
