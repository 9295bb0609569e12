-- A plan measured, that is not refused.
use Rattle.std.specs.Prelude.{ℕ, ◌<◌, ◌≡◌}
use Rattle.layout.specs.declared.Measured.{Measured}
use Rattle.model.specs.declared.Plan.{Plan}
use Rattle.model.specs.Layout.{base, total}
use Rattle.model.specs.Refusals.{start_number}

pub record Measures (p : Plan) (u : ℕ) (m : Measured) : Type 0 where
  pub fine : start_number p ≡ 0
  pub total : m.total ≡ total p
  pub page : m.page ≡ p.page
  pub base : u < p.count → m.base ≡ base p u
