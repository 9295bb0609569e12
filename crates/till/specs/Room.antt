-- What the crate's own functions ask for: a plan that is not refused, with an eight bytes wide unit 0 and unit 1, over an image that has room.
use Rattle.std.specs.Prelude.{◌≤◌, ◌<◌, ◌≡◌, List, ℕ, length}
use Rattle.model.specs.declared.Plan.{Plan}
use Rattle.model.specs.Layout.{width, total}
use Rattle.model.proofs.RefusalLaws.{PlanOk}

pub record Room (p : Plan) (image : List ℕ) : Type 0 where
  pub ok : PlanOk p
  pub long : total p ≤ length image
  pub two : 1 < p.count
  pub wide₀ : width p 0 ≡ 8
  pub wide₁ : width p 1 ≡ 8
