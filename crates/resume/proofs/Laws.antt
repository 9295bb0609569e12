-- The record unit's copy A, and what the code asks of it.
use Prim.Native.Nat.{ℕ, ◌≤◌, ◌<◌}
use mathlib.Core.Path.{◌≡◌}
use mathlib.Core.List.{List}
use lib.ListN.{length}
use Rattle.model.specs.declared.Plan.{Plan}
use Rattle.model.specs.Plans.{width}
use Rattle.model.specs.Layout.{copy_a, total}
use Rattle.model.specs.Groups.{last}
use Rattle.model.specs.Calls.{record_in}
use Rattle.model.proofs.RefusalLaws.{PlanOk, width_bounds}
use Rattle.model.proofs.LayoutLaws.{copy_length_lem}
use Rattle.model.proofs.GroupLaws.{last_lt}

pub record_unit : (p : Plan) → PlanOk p → last p < p.count
record_unit p ok = last_lt p ok

pub record_size : (p : Plan) (image : List ℕ) → PlanOk p → total p ≤ length image → length (record_in p image) ≡ width p (last p)
record_size p image ok long = copy_length_lem p ok image (last p) copy_a (last_lt p ok) long

pub record_narrow : (p : Plan) → PlanOk p → width p (last p) ≤ 256
record_narrow p ok = (width_bounds p ok (last p) (last_lt p ok)).1

pub ruleset of_record = (record_unit, record_size, record_narrow)
