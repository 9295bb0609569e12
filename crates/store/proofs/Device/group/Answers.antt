-- `Device::group` meets its contract.
use mathlib.Core.Path.{refl, ap, ◌∙◌}
use Rattle.model.specs.Refusals.{View}
use Rattle.model.specs.Refusals.{group_number}
use Rattle.model.specs.Calls.{group}
use Rattle.store.proofs.Laws.{refused, accepted, at_phase, group_narrow}
use Rattle.store.proofs.Device.group.Goals as goal

pub returns-in-Err : goal.returns-in-Err
unfolding group
returns-in-Err c = let a = c.args in
    refused a.self a.image.now _ _ _ _ c.refused.ensures (c.in-Err.ensures ∙ ap (λ (v : View). group_number v a.bytes.now) c.view.ensures.seen)

pub record_of-requires : goal.record_of-requires
record_of-requires c = let a = c.args in
    group_narrow a.self.plan a.self.payload a.self.phase a.image.now a.bytes.now (c.in_default.ensures ∙ ap (λ (v : View). group_number v a.bytes.now) c.view.ensures.seen)

pub returns : goal.returns
unfolding group
returns c = let a = c.args in
    accepted a.self a.image.now _ _ _ _ (c.in_default.ensures ∙ ap (λ (v : View). group_number v a.bytes.now) c.view.ensures.seen)
    (at_phase a.self _ _ _ _ _ _ _ c.at.ensures refl c.record_of.ensures refl)
