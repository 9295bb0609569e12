-- `Device::begin` meets its contract.
use mathlib.Core.Path.{refl, ap, ◌∙◌}
use lib.ListN.{length}
use Rattle.model.specs.Refusals.{View}
use Rattle.model.specs.Refusals.{begin_number}
use Rattle.model.specs.Calls.{begin}
use Rattle.store.proofs.Laws.{refused, accepted, at_phase, begin_narrow}
use Rattle.store.proofs.Device.begin.Goals as goal

pub returns-in-Err : goal.returns-in-Err
unfolding begin
returns-in-Err c = let a = c.args in
    refused a.self a.image.now _ _ _ _ c.refused.ensures (c.in-Err.ensures ∙ ap (λ (v : View). begin_number v a.role a.unit (length a.payload.now)) c.view-view.ensures.seen)

pub zero_filled-requires : goal.zero_filled-requires
zero_filled-requires c = let a = c.args in
    begin_narrow a.self.plan a.self.payload a.self.phase a.image.now a.role a.unit a.payload.now (c.in_default.ensures ∙ ap (λ (v : View). begin_number v a.role a.unit (length a.payload.now)) c.view-view.ensures.seen)

pub returns : goal.returns
unfolding begin
returns c = let a = c.args in
    accepted a.self a.image.now _ _ _ _ (c.in_default.ensures ∙ ap (λ (v : View). begin_number v a.role a.unit (length a.payload.now)) c.view-view.ensures.seen)
    (at_phase a.self _ _ _ _ _ _ _ c.at.ensures refl c.zero_filled.ensures refl)
