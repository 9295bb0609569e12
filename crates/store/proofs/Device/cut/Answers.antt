-- `Device::cut` meets its contract.
use mathlib.Core.Path.{refl, ap, ◌∙◌}
use lib.ListN.{length}
use Rattle.model.specs.Refusals.{View}
use Rattle.model.specs.Refusals.{cut_number}
use Rattle.model.specs.Calls.{cut, image_after}
use Rattle.store.proofs.Laws.{refused, accepted, at_phase}
use Rattle.store.proofs.Device.cut.Goals as goal

pub returns-in-Err : goal.returns-in-Err
unfolding cut
returns-in-Err c = let a = c.args in
    refused a.self a.image.now _ _ _ _ c.refused.ensures (c.in-Err.ensures ∙ ap (λ (v : View). cut_number v (length a.page.now)) c.view.ensures.seen)

pub returns : goal.returns
unfolding cut image_after
returns c = let a = c.args in
    accepted a.self a.image.now _ _ _ _ (c.in_default.ensures ∙ ap (λ (v : View). cut_number v (length a.page.now)) c.view.ensures.seen)
    (at_phase a.self _ _ _ _ _ _ _ c.at.ensures refl refl c.tear_on.ensures)
