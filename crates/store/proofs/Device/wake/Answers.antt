-- `Device::wake` meets its contract.
use mathlib.Core.Path.{refl, ap, ◌∙◌}
use Rattle.model.specs.declared.Phase.{Phase}
use Rattle.model.specs.Refusals.{wake_number}
use Rattle.model.specs.Calls.{wake, resumed, reloaded}
use Rattle.lookup.proofs.Laws.{room}
use Rattle.refusal.proofs.Laws.{live}
use Rattle.store.proofs.Laws.{refused, accepted, at_phase}
use Rattle.store.proofs.Device.wake.Goals as goal

pub returns-in-Err : goal.returns-in-Err
unfolding wake
returns-in-Err c = let a = c.args in
    refused a.self a.image.now _ _ _ _ c.refused.ensures (c.in-Err.ensures ∙ ap wake_number c.view.ensures.seen)

pub cleanup_from-found-requires : goal.cleanup_from-found-requires
unfolding wake_number
cleanup_from-found-requires c = let a = c.args in
    let d = a.self in
    let r = room d.plan d.payload d.phase a.image.now (live d.plan d.payload d.phase a.image.now 0 _ (c.in_default.ensures ∙ ap wake_number c.view.ensures.seen) refl) in
    (r.ok, r.long)

pub resume-phase-requires : goal.resume-phase-requires
unfolding wake_number
resume-phase-requires c = let a = c.args in
    let d = a.self in
    let r = room d.plan d.payload d.phase a.image.now (live d.plan d.payload d.phase a.image.now 0 _ (c.in_default.ensures ∙ ap wake_number c.view.ensures.seen) refl) in
    (r.ok, r.long)

pub returns : goal.returns
unfolding wake
returns c = let a = c.args in
    let p = a.self.plan in
    let found = c.cleanup_from-found.ensures in
    accepted a.self a.image.now _ _ _ _ (c.in_default.ensures ∙ ap wake_number c.view.ensures.seen)
    (at_phase a.self _ _ _ _ _ _ _ c.at.ensures
    (c.resume-phase.ensures.0 ∙ ap (resumed p a.image.now) found)
    (c.resume-phase.ensures.1 ∙ ap (λ (x : Phase). reloaded p a.image.now x a.self.payload) found) refl)
