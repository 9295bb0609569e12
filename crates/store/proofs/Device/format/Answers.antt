-- `Device::format` meets its contract.
use mathlib.Core.Path.{refl, ap, ◌∙◌}
use Rattle.model.specs.Refusals.{format_number}
use Rattle.model.specs.Calls.{format}
use Rattle.lookup.proofs.Laws.{room}
use Rattle.refusal.proofs.Laws.{live}
use Rattle.store.proofs.Laws.{refused, accepted}
use Rattle.store.proofs.Device.format.Goals as goal

pub returns-in-Err : goal.returns-in-Err
unfolding format
returns-in-Err c = let a = c.args in
    refused a.self a.image.now _ _ _ _ c.refused.ensures (c.in-Err.ensures ∙ ap format_number c.view.ensures.seen)

pub format_units-requires : goal.format_units-requires
unfolding format_number
format_units-requires c = let a = c.args in
    let d = a.self in
    let r = room d.plan d.payload d.phase a.image.now (live d.plan d.payload d.phase a.image.now 0 _ (c.in_default.ensures ∙ ap format_number c.view.ensures.seen) refl) in
    (r.ok, r.long)

pub returns : goal.returns
unfolding format
returns c = let a = c.args in
    accepted a.self a.image.now _ _ _ _ (c.in_default.ensures ∙ ap format_number c.view.ensures.seen)
    (record { number = refl; device = c.blank.ensures; image = c.format_units.ensures })
