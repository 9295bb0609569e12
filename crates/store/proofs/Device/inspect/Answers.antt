-- `Device::inspect` meets its contract.
use mathlib.Core.Path.{refl, ap, sym, ◌∙◌}
use mathlib.Core.List.{[]}
use Rattle.model.specs.Refusals.{inspect_number}
use Rattle.lookup.proofs.Laws.{room}
use Rattle.refusal.proofs.Laws.{live}
use Rattle.store.proofs.Laws.{inspect_refused, inspect_says}
use Rattle.store.proofs.Device.inspect.Goals as goal

pub returns-in-Err : goal.returns-in-Err
returns-in-Err c = let a = c.args in
    inspect_refused a.self a.image.now _ _ c.number.ensures (c.in-Err.ensures ∙ ap inspect_number c.view.ensures.seen)

pub lowest_bad-requires : goal.lowest_bad-requires
unfolding inspect_number
lowest_bad-requires c = let a = c.args in
    let d = a.self in
    let r = room d.plan d.payload d.phase a.image.now (live d.plan d.payload d.phase a.image.now 0 [] (c.in_default.ensures ∙ ap inspect_number c.view.ensures.seen) refl) in
    (r.ok, r.long)

pub returns-in-Some : goal.returns-in-Some
returns-in-Some c = let a = c.args in
    inspect_says a.self a.image.now (c.in_default.ensures ∙ ap inspect_number c.view.ensures.seen) _ (sym c.in-Some.is ∙ c.lowest_bad.ensures)

pub returns-in-None : goal.returns-in-None
returns-in-None c = let a = c.args in
    inspect_says a.self a.image.now (c.in_default.ensures ∙ ap inspect_number c.view.ensures.seen) _ (sym c.in-None.is ∙ c.lowest_bad.ensures)
