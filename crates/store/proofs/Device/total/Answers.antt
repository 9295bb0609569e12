-- `Device::total` meets its contract.
use mathlib.Core.Path.{ap, ◌∙◌}
use Rattle.model.specs.Refusals.{View}
use Rattle.std.proofs.lemmas.Result.{err_from_is_err_and}
use Rattle.model.specs.Refusals.{total_number}
use Rattle.store.proofs.Rides.{total_refused, total_size, total_shown}
use Rattle.store.proofs.Device.total.Goals as goal

pub returns-in_err-check_total : goal.returns-in_err-check_total
returns-in_err-check_total c = let a = c.args in
    let p = err_from_is_err_and c.from_residual.result c.from_residual.ensures.1 in
    rw (p.1, p.2) (total_refused a.self a.image.now a.role a.unit _ (c.in_err-check_total.ensures ∙ ap (λ (v : View). total_number v a.role a.unit) c.view.ensures.seen))

pub amount_of-requires : goal.amount_of-requires
amount_of-requires c = let a = c.args in
    total_size a.self a.image.now a.role a.unit (c.in_ok-check_total.ensures ∙ ap (λ (v : View). total_number v a.role a.unit) c.view.ensures.seen) _ c.read.ensures

pub returns : goal.returns
returns c = let a = c.args in
    total_shown a.self a.image.now a.role a.unit (c.in_ok-check_total.ensures ∙ ap (λ (v : View). total_number v a.role a.unit) c.view.ensures.seen) _ c.read.ensures _ c.amount_of.ensures
