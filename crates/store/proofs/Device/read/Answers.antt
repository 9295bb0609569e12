-- `Device::read` meets its contract: e is what the check says, of the device and the image.
use mathlib.Core.Path.{ap, ◌∙◌}
use Rattle.model.specs.Refusals.{View, read_number}
use Rattle.model.specs.Calls.{read}
use Rattle.store.proofs.Laws.{read_lies, part_refused, part_shown}
use Rattle.store.proofs.Device.read.Goals as goal

pub copy_a-requires : goal.copy_a-requires
copy_a-requires c = let a = c.args in
    let e = c.in-Ok.ensures ∙ ap (λ (v : View). read_number v a.role a.unit) c.view.ensures.seen in
    read_lies a.self.plan a.self.payload a.self.phase a.image.now a.role a.unit e

pub returns-in-Ok : goal.returns-in-Ok
unfolding read
returns-in-Ok c = let a = c.args in
    let e = c.in-Ok.ensures ∙ ap (λ (v : View). read_number v a.role a.unit) c.view.ensures.seen in
    c.copy_a.ensures ∙ part_shown _ _ e

pub returns-in-Err : goal.returns-in-Err
unfolding read
returns-in-Err c = let a = c.args in
    let e = c.in-Err.ensures ∙ ap (λ (v : View). read_number v a.role a.unit) c.view.ensures.seen in
    part_refused _ _ _ e
