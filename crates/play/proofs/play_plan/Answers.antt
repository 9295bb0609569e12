-- `play::play_plan` meets its contract: the units of a plan that start accepts lie in the image.
use Rattle.std.proofs.Common.{arith, rules, sym, length-take-le}
use Rattle.model.proofs.RefusalLaws.{start_says}
use Rattle.play.proofs.Bounds.{accepted, total_most}
use Rattle.play.proofs.play_plan.Goals as goal

pub base_of-requires : goal.base_of-requires
base_of-requires g c =
    (start_says _ (accepted _ _ c.start-started.ensures c.if-started-ne0.false)).page

pub slice_bounds-units-end : goal.slice_bounds-units-end
slice_bounds-units-end g c =
    omega (arith, c.base_of.ensures.0, total_most _ (accepted _ _ c.start-started.ensures c.if-started-ne0.false))

pub slice_bounds-units-end-2 : goal.slice_bounds-units-end-2
slice_bounds-units-end-2 g c =
    let most = total_most _ (accepted _ _ c.start-started.ensures c.if-started-ne0.false) in
    sym (length-take-le _ _ (omega (arith, c.base_of.ensures.0, most)))

pub play_lines-requires : goal.play_lines-requires
play_lines-requires g c =
    let ok = accepted _ _ c.start-started.ensures c.if-started-ne0.false in
    let most = total_most _ ok in
    let units = length-take-le c.base_of.result c.args.image.now (omega (arith, c.base_of.ensures.0, most)) in
    (search rules, search rules, search rules, (ok, omega (arith, c.base_of.ensures.0, units, c.format-formatted.auto.image)), search rules)
