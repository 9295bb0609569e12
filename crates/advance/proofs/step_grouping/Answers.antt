-- `advance::step_grouping` meets its contract: there is no such write, or its part of the payload is found.
use Rattle.std.proofs.lemmas.Result.{err_from_is_err_and}
use Rattle.model.proofs.RefusalLaws.{width_bounds}
use Rattle.model.proofs.GroupLaws.{last_lt}
use Rattle.advance.proofs.Parts.{part_refused}
use Rattle.advance.proofs.step_grouping.Goals as goal

pub part_of-requires : goal.part_of-requires
part_of-requires c = let p = c.args.plan in
    let ok = c.requires.0 in
    (width_bounds p ok _ (last_lt p ok)).1

pub returns-in_err-part : goal.returns-in_err-part
returns-in_err-part c = let a = c.args in
    let p = err_from_is_err_and c.from_residual.result c.from_residual.ensures.1 in
    rw (p.1, p.2) (part_refused a.plan a.payload.now a.write a.made a.image.now c.requires.0 c.requires.1 _ c.in_err-part.ensures)
