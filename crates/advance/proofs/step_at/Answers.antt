-- `advance::step_at` meets its contract: by the phase's case.
use Rattle.lookup.proofs.Laws.{span_sound, span_inside}
use Rattle.advance.proofs.Parts.{idle_refused, by_case, of_phase}
use Rattle.advance.proofs.step_at.Goals as goal

pub step_writing-requires : goal.step_writing-requires
step_writing-requires c = let s = c.requires in
    (span_sound c.args.plan s.plan _ s.unit _ s.is, span_inside c.args.plan s.plan _ s.unit _ _ s.long s.is)

pub returns-in-Cold : goal.returns-in-Cold
returns-in-Cold c = let a = c.args in
    idle_refused a.plan a.payload.now a.image.now a.phase _ c.requires c.in-Cold.is

pub returns-in-Writing : goal.returns-in-Writing
returns-in-Writing c = let a = c.args in
    by_case a.plan a.payload.now _ a.phase _ a.image.now _ _ c.in-Writing.is
    (c.step_writing.ensures a.plan (of_phase a.plan _ _ a.phase _ c.in-Writing.is c.requires))
