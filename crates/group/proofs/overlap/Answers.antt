-- `group::overlap` meets its contract: a unit twice, or the record.
use mathlib.Core.Path.{◌∙◌}
use Rattle.group.proofs.Walk.{overlaps_twice, overlaps_record, overlaps_none}
use Rattle.group.proofs.overlap.Goals as goal

pub returns-then-has_twice : goal.returns-then-has_twice
returns-then-has_twice c = λ parts. c.if-has_twice.true ∙ overlaps_twice _ _ parts c.if-has_twice.true c.has_twice.ensures

pub returns-then-plan : goal.returns-then-plan
returns-then-plan c = λ parts. overlaps_record _ _ parts c.if-has_twice.false c.has_twice.ensures c.if-plan.true c.last_of.ensures c.has.ensures

pub returns-else-plan : goal.returns-else-plan
returns-else-plan c = λ parts. c.if-plan.false ∙ overlaps_none _ _ parts c.if-has_twice.false c.has_twice.ensures c.if-plan.false
