-- `group::has` meets its contract: the members that are left decide.
use mathlib.Core.Path.{sym}
use Rattle.model.specs.Groups.{among}
use Rattle.group.proofs.Walk.{goes_end, has_it, has_not}
use Rattle.group.proofs.has.Goals as goal

pub returns-then-unit-member : goal.returns-then-unit-member
returns-then-unit-member c = has_it c.loop-member.invariant c.in-Some.ensures c.if-unit-member.true

pub loop-member-preserved : goal.loop-member-preserved
loop-member-preserved c = has_not c.loop-member.invariant c.in-Some.ensures c.if-unit-member.false

pub returns : goal.returns
unfolding among
returns c = λ n e. sym (goes_end c.loop-member.invariant c.in_default.ensures n e)
