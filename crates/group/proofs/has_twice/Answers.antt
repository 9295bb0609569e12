-- `group::has_twice` meets its contract: the members that are left decide.
use mathlib.Core.Path.{sym}
use Rattle.model.specs.Groups.{twice}
use Rattle.group.proofs.Walk.{goes_end, twice_it, twice_not}
use Rattle.group.proofs.has_twice.Goals as goal

pub returns-then-has : goal.returns-then-has
returns-then-has c = twice_it c.loop-member.invariant c.in-Some.ensures c.if-has.true c.has.ensures

pub loop-member-preserved : goal.loop-member-preserved
loop-member-preserved c = twice_not c.loop-member.invariant c.in-Some.ensures c.if-has.false c.has.ensures

pub returns : goal.returns
unfolding twice
returns c = λ n e. sym (goes_end c.loop-member.invariant c.in_default.ensures n e)
