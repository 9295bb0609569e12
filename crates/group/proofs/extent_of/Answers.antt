-- `group::extent_of` meets its contract: the members passed take the bytes before those that are left.
use native.Mathlib.Omega.{arith}
use mathlib.Core.Path.{sym}
use Rattle.group.proofs.Extent.{reached_none, reached_all, reached_short, reached_more}
use Rattle.group.proofs.extent_of.Goals as goal

pub loop-init : goal.loop-init
loop-init c = reached_none _ _ _

pub returns-in_default : goal.returns-in_default
returns-in_default c = sym (reached_short c.loop.invariant (omega arith) c.in_default.ensures)

pub loop-preserved : goal.loop-preserved
loop-preserved c = reached_more c.loop.invariant (omega arith) c.in-Some.ensures

pub overflow_sub-result : goal.overflow_sub-result
overflow_sub-result c = c.loop.invariant.inside

pub returns : goal.returns
returns c = sym (reached_all c.loop.invariant (omega arith))
