-- `group::has` meets its contract. The loop's invariant: the members that are left decide.
use lib.ListN.{length}
use Rattle.model.specs.Groups.{among}
use Rattle.group.proofs.Walk.{Goes}
use Rattle.group.proofs.has.Given as goal

abbrev pub invariant-loop-member : goal.invariant-loop-member
invariant-loop-member l = Goes l.plan l.bytes l.rest (among l.unit)

abbrev pub decreases-loop-member : goal.decreases-loop-member
decreases-loop-member l = length l.rest
