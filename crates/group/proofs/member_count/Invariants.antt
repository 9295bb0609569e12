-- `group::member_count` meets its contract. The loop's invariant: the bytes before those that are left are so many members.
use Prim.Native.Nat.{◌≤◌}
use lib.ListN.{length}
use Rattle.group.proofs.Count.{Walked}
use Rattle.group.proofs.member_count.Given as goal

abbrev pub invariant-loop-unit : goal.invariant-loop-unit
invariant-loop-unit l = (l.members ≤ 4) × Walked l.plan l.bytes l.rest l.members

abbrev pub decreases-loop-unit : goal.decreases-loop-unit
decreases-loop-unit l = length l.rest
