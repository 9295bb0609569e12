-- `group::extent_of` meets its contract. The loop's invariant: the members passed take the bytes before those that are left.
use Prim.Native.Nat.{◌-◌}
use Rattle.group.proofs.Extent.{Reached}
use Rattle.group.proofs.extent_of.Given as goal

abbrev pub invariant-loop : goal.invariant-loop
invariant-loop l = Reached l.plan l.bytes l.rest l.members (l.members - l.counter)
