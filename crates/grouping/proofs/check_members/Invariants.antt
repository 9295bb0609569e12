-- `grouping::check_members` meets its contract. The loop's invariant: the members that are left decide.
use Prim.Native.Nat.{ℕ}
use lib.ListN.{length}
use Rattle.model.specs.Layout.{marker, get}
use Rattle.model.specs.Refusals.{dirty}
use Rattle.group.proofs.Walk.{Goes}
use Rattle.grouping.proofs.check_members.Given as goal

abbrev pub invariant-loop-unit : goal.invariant-loop-unit
invariant-loop-unit l = Goes l.view.plan l.bytes l.rest (dirty (λ (u : ℕ). get l.view.plan l.view.image.now u marker))

abbrev pub decreases-loop-unit : goal.decreases-loop-unit
decreases-loop-unit l = length l.rest
