-- The loop's invariant: the steps that are left give the outcome.
use Rattle.std.proofs.Common.{◌≡◌, ◌-◌}
use Rattle.model.specs.Steps.{steps}
use Rattle.advance.specs.Advances.{at}
use Rattle.advance.proofs.advance_by.Given as goal

abbrev pub invariant-loop : goal.invariant-loop
invariant-loop l = steps (l.count - l.counter) (at l.plan l.payload l.reached) l.image
    ≡ steps l.count (at l.plan l.initial.payload l.initial.reached) l.initial.image
