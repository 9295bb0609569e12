-- The loop's invariant: the sum is where the unit that it has come to begins.
use Rattle.std.proofs.Common.{◌≡◌, ◌*◌, ◌≤◌}
use Rattle.model.specs.Layout.{base}
use Rattle.layout.proofs.base_of.Given as goal

abbrev pub invariant-loop-earlier : goal.invariant-loop-earlier
invariant-loop-earlier l = (l.sum ≡ base l.plan l.earlier) × (l.sum ≤ l.earlier * 131116)
