-- The loop's invariant: none of the first i widths is bad, the sum is that of the first i copies, and where the unit asked for was
-- passed, the sum before it was noted.
use Rattle.std.proofs.Common.{◌≡◌, ◌*◌, ◌<◌, ◌≤◌, false}
use Rattle.layout.proofs.Laws.{used, copied}
use Rattle.model.specs.Refusals.{bad_widths}
use Rattle.layout.proofs.measure.Given as goal

abbrev pub invariant-loop-i : goal.invariant-loop-i
invariant-loop-i l = (l.plan.count ≤ 8) × (bad_widths l.plan.widths l.i ≡ false)
    × (l.copies ≡ copied (used l.plan) l.plan.widths l.i) × (l.copies ≤ l.i * 271)
    × (l.unit < l.i → l.earlier ≡ copied (used l.plan) l.plan.widths l.unit) × (l.earlier ≤ 2168)
