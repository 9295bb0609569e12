-- A line has a byte or more, so its number is bounded by the bytes that are behind it.
use Rattle.std.proofs.Common.{◌+◌, ◌≤◌, length}
use Rattle.looks.proofs.play_lines.Given as goal

abbrev pub invariant-loop-device : goal.invariant-loop-device
invariant-loop-device g l = l.number + length l.left ≤ 1 + length l.fn.text

abbrev pub decreases-loop-device : goal.decreases-loop-device
decreases-loop-device g l = length l.left
