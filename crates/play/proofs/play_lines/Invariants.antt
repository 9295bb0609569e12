-- A line's number is at most its offset, and the page keeps its room and its size.
use Rattle.std.proofs.Common.{◌≡◌, ◌+◌, ◌-◌, ◌≤◌, length}
use Rattle.play.specs.Plays.{Buffer}
use Rattle.play.proofs.play_lines.Given as goal

abbrev pub invariant-loop-at : goal.invariant-loop-at
invariant-loop-at g l =
    Buffer l.printer.page × (length l.image ≡ length l.initial.image) × (l.number ≤ l.at) × (l.at ≤ length l.text + 1)
    × (length l.printer.page.bytes.now ≡ length l.initial.printer.page.bytes.now)

abbrev pub decreases-loop-at : goal.decreases-loop-at
decreases-loop-at g l = length l.text - l.at
