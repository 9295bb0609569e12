-- Each text takes its bytes off those that are left.
use Rattle.std.proofs.Common.{length}
use Rattle.looks.proofs.main.Given as goal

abbrev pub decreases-loop-left : goal.decreases-loop-left
decreases-loop-left l = length l.left
