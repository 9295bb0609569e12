-- Each list takes its bytes off the text.
use Rattle.std.proofs.Common.{length}
use Rattle.lists.proofs.lists.Given as goal

abbrev pub decreases-loop-head : goal.decreases-loop-head
decreases-loop-head g l = length l.left
