-- The page keeps its room.
use Rattle.std.proofs.Common.{◌≡◌, length}
use Rattle.play.specs.Plays.{Buffer}
use Rattle.play.proofs.Printer.show.Given as goal

abbrev pub invariant-loop-unit : goal.invariant-loop-unit
invariant-loop-unit g l = Buffer l.self.page × (length l.self.page.bytes.now ≡ length l.initial.self.page.bytes.now)
