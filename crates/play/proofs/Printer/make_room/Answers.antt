-- `Printer::make_room` meets its contract: the page's front once it is written out, otherwise the place that was reached.
use Rattle.std.proofs.Common.{arith, refl, ap, ◌∙◌, ◌-◌, length}
use Rattle.printing.specs.Printed.{line_most}
use Rattle.std.proofs.lemmas.Bool.{cond_below, cond_above}
use Rattle.play.specs.Plays.{place_for}
use Rattle.play.proofs.Printer.make_room.Goals as goal

pub returns-in_ok-flush-clause-made : goal.returns-in_ok-flush-clause-made
unfolding place_for
returns-in_ok-flush-clause-made g c =
    let p = c.args.self.now.page in
    let e = c.in_ok-flush.ensures in
    (e.flushed ∙ cond_below (length p.bytes.now - p.used) line_most 0 p.used (omega arith), omega (arith, e.flushed, ap length e.bytes))

pub returns-else-room-lt-LINE_MOST-clause-made : goal.returns-else-room-lt-LINE_MOST-clause-made
unfolding place_for
returns-else-room-lt-LINE_MOST-clause-made g c =
    let p = c.args.self.now.page in
    (cond_above (length p.bytes.now - p.used) line_most 0 p.used p.used (omega arith) refl, omega arith)
