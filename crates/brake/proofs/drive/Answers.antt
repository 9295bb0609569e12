-- `brake::drive` meets its contract: refused, or the look-up by the table's computed test.
use borrow.Author.Rules.{rules}
use mathlib.Core.Path.{sym}
use Rattle.brake.specs.Table.{drives}
use Rattle.brake.proofs.Table.{look_up}
use Rattle.brake.proofs.Drives.{tested}
use Rattle.brake.proofs.Over.{refuses}
use Rattle.brake.proofs.drive.Goals as goal

pub returns-in_err-check_range : goal.returns-in_err-check_range
returns-in_err-check_range c = search (rules, refuses)

pub returns : goal.returns
unfolding drives
returns c = let a = c.args in
    let accepted = sym c.in_ok-check_range.ensures.number in
    record { number = sym accepted; drive = rw c.place.ensures (look_up drives tested a.level a.rate accepted) }
