-- `row::row_into` meets its contract. The loop's invariant: the entries read and those left are the row; those left are small.
use Rattle.std.proofs.Common.{◌≡◌, true, ◌-◌, ◌++◌, take, List, ℕ}
use Rattle.token.specs.Token.{entry_at}
use Rattle.list.specs.Items.{values_at}
use Rattle.row.specs.Row.{small}
use Rattle.row.proofs.row_into.Given as goal

abbrev pub invariant-loop-bin : goal.invariant-loop-bin
invariant-loop-bin l =
    let left : List ℕ = values_at entry_at l.entries.line.now l.entries.at (64 - l.bin-index) in
    (l.entries.read ≡ l.bin-index)
    × (take l.bin-index l.row ++ left ≡ values_at entry_at l.initial.entries.line.now l.initial.entries.at 64)
    × (small left ≡ true)
