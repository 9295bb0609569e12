-- `row::row_check` meets its contract. The loop's invariant: the entries read and those left are the row; from the next on the row one
-- level lower still stands; the rules that are left to ask decide.
use Rattle.std.proofs.Common.{◌≡◌, ◌-◌, ◌++◌, List, [], ℕ, cond, eqb, take, drop}
use Rattle.token.specs.Token.{entry_at}
use Rattle.list.specs.Items.{values_at}
use Rattle.row.specs.Row.{in_rule}
use Rattle.row.proofs.row_check.Given as goal

abbrev pub invariant-loop-bin : goal.invariant-loop-bin
invariant-loop-bin l =
    let lower : List ℕ = cond (eqb l.i 0) [] l.initial.row in
    let whole : List ℕ = values_at entry_at l.initial.entries.line.now l.initial.entries.at 64 in
    let left : List ℕ = values_at entry_at l.entries.line.now l.entries.at (64 - l.bin-index) in
    (l.entries.read ≡ l.bin-index)
    × (take l.bin-index l.row ++ left ≡ whole)
    × (drop l.bin-index l.row ≡ drop l.bin-index l.initial.row)
    × (in_rule l.before (drop l.bin-index lower) left ≡ in_rule 0 lower whole)
