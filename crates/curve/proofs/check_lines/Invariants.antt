-- `curve::check_lines` meets its contract. The loop's invariant: what the lines that are left come to, after entries of which the
-- scratch holds the last row.
use Rattle.std.proofs.Common.{◌≡◌, length}
use Rattle.curve.proofs.Lines.{Judged}
use Rattle.curve.proofs.check_lines.Given as goal

abbrev pub invariant-loop-i : goal.invariant-loop-i
invariant-loop-i l = Judged l.i l.text l.at l.scratch × (length l.scratch ≡ length l.initial.scratch)
