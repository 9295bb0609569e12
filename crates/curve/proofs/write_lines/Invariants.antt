-- `curve::write_lines` meets its contract. The loop's invariant: what the lines that are left come to, after the entries in the table.
use Rattle.std.proofs.Common.{◌≡◌, ◌-◌, ◌*◌, length, take}
use Rattle.curve.specs.Curve.{lines_from, curve_of}
use Rattle.curve.proofs.write_lines.Given as goal

abbrev pub invariant-loop-line : goal.invariant-loop-line
invariant-loop-line l = (lines_from (20 - l.line) l.text l.at (take (64 * l.line) l.table) ≡ curve_of l.text) × (length l.table ≡ 1280)
