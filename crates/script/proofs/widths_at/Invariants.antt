-- `script::widths_at` meets its contract: the loop keeps what the stores that are left will leave; a turn is one `values_step`.
use Rattle.std.proofs.Common.{◌≡◌, ◌-◌}
use Rattle.std.proofs.lemmas.List.Edits.{sets}
use Rattle.token.specs.Token.{place, number_at}
use Rattle.list.specs.Items.{values_at}
use Rattle.script.proofs.widths_at.Given as goal

abbrev pub invariant-loop-i : goal.invariant-loop-i
invariant-loop-i l = sets l.widths l.i (values_at number_at l.line (place l.place) (l.count - l.i)) ≡ sets l.initial.widths 0 (values_at number_at l.line l.at l.count)
