-- `play::bytes_at` meets its contract: the buffer's front is what the line lists.
use Rattle.std.proofs.Common.{ℕ, ap, ◌∙◌, arith, take}
use Rattle.std.proofs.lemmas.List.{length-replicate}
use Rattle.token.specs.Token.{hex_at}
use Rattle.list.proofs.Values.{values_front}
use Rattle.play.proofs.bytes_at.Goals as goal

pub returns : goal.returns
returns g c =
    ap (take c.args.count) c.bytes_into.ensures
    ∙ values_front hex_at c.args.line.now _ c.args.at c.args.count (omega (arith, length-replicate {A = ℕ} g.row.N 0))
