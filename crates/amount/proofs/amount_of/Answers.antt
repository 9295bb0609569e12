-- `amount::amount_of` meets its contract.
use borrow.Author.Rules.{rules}
use mathlib.Core.Path.{◌≡◌, ◌∙◌}
use Rattle.amount.proofs.Laws.{read_amount}
use Rattle.amount.proofs.amount_of.Goals as goal

pub returns : goal.returns
returns c = let held : c.unwrap.result ≡ c.args.bytes.now = search rules in
    c.from_le_bytes.ensures ∙ rw held (read_amount c.args.bytes.now c.requires)
