-- `amount::bytes_of` meets its contract.
use native.Mathlib.Omega.{arith}
use mathlib.Core.Path.{◌∙◌}
use Rattle.amount.proofs.Laws.{written}
use Rattle.amount.proofs.bytes_of.Goals as goal

pub returns : goal.returns
returns c = c.to_le_bytes.ensures ∙ written c.args.value (omega arith)
