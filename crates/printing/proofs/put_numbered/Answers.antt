-- `printing::put_numbered` meets its contract: the word, a space, the number.
use Rattle.printing.specs.Printed.{numbered}
use Rattle.text.proofs.Laws.{appended_then}
use Rattle.printing.proofs.put_numbered.Goals as goal

pub returns-clause-written : goal.returns-clause-written
unfolding numbered
returns-clause-written c = appended_then (appended_then c.put_text.ensures c.put.ensures) c.put_decimal.ensures.written
