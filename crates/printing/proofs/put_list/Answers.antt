-- `printing::put_list` meets its contract: the three pieces one after the other.
use Rattle.printing.specs.Printed.{listed}
use Rattle.text.proofs.Laws.{appended_then}
use Rattle.printing.proofs.put_list.Goals as goal

pub returns-clause-written : goal.returns-clause-written
unfolding listed
returns-clause-written c = appended_then (appended_then c.put_text.ensures c.put_bytes.ensures.written) c.put.ensures
