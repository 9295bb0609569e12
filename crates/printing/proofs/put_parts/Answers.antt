-- `printing::put_parts` meets its contract: the five pieces one after the other.
use Rattle.printing.specs.Printed.{unit_text}
use Rattle.text.proofs.Laws.{appended_then}
use Rattle.printing.proofs.put_parts.Goals as goal

pub returns-clause-written : goal.returns-clause-written
unfolding unit_text
returns-clause-written c = appended_then (appended_then (appended_then (appended_then c.put_numbered.ensures.written c.put_list.ensures.written) c.put_list-2.ensures.written) c.put_list-3.ensures.written) c.put_text.ensures
