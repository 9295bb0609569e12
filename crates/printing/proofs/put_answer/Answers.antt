-- `printing::put_answer` meets its contract: the word and the number, then LF.
use Rattle.printing.specs.Printed.{answer_line}
use Rattle.text.proofs.Laws.{appended_then}
use Rattle.printing.proofs.put_answer.Goals as goal

pub returns-clause-written : goal.returns-clause-written
unfolding answer_line
returns-clause-written c = appended_then c.put_numbered.ensures.written c.put.ensures
