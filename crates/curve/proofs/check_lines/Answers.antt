-- `curve::check_lines` meets its contract: a turn of the loop is one line judged.
use Rattle.std.proofs.Common.{◌∙◌, arith}
use Rattle.model.proofs.Numbered.{number_some, handed_on}
use Rattle.curve.proofs.Lines.{judged_bad, judged_over, judged_end}
use Rattle.curve.proofs.check_lines.Goals as goal

pub returns-in_err-at-clause-number : goal.returns-in_err-at-clause-number
returns-in_err-at-clause-number c = let l = c.loop-i in
    handed_on _ _ c.from_residual.ensures.1
    ∙ judged_bad l.i c.args.text.now l.at l.scratch l.invariant.0 (omega arith) _ c.in_err-at.ensures.number (number_some _)

pub returns-then-at-text-clause-number : goal.returns-then-at-text-clause-number
returns-then-at-text-clause-number c = let l = c.loop-i in
    judged_over l.i c.args.text.now l.at l.scratch l.invariant.0 (omega arith) c.if-at-text.true

pub returns-clause-number : goal.returns-clause-number
returns-clause-number c = let l = c.loop-i in
    judged_end l.i c.args.text.now l.at l.scratch l.invariant.0 (omega arith) c.if-at-text.false
