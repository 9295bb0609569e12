-- `lookup::check_write` meets its contract: no such write, or all its stores made.
use mathlib.Core.Path.{◌∙◌}
use Rattle.model.proofs.Numbered.{handed_on}
use Rattle.lookup.proofs.Laws.{no_part, all_made_lem, not_made}
use Rattle.lookup.proofs.check_write.Goals as goal

pub returns-in_err-part : goal.returns-in_err-part
returns-in_err-part c = let a = c.args in
    handed_on _ _ c.from_residual.ensures.1 ∙ no_part a.plan a.payload.now a.write a.made _ c.in_err-part.ensures

pub returns-then-width-made : goal.returns-then-width-made
returns-then-width-made c = all_made_lem c.in_ok-part.ensures _ _ c.width_of-width.ensures c.if-width-made.true

pub returns : goal.returns
returns c = not_made c.in_ok-part.ensures _ _ c.width_of-width.ensures c.if-width-made.false
