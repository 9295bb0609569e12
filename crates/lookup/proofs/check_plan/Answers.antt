-- `lookup::check_plan` meets its contract.
use mathlib.Core.Path.{sym, ◌∙◌}
use Rattle.model.proofs.Numbered.{handed_on}
use Rattle.lookup.proofs.check_plan.Goals as goal

pub returns-in_err-measure : goal.returns-in_err-measure
returns-in_err-measure c = handed_on _ _ c.from_residual.ensures.1 ∙ c.in_err-measure.ensures

pub returns : goal.returns
returns c = sym c.in_ok-measure.ensures.fine
