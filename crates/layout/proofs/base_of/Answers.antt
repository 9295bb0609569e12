-- `layout::base_of` meets its contract.
use native.Mathlib.Omega.{arith}
use mathlib.Core.Path.{sym}
use Rattle.layout.proofs.Laws.{base_more, base_none}
use Rattle.layout.proofs.base_of.Goals as goal

pub loop-earlier-init : goal.loop-earlier-init
loop-earlier-init c = (sym (base_none c.args.plan), omega arith)

pub loop-earlier-preserved : goal.loop-earlier-preserved
loop-earlier-preserved c =
    omega (arith, base_more c.args.plan c.loop-earlier.earlier, c.unit_length-sum.ensures.0, c.unit_length-sum.ensures.1)
