-- `lookup::check_job` meets its contract: each test is one half of refusal 4's condition.
use mathlib.Core.Path.{sym, ◌∙◌}
use mathlib.Core.List.{[]}
use native.Mathlib.Omega.{arith}
use borrow.Author.Tests.{le-leb, lt-leb}
use Rattle.model.proofs.RefusalLaws.{first_stop, first_skip, first_none}
use Rattle.lookup.proofs.check_job.Goals as goal

pub returns-then-plan-unit : goal.returns-then-plan-unit
returns-then-plan-unit c = let a = c.args in
    sym (first_stop 4 _ [] (simp (le-leb a.plan.count a.unit (omega (arith, c.if-plan-unit.true)))))

pub returns-then-total-made : goal.returns-then-total-made
returns-then-total-made c = let a = c.args in
    sym (first_stop 4 _ [] (simp (lt-leb a.plan.count a.unit (omega (arith, c.if-plan-unit.false)), le-leb a.total a.made (omega (arith, c.if-total-made.true)))))

pub returns : goal.returns
returns c = let a = c.args in
    sym (first_skip 4 _ [] (simp (lt-leb a.plan.count a.unit (omega (arith, c.if-plan-unit.false)), lt-leb a.total a.made (omega (arith, c.if-total-made.false)))) ∙ first_none)
