-- `lookup::check_device` meets its contract: the plan's row first, then 3, then 4 by the phase.
use native.Mathlib.Omega.{arith}
use mathlib.Core.Path.{sym, ◌∙◌}
use mathlib.Core.Logic.{inl, inr}
use borrow.Author.Tests.{lt-ltb}
use Rattle.model.specs.Layout.{total}
use Rattle.model.specs.Refusals.{bad_job, start_number}
use Rattle.model.proofs.Numbered.{number_some, handed_on}
use Rattle.model.proofs.RefusalLaws.{first_refused, first_stop, plan_passed, start_says, width_bounds}
use Rattle.model.proofs.GroupLaws.{last_lt}
use Rattle.lookup.proofs.Laws.{no_job, writing_job, cleaning_job, grouping_job}
use Rattle.lookup.proofs.check_device.Goals as goal

pub returns-in_err-whole : goal.returns-in_err-whole
unfolding start_number
returns-in_err-whole c = let e = c.in_err-whole.ensures in
    handed_on _ _ c.from_residual.ensures.1 ∙ e ∙ sym (first_refused _ _ (λ z. number_some _ (e ∙ z)))

pub returns-then-length-total : goal.returns-then-length-total
returns-then-length-total c = let a = c.args in
    let m = c.in_ok-whole.ensures in
    sym (plan_passed a.plan _ m.fine ∙ first_stop 3 _ _ (lt-ltb a.length (total a.plan) (omega (arith, c.if-length-total.true, m.total))))

pub check_write-requires : goal.check_write-requires
check_write-requires c = let p = c.args.plan in
    let ok = start_says p c.in_ok-whole.ensures.fine in
    (width_bounds p ok _ (last_lt p ok)).1

pub returns-in-Cold : goal.returns-in-Cold
unfolding bad_job
returns-in-Cold c = let a = c.args in
    let m = c.in_ok-whole.ensures in
    no_job a.plan a.payload.now a.phase a.length _ m.fine m.total c.if-length-total.false
    (elim c.in-Cold.is [ inl e ↦ rw e | inr e ↦ rw e ])

pub returns-in-Writing : goal.returns-in-Writing
returns-in-Writing c = let a = c.args in
    let m = c.in_ok-whole.ensures in
    writing_job a.plan a.payload.now a.phase a.length _ m.fine m.total c.if-length-total.false _ _ _ _ c.width_of-width.ensures c.in-Writing.is c.check_job.ensures

pub returns-in-Recovering : goal.returns-in-Recovering
returns-in-Recovering c = let a = c.args in
    let m = c.in_ok-whole.ensures in
    cleaning_job a.plan a.payload.now a.phase a.length _ m.fine m.total c.if-length-total.false _ _ _ _ c.width_of-width-in-Recovering.ensures _ c.in-Recovering.is c.check_job-in-Recovering.ensures

pub returns-in-Grouping : goal.returns-in-Grouping
returns-in-Grouping c = let a = c.args in
    let m = c.in_ok-whole.ensures in
    grouping_job a.plan a.payload.now a.phase a.length _ m.fine m.total c.if-length-total.false _ _ _ c.in-Grouping.is c.check_write.ensures
