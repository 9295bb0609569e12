-- `row::row_at` meets its contract: what isn't read is no row; and the tests are the definition's, of what was read.
use Rattle.std.proofs.Common.{refl, ap, sym, arith}
use Rattle.list.specs.declared.Items.{Items}
use Rattle.row.specs.Row.{head_at}
use Rattle.row.proofs.Full.{row_found}
use Rattle.row.proofs.Row.{of_form, other_form}
use Rattle.row.proofs.row_at.Goals as goal

pub returns-in_err-head : goal.returns-in_err-head
returns-in_err-head c = let a = c.args in
    rw c.from_residual.ensures
    (sym (other_form a.level a.line.now _ _ _ refl refl refl (λ x full y. row_found a.line.now (omega arith) (head_at a.line.now).next full c.in_err-head.ensures)))

pub returns-in_err-row : goal.returns-in_err-row
returns-in_err-row c = let a = c.args in
    rw c.from_residual-in_err-row.ensures
    (sym (other_form a.level a.line.now _ _ _ c.in_ok-head.ensures refl refl
    (λ x full y. absurd (omega (arith, full, ap (λ (list : Items). list.count) c.in_err-row.ensures.list)))))

pub returns-in_err-end : goal.returns-in_err-end
returns-in_err-end c = let a = c.args in
    rw c.from_residual-in_err-end.ensures
    (sym (other_form a.level a.line.now _ _ _ c.in_ok-head.ensures c.in_ok-row.ensures.list refl
    (λ x y end. absurd (omega (arith, end, c.in_err-end.ensures.past)))))

pub returns-then-end-line : goal.returns-then-end-line
returns-then-end-line c = let a = c.args in
    let from = of_form a.level a.line.now _ _ _ c.in_ok-head.ensures c.in_ok-row.ensures.list c.in_ok-end.ensures.past (omega arith) (omega arith) (omega arith) in
    (refl, from, refl)

pub returns-else-head-level : goal.returns-else-head-level
returns-else-head-level c = let a = c.args in
    sym (other_form a.level a.line.now _ _ _ c.in_ok-head.ensures c.in_ok-row.ensures.list c.in_ok-end.ensures.past (λ x y z. grind arith))
