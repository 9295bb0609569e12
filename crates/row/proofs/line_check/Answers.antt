-- `row::line_check` meets its contract: the line is missing, or not of the form, or out of rule, or good.
use Rattle.std.proofs.Common.{◌≡◌, ◌+◌, ◌++◌, None, Some, refl, ap, sym, ◌∙◌, arith, ℕ, List, take, drop, length, rules}
use Rattle.model.proofs.Numbered.{handed_on}
use Rattle.std.proofs.Math.Seq.{take_at}
use Rattle.model.specs.declared.refusals.Refusal.TheVariants.{BadLine}
use Rattle.token.specs.Token.{entry_at}
use Rattle.token.specs.Lines.{line_end}
use Rattle.list.proofs.Values.{values_length}
use Rattle.row.specs.Row.{row_below}
use Rattle.row.proofs.Line.{line_missing, line_formless}
use Rattle.row.proofs.Judged.{entries_row, entries_judged}
use Rattle.row.proofs.line_check.Goals as goal

pub returns-then-text-at-clause-number : goal.returns-then-text-at-clause-number
returns-then-text-at-clause-number c = let a = c.args in
    line_missing a.i a.text.now a.at (row_below a.i a.scratch.now) c.if-text-at.true

pub returns-in_err-entries-clause-number : goal.returns-in_err-entries-clause-number
unfolding line_end
returns-in_err-entries-clause-number c = let a = c.args in
    let none : c.row_at.result ≡ None = grind arith in
    let bad : c.in_err-entries.field-0.0 ≡ BadLine = grind arith in
    handed_on _ _ c.from_residual.ensures.1
    ∙ rw bad
    (line_formless a.i a.text.now a.at (row_below a.i a.scratch.now) c.if-text-at.false _ c.find-end.ensures.0 _ refl _ (sym (rw none at c.row_at.ensures)) refl)

pub row_check-requires : goal.row_check-requires
row_check-requires c =
    let some : c.row_at.result ≡ Some c.in_ok-entries.entries = grind arith in
    (search rules, (rw some at c.row_at.ensures).2)

pub returns-in_err-row_check-clause-number : goal.returns-in_err-row_check-clause-number
unfolding line_end
returns-in_err-row_check-clause-number c = let a = c.args in
    let some : c.row_at.result ≡ Some c.in_ok-entries.entries = grind arith in
    let is = rw some at c.row_at.ensures in
    handed_on _ _ c.from_residual-in_err-row_check.ensures.1
    ∙ entries_judged a.i a.text.now a.at a.scratch.now c.if-text-at.false _ c.find-end.ensures.0 c.in_ok-entries.entries is (omega (arith, ap length is.0)) _
    c.in_err-row_check.ensures.number

pub returns-clause-number : goal.returns-clause-number
unfolding line_end
returns-clause-number c = let a = c.args in
    let some : c.row_at.result ≡ Some c.in_ok-entries.entries = grind arith in
    let is = rw some at c.row_at.ensures in
    entries_judged a.i a.text.now a.at a.scratch.now c.if-text-at.false _ c.find-end.ensures.0 c.in_ok-entries.entries is (omega (arith, ap length is.0)) _ c.in_ok-row_check.ensures.number

pub returns-clause-past : goal.returns-clause-past
unfolding line_end
returns-clause-past c = ap (λ (n : ℕ). n + 1) c.find-end.ensures.0

pub returns-clause-row : goal.returns-clause-row
unfolding line_end
returns-clause-row c = let a = c.args in
    let some : c.row_at.result ≡ Some c.in_ok-entries.entries = grind arith in
    let is = rw some at c.row_at.ensures in
    ap (λ (row : List ℕ). take 64 (row ++ drop 64 a.scratch.now)) c.in_ok-row_check.ensures.row
    ∙ take_at _ _ 64 (values_length entry_at _ _ 64)
    ∙ entries_row a.i a.text.now a.at a.scratch.now c.if-text-at.false _ c.find-end.ensures.0 c.in_ok-entries.entries is
