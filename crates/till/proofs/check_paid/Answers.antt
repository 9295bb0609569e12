-- `till::check_paid` meets its contract: the row behind 21.
use native.Mathlib.Omega.{arith}
use mathlib.Core.Path.{◌≡◌, sym, ◌∙◌}
use Rattle.model.specs.Numbers.{number_of}
use Rattle.model.specs.Refusals.{paid_number}
use Rattle.refusal.specs.Seen.{seen}
use Rattle.model.specs.Layout.{copy_a, copy_of}
use Rattle.till.proofs.Laws.{by_marks, by_sums}
use Rattle.till.proofs.check_paid.Goals as goal

pub returns-in_err-check_marks : goal.returns-in_err-check_marks
returns-in_err-check_marks c =
    let v = c.args.view in
    let h : number_of c.in_err-check_marks.field-0.0 ≡ paid_number (seen v) (copy_of v.plan v.image.now 0 copy_a) (copy_of v.plan v.image.now 1 copy_a) c.args.turns =
    by_marks (seen v) _ _ _ c.in_ok-check_ready.ensures (sym c.no_till.ensures ∙ c.if-no_till.false)
    (sym c.is_record.ensures ∙ c.if-is_record.false) (sym c.no_record.ensures ∙ c.if-no_record.false) _ c.in_err-check_marks.ensures in
    grind arith

pub returns : goal.returns
returns c =
    by_sums (seen c.args.view) _ _ _ c.in_ok-check_ready.ensures (sym c.no_till.ensures ∙ c.if-no_till.false)
    (sym c.is_record.ensures ∙ c.if-is_record.false) (sym c.no_record.ensures ∙ c.if-no_record.false) c.in_ok-check_marks.ensures
    c.check_sums.ensures
