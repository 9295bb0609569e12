-- `layout::measure` meets its contract.
use native.Mathlib.Omega.{arith}
use mathlib.Core.Path.{◌≡◌, refl, sym, ap, ap₂, ◌∙◌}
use Prim.Native.Nat.{ℕ, ◌*◌, ◌+◌}
use lib.ListN.{get_or}
use Rattle.layout.proofs.Laws.{used, widths_more, widths_bad, inside_most, page_size, page_kept, page_lost, copied, copied_none, copied_more, base_copied, plan_one, plan_two, plan_seventeen}
use Rattle.model.specs.Layout.{whole_pages}
use Rattle.model.specs.Refusals.{bad_count, bad_widths}
use Rattle.model.proofs.RefusalLaws.{PlanOk, start_fine}
use Rattle.layout.proofs.measure.Goals as goal
use Rattle.layout.proofs.measure.Goals.{then-i-unit, else-i-unit}

pub returns-then-outside : goal.returns-then-outside
unfolding bad_count
returns-then-outside c = plan_one c.args.plan (sym c.outside.ensures ∙ c.if-outside.true)

pub loop-i-init : goal.loop-i-init
unfolding bad_widths
loop-i-init c = let p = c.args.plan in (
  inside_most p.count 8 (sym c.outside.ensures ∙ c.if-outside.false),
  refl,
  sym (copied_none _ _),
  omega arith,
  λ h. absurd (omega (arith, h)),
  omega arith,
)

pub returns-then-outside-2 : goal.returns-then-outside-2
unfolding bad_count
returns-then-outside-2 c = let p = c.args.plan in
    plan_two p (sym c.outside.ensures ∙ c.if-outside.false)
    (widths_bad p p.count c.loop-i.i (omega (arith, c.loop-i-test.true)) (sym c.outside-in-loop-i.ensures ∙ c.if-outside-2.true))

pub copy_length-copies-requires : goal.copy_length-copies-requires
copy_length-copies-requires c = page_size c.args.plan _ c.page_of-page.ensures

pub loop-i-preserved : goal.loop-i-preserved
loop-i-preserved c = let p = c.args.plan in
    let l = c.loop-i in
    let fine = sym c.outside-in-loop-i.ensures ∙ c.if-outside-2.false in
    let narrow = inside_most (get_or p.widths l.i 0) 256 fine in
    let more = copied_more (used p) p.widths l.i in
    let copy = c.copy_length-copies.ensures.0 ∙ ap (λ (n : ℕ). whole_pages n (get_or p.widths l.i 0)) c.page_of-page.ensures in (
      l.invariant.0,
      widths_more p l.i l.invariant.1 fine,
      omega (arith, more, l.invariant.2, copy),
      omega (arith, l.invariant.3, c.copy_length-copies.ensures.1, narrow),
      λ h. elim c.if-i-unit.branch [ then-i-unit w ↦ w.earlier-is ∙ l.invariant.2 ∙ ap (copied (used p) p.widths) (omega (arith, w.if-i-unit.true)) | else-i-unit w ↦ w.earlier-is ∙ l.invariant.4 (omega (arith, h, w.if-i-unit.false)) ],
      elim c.if-i-unit.branch [ then-i-unit w ↦ omega (arith, w.earlier-is, l.invariant.0, l.invariant.3, c.loop-i-test.true) | else-i-unit w ↦ omega (arith, w.earlier-is, l.invariant.5) ],
    )

pub returns-then-page-plan : goal.returns-then-page-plan
unfolding bad_count
returns-then-page-plan c = let p = c.args.plan in
    let all : c.loop-i.i ≡ p.count = omega (arith, c.loop-i.auto.i-end, c.loop-i-test.false) in
    plan_seventeen p (sym c.outside.ensures ∙ c.if-outside.false) (sym (ap (bad_widths p.widths) all) ∙ c.loop-i.invariant.1)
    (page_lost p _ c.page_of-page.ensures c.if-page-plan.true)

pub returns : goal.returns
unfolding bad_count
returns c = let p = c.args.plan in
    let l = c.loop-i in
    let page = c.if-page-plan.false in
    let one : used p ≡ p.page = sym c.page_of-page.ensures ∙ page in
    let all : l.i ≡ p.count = omega (arith, l.auto.i-end, c.loop-i-test.false) in
    let ok : PlanOk p = record {
      count = sym c.outside.ensures ∙ c.if-outside.false;
      widths = sym (ap (bad_widths p.widths) all) ∙ l.invariant.1;
      page = page_kept p _ c.page_of-page.ensures page;
    } in
    record {
      fine = start_fine p ok;
      total = ap₂ (λ (n k : ℕ). p.count * n + 2 * k) page (l.invariant.2 ∙ ap₂ (λ (n i : ℕ). copied n p.widths i) one all) ∙ sym (base_copied p p.count);
      page = page;
      base = λ h. ap₂ (λ (n k : ℕ). c.args.unit * n + 2 * k) page (l.invariant.4 (omega (arith, h, all)) ∙ ap (λ (n : ℕ). copied n p.widths c.args.unit) one) ∙ sym (base_copied p c.args.unit);
    }
