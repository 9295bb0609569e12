-- `lookup::span_of` meets its contract: the plan's row, then 3, then 4 for the unit, and where its parts lie.
use native.Mathlib.Omega.{arith}
use mathlib.Core.Path.{sym, ◌∙◌, ap₂, subst}
use Prim.Native.Nat.{◌<◌}
use Rattle.std.proofs.lemmas.Result.{err_from_is_err_and}
use Rattle.model.specs.Layout.{whole_pages}
use Rattle.model.proofs.RefusalLaws.{start_says, page_fits, count_bounds}
use Rattle.model.specs.Plans.{PageSize}
use Rattle.layout.proofs.Laws.{size_bounds}
use Rattle.lookup.proofs.Laws.{spanned, no_plan_lem, no_room_lem, no_unit_lem, spans, base_small}
use Rattle.lookup.proofs.span_of.Goals as goal

pub returns-in_err-whole : goal.returns-in_err-whole
returns-in_err-whole c = let a = c.args in
    let p = err_from_is_err_and c.from_residual.result c.from_residual.ensures.1 in
    rw (p.1, p.2) (no_plan_lem a.plan a.unit a.length _ c.in_err-whole.ensures)

pub returns-then-length-whole : goal.returns-then-length-whole
returns-then-length-whole c = let a = c.args in
    let m = c.in_ok-whole.ensures in
    no_room_lem a.plan a.unit a.length _ m.fine m.total (omega (arith, c.if-length-whole.true))

pub returns-then-unit-plan : goal.returns-then-unit-plan
returns-then-unit-plan c = let a = c.args in
    let m = c.in_ok-whole.ensures in
    no_unit_lem a.plan a.unit a.length _ m.fine m.total (omega (arith, c.if-length-whole.false)) (omega (arith, c.if-unit-plan.true))

pub copy_length-copy-requires : goal.copy_length-copy-requires
copy_length-copy-requires c = let m = c.in_ok-whole.ensures in
    let p = c.args.plan in
    subst PageSize (sym m.page) (page_fits p (start_says p m.fine).page)

pub overflow_add-result : goal.overflow_add-result
overflow_add-result c = let a = c.args in
    let m = c.in_ok-whole.ensures in
    let ok = start_says a.plan m.fine in
    let u : a.unit < a.plan.count = omega (arith, c.if-unit-plan.false) in
    record { fits = omega (arith, m.base u, m.page, (size_bounds _ (page_fits a.plan ok.page)).1, base_small a.plan ok a.unit (omega arith), (count_bounds a.plan ok).1) }

pub overflow_add-result-2 : goal.overflow_add-result-2
overflow_add-result-2 c = let a = c.args in
    let m = c.in_ok-whole.ensures in
    let ok = start_says a.plan m.fine in
    let u : a.unit < a.plan.count = omega (arith, c.if-unit-plan.false) in
    record { fits = omega (arith, c.copy_length-copy.ensures.1, m.base u, m.page, (size_bounds _ (page_fits a.plan ok.page)).1, base_small a.plan ok a.unit (omega arith), (count_bounds a.plan ok).1) }

pub returns : goal.returns
returns c = let a = c.args in
    let m = c.in_ok-whole.ensures in
    let w = c.width_of-width.ensures in
    let u : a.unit < a.plan.count = omega (arith, c.if-unit-plan.false) in
    let copy = c.copy_length-copy.ensures.0 ∙ ap₂ whole_pages m.page w in
    spans a.plan a.unit a.length _ m.fine m.total _ (omega (arith, c.if-length-whole.false)) u
    (spanned a.plan a.unit _ (m.base u) (omega (arith, m.base u, m.page, copy)) (omega (arith, m.page)) (omega (arith, m.page, copy)) w)
