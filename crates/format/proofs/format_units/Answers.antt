-- `format::format_units` meets its contract: a unit lies in the image, and one more unit is fresh.
use borrow.Author.Rules.{rules}
use native.Mathlib.Omega.{arith}
use Prim.Native.Nat.{◌+◌}
use mathlib.Core.Path.{◌≡◌, refl, sym, ap₂}
use lib.ListN.{length-take, length-drop}
use Rattle.model.proofs.LayoutLaws.{unit_some, base_bound}
use Rattle.layout.proofs.Laws.{base_more, base_none}
use Rattle.format.proofs.Format.{fresh_more}
use Rattle.model.specs.Layout.{fresh, formatted}
use Rattle.format.proofs.format_units.Goals as goal

pub loop-unit-init : goal.loop-unit-init
unfolding fresh
loop-unit-init c = (sym (base_none c.args.plan), refl, refl)

pub overflow_add-end : goal.overflow_add-end
overflow_add-end c = let p = c.args.plan in
    omega (arith, base_bound p c.requires.0 c.loop-unit.unit p.count c.loop-unit-test.true)

pub slice_bounds-format_unit-end : goal.slice_bounds-format_unit-end
slice_bounds-format_unit-end c = let p = c.args.plan in
    omega (arith, base_bound p c.requires.0 c.loop-unit.unit p.count c.loop-unit-test.true)

pub format_unit-requires : goal.format_unit-requires
format_unit-requires c = let p = c.args.plan in
    let u = c.loop-unit.unit in
    simp (length-take, length-drop)
    (omega (arith, unit_some p c.requires.0 u, base_bound p c.requires.0 u p.count c.loop-unit-test.true))

pub loop-unit-preserved : goal.loop-unit-preserved
loop-unit-preserved c = let p = c.args.plan in
    let l = c.loop-unit in
    let bound = base_bound p c.requires.0 l.unit p.count c.loop-unit-test.true in
    let length-is = c.unit_length.ensures.0 in (
      rw (base_more p l.unit) (ap₂ ◌+◌ l.invariant.0 length-is),
      search rules,
      fresh_more p c.requires.0 l.unit l.base _ c.args.image.now l.image c.format_unit.new.span l.invariant.0 length-is (omega arith) l.invariant.2 c.format_unit.ensures,
    )

pub returns : goal.returns
unfolding formatted
returns c = let e : c.loop-unit.unit ≡ c.args.plan.count = omega arith in
    rw (c.loop-unit.invariant.0, e) at c.loop-unit.invariant.2
