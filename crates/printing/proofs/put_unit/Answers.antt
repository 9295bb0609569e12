-- `printing::put_unit` meets its contract: the parts of the image that it lends on are the unit's marker and copies.
use Rattle.std.proofs.Common.{arith, rules, length-take}
use native.Mathlib.Nat.{add-sub_cancel_left}
use Rattle.model.proofs.RefusalLaws.{start_says}
use Rattle.text.proofs.Laws.{appended_as}
use Rattle.printing.proofs.Laws.{looked, unit_parts}
use Rattle.printing.proofs.put_unit.Goals as goal

pub unit_span-span-requires : goal.unit_span-span-requires
unit_span-span-requires c = (start_says _ c.requires.1, c.requires.2, c.requires.3)

pub slice_bounds-put_parts-end : goal.slice_bounds-put_parts-end
slice_bounds-put_parts-end c =
    let q = looked _ _ _ _ c.unit_span-span.ensures in
    omega (arith, q.sound.marker, q.sound.ends, q.inside)

pub slice_bounds-put_parts-end-2 : goal.slice_bounds-put_parts-end-2
slice_bounds-put_parts-end-2 c =
    let q = looked _ _ _ _ c.unit_span-span.ensures in
    omega (arith, q.sound.copies, q.sound.ends, q.inside)

pub slice_bounds-put_parts-end-3 : goal.slice_bounds-put_parts-end-3
slice_bounds-put_parts-end-3 c =
    let q = looked _ _ _ _ c.unit_span-span.ensures in
    omega (arith, q.sound.ends, q.inside)

pub put_parts-requires : goal.put_parts-requires
put_parts-requires c =
    let q = looked _ _ _ _ c.unit_span-span.ensures in
    (simp (add-sub_cancel_left, length-take) (omega (arith, q.sound.narrow)), search rules)

pub returns-clause-written : goal.returns-clause-written
returns-clause-written c =
    let q = looked _ _ _ _ c.unit_span-span.ensures in
    appended_as (unit_parts _ _ _ _ _ _ q (omega arith) (omega arith)) (rw c.from.ensures at c.put_parts.ensures.written)

pub returns-clause-size : goal.returns-clause-size
returns-clause-size c =
    let q = looked _ _ _ _ c.unit_span-span.ensures in
    omega (arith, simp (add-sub_cancel_left, length-take) at c.put_parts.ensures.size, q.sound.narrow)
