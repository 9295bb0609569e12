-- `advance::step_part` meets its contract: whether the store was the last of its write tells the phase after it.
use Rattle.std.proofs.lemmas.Result.{err_from_is_err_and}
use Rattle.std.proofs.Common.{rules}
use Rattle.group.proofs.Walk.{part_full}
use Rattle.group.proofs.Next.{part_there}
use Rattle.lookup.proofs.Laws.{span_sound, span_inside}
use native.Mathlib.Omega.{arith}
use mathlib.Core.Path.{sym, ◌∙◌}
use Rattle.advance.proofs.Parts.{group_refused, group_on, group_over, group_next}
use Rattle.advance.proofs.step_part.Goals as goal

pub unit_span-span-requires : goal.unit_span-span-requires
unit_span-span-requires c = let h = c.requires in (h.0, h.1, part_there h.2 h.0)

pub write_next-requires : goal.write_next-requires
write_next-requires c = let s = c.unit_span-span.ensures in
    (span_sound c.args.plan s.plan _ s.unit _ s.is, span_inside c.args.plan s.plan _ s.unit _ _ s.long s.is)

pub returns-in_err-write_next : goal.returns-in_err-write_next
returns-in_err-write_next c = let a = c.args in
    let p = err_from_is_err_and c.from_residual.result c.from_residual.ensures.1 in
    rw (p.1, p.2) (group_refused a.plan a.payload.now a.write a.made a.image.now c.requires.2 _ c.unit_span-span.ensures _ _ c.in_err-write_next.ensures)

pub overflow_add-result : goal.overflow_add-result
overflow_add-result c = let s = c.unit_span-span.ensures in
    let m = c.in_ok-write_next.ensures in
    record { fits = omega (arith, m.picked.left.more (sym m.is ∙ c.if-not-branch.true), (span_sound c.args.plan s.plan _ s.unit _ s.is).narrow) }

pub returns-then-not-branch : goal.returns-then-not-branch
returns-then-not-branch c = let a = c.args in
    group_on a.plan a.payload.now a.write a.made a.image.now c.requires.2 _ c.unit_span-span.ensures _ (part_full a.payload.now 256 a.part.from (search rules)) _ _ c.in_ok-write_next.ensures c.if-not-branch.true

pub returns-then-part : goal.returns-then-part
returns-then-part c = let a = c.args in
    group_over a.plan a.payload.now a.write a.made a.image.now c.requires.2 _ c.unit_span-span.ensures _ (part_full a.payload.now 256 a.part.from (search rules)) _ _ c.in_ok-write_next.ensures c.if-not-branch.false c.if-part.true

pub returns : goal.returns
returns c = let a = c.args in
    group_next a.plan a.payload.now a.write a.made a.image.now c.requires.2 _ c.unit_span-span.ensures _ (part_full a.payload.now 256 a.part.from (search rules)) _ _ c.in_ok-write_next.ensures c.if-not-branch.false c.if-part.false
