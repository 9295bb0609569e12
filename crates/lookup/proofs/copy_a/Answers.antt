-- `lookup::copy_a` meets its contract.
use native.Mathlib.Omega.{arith}
use Rattle.lookup.proofs.Laws.{span_sound, span_inside, copy_part}
use Rattle.lookup.proofs.copy_a.Goals as goal

pub slice_bounds-result-end : goal.slice_bounds-result-end
slice_bounds-result-end c = let a = c.args in
    let s = c.unit_span-span.ensures in
    omega (arith, span_sound a.plan s.plan a.unit s.unit _ s.is, span_inside a.plan s.plan a.unit s.unit _ _ s.long s.is)

pub returns : goal.returns
returns c = copy_part c.args.plan c.args.image.now _ _ c.unit_span-span.ensures.is
