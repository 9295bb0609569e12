-- `search::lowest_bad` meets its contract. The loop's invariant: the search from here on gives the answer.
use native.Mathlib.Omega.{arith}
use mathlib.Core.Path.{ap, ◌∙◌}
use Rattle.layout.proofs.Laws.{base_more}
use Rattle.search.proofs.Search.{search_skip, search_stop, search_end}
use Rattle.search.specs.Found.{found}
use Rattle.search.proofs.lowest_bad.Goals as goal

pub returns-then-marker-ne-OK : goal.returns-then-marker-ne-OK
returns-then-marker-ne-OK c = let a = c.args in
    let l = c.loop-unit in
    search_stop a.plan a.image.now _ _ l.invariant.0 c.loop-unit-test.true c.if-marker-ne-OK.true
    ∙ ap (found a.plan a.image.now) l.invariant.1

pub loop-unit-preserved : goal.loop-unit-preserved
loop-unit-preserved c = let a = c.args in
    let l = c.loop-unit in (
      omega (arith, base_more a.plan l.unit),
      search_skip a.plan a.image.now _ _ l.invariant.0 c.loop-unit-test.true c.if-marker-ne-OK.false ∙ l.invariant.1,
    )

pub returns : goal.returns
returns c = let a = c.args in
    search_end a.plan a.image.now _ c.loop-unit-test.false ∙ ap (found a.plan a.image.now) c.loop-unit.invariant.1
