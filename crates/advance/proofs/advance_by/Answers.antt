-- `advance::advance_by` meets its contract.
use mathlib.Core.Path.{refl, sym, ◌∙◌}
use native.Mathlib.Nat.{sub-zero}
use Rattle.model.proofs.Numbered.{number_some}
use Rattle.advance.specs.Advances.{at}
use Rattle.advance.proofs.Going.{row_ends, row_stops, row_goes_on}
use Rattle.advance.proofs.advance_by.Goals as goal

pub loop-init : goal.loop-init
loop-init c = rw sub-zero

pub returns-in-Err : goal.returns-in-Err
returns-in-Err c = let a = c.args in
    let l = c.loop in
    sym (row_stops a.count l.counter (at a.plan l.payload l.reached) l.image c.loop-test.true _ _ _ c.in-Err.ensures (number_some _)) ∙ l.invariant

pub loop-preserved : goal.loop-preserved
loop-preserved c = let a = c.args in
    let l = c.loop in
    sym (row_goes_on a.count l.counter (at a.plan l.payload l.reached) l.image c.loop-test.true _ _ _ c.in-Ok.ensures refl) ∙ l.invariant

pub returns : goal.returns
returns c = let l = c.loop in
    sym (row_ends _ _ _ _ c.loop-test.false) ∙ l.invariant
