-- `advance::advance` meets its contract: by the phase's case.
use Rattle.std.proofs.lemmas.Result.{err_from_is_err_and}
use native.Mathlib.Omega.{arith}
use Rattle.advance.proofs.Parts.{look_refused, advanced, stopped}
use Rattle.advance.proofs.advance.Goals as goal

pub returns-in_err-span : goal.returns-in_err-span
returns-in_err-span c = let a = c.args in
    let p = err_from_is_err_and c.from_residual.result c.from_residual.ensures.1 in
    rw (p.1, p.2) (look_refused a.plan a.payload.now a.image.now _ a.from _ c.unit_of.ensures c.in_err-span.ensures)

pub returns-in_err-phase : goal.returns-in_err-phase
returns-in_err-phase c = let a = c.args in
    let p = err_from_is_err_and c.from_residual-in_err-phase.result c.from_residual-in_err-phase.ensures.1 in
    rw (p.1, p.2) (stopped a.plan a.payload.now _ a.from _ a.image.now _ c.in_err-phase.ensures)

pub returns : goal.returns
returns c = let a = c.args in
    advanced a.plan a.payload.now _ a.from _ _ a.image.now _ c.in_ok-phase.ensures c.saturating_add.ensures (omega arith)
