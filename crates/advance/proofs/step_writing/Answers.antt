-- `advance::step_writing` meets its contract: whether the store was the last tells the phase after it.
use Rattle.std.proofs.lemmas.Result.{err_from_is_err_and}
use Rattle.advance.proofs.Parts.{write_refused, write_over, write_on}
use Rattle.advance.proofs.step_writing.Goals as goal

pub returns-in_err-write_next : goal.returns-in_err-write_next
returns-in_err-write_next c = let a = c.args in
    let p = err_from_is_err_and c.from_residual.result c.from_residual.ensures.1 in
    λ q s. rw (p.1, p.2) (write_refused q a.unit a.made a.image.now a.span s a.payload.now _ _ c.in_err-write_next.ensures)

pub returns-then-branch : goal.returns-then-branch
returns-then-branch c = let a = c.args in
    λ q s. write_over q a.unit a.made a.image.now a.span s a.payload.now _ _ c.in_ok-write_next.ensures c.if-branch.true

pub returns : goal.returns
returns c = let a = c.args in
    λ q s. write_on q a.unit a.made a.image.now a.span s a.payload.now _ _ c.in_ok-write_next.ensures c.if-branch.false
