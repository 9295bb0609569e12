-- `row::row_into` meets its contract: a turn of the loop is one entry.
use Rattle.std.proofs.Common.{ap, ◌∙◌, arith, ℕ, ◌+◌}
use Rattle.row.proofs.Turn.{values_end, stored_on, stored_end, small_first, small_rest}
use Rattle.row.proofs.row_into.Goals as goal

pub overflow_cast-bin : goal.overflow_cast-bin
overflow_cast-bin c = let l = c.loop-bin in
    let goes = rw (c.next.ensures.read, l.invariant.0) at c.next.ensures.value in
    omega (arith, small_first c.next.result _ (rw goes at l.invariant.2))

pub loop-bin-preserved : goal.loop-bin-preserved
loop-bin-preserved c = let l = c.loop-bin in
    let goes = rw (c.next.ensures.read, l.invariant.0) at c.next.ensures.value in (
      c.next.ensures.read ∙ ap (λ (n : ℕ). n + 1) l.invariant.0,
      stored_on l.row _ _ l.bin-index _ (omega arith) (rw goes at l.invariant.1),
      small_rest _ _ (rw goes at l.invariant.2),
    )

pub returns : goal.returns
returns c = let l = c.loop-bin in
    stored_end l.row _ _ l.bin-index (omega arith) (values_end l.entries.line.now l.entries.at 64 l.bin-index (omega arith)) l.invariant.1
