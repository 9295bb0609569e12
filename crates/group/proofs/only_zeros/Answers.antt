-- `group::only_zeros` meets its contract: the loop goes the definition's walk.
use Rattle.std.proofs.Common.{ℕ, ◌≡◌, ◌-◌, length, replicate, ap, sym, ◌∙◌, arith}
use borrow.Author.Tests.{ne_eqb, eq-eqb}
use Rattle.model.specs.Groups.{alike}
use Rattle.group.proofs.Extent.{zeros_more, zeros_end}
use Rattle.group.proofs.only_zeros.Goals as goal

pub loop-byte-init : goal.loop-byte-init
loop-byte-init c = let g = c.args.bytes.now in
    ap (λ (k : ℕ). alike (replicate {A = ℕ} k 0) g) {x = length g} {y = length g - 0} (omega arith)

pub returns-then-byte-ne0 : goal.returns-then-byte-ne0
returns-then-byte-ne0 c = let g = c.args.bytes.now in let l = c.loop-byte in
    sym (l.invariant ∙ zeros_more g l.byte-index (omega arith) ∙ rw (ne_eqb 0 _ (λ e. c.if-byte-ne0.true (sym e))))

pub loop-byte-preserved : goal.loop-byte-preserved
loop-byte-preserved c = let g = c.args.bytes.now in let l = c.loop-byte in
    l.invariant ∙ zeros_more g l.byte-index (omega arith) ∙ rw (eq-eqb 0 _ (sym c.if-byte-ne0.false))

pub returns : goal.returns
returns c = let l = c.loop-byte in sym (l.invariant ∙ zeros_end c.args.bytes.now l.byte-index (omega arith))
