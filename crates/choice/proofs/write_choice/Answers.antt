-- `choice::write_choice` meets its contract: each test on the stores made picks one place of the write's list, and tells whether it is the last.
use native.Mathlib.Omega.{arith}
use Prim.Native.Nat.{ℕ, ◌+◌, ◌-◌}
use mathlib.Core.Path.{refl, ap, sym, ◌∙◌}
use mathlib.Core.Option.{some}
use Rattle.model.specs.Layout.{copy_a, copy_b, marker, byte}
use Rattle.model.specs.Stores.{store}
use Rattle.choice.proofs.Laws.{span_width, span_a, span_b, write_a, write_to_a, write_b, write_to_b, write_ok}
use Rattle.choice.proofs.Picks.{picked_more, picked_last}
use Rattle.choice.proofs.write_choice.Goals as goal

pub returns-then-n-eq0 : goal.returns-then-n-eq0
returns-then-n-eq0 c = let a = c.args in
    picked_more _ _ _ _ _ _ _ (omega arith)
    (λ p u e. record { cell = marker; is = write_a p a.payload.now u a.made _ (span_width p u _ e) (omega arith); at = refl })
    (omega arith) c.more.ensures

pub returns-then-n-width : goal.returns-then-n-width
returns-then-n-width c = let a = c.args in
    picked_more _ _ _ _ _ _ _ (omega arith)
    (λ p u e. record { cell = byte copy_a _; is = write_to_a p a.payload.now u a.made _ (span_width p u _ e) (omega arith) (omega arith) ∙ ap (λ (x : ℕ). some (store u (byte copy_a (a.made - 1)) x)) (sym c.byte_of.ensures); at = span_a p u _ e _ })
    (omega arith) c.more-then-n-width.ensures

pub returns-then-n-width-3 : goal.returns-then-n-width-3
returns-then-n-width-3 c = let a = c.args in
    picked_more _ _ _ _ _ _ _ (omega arith)
    (λ p u e. record { cell = marker; is = write_b p a.payload.now u a.made _ (span_width p u _ e) (omega arith); at = refl })
    (omega arith) c.more-then-n-width-3.ensures

pub returns-then-n-width-2 : goal.returns-then-n-width-2
returns-then-n-width-2 c = let a = c.args in
    picked_more _ _ _ _ _ _ _ (omega arith)
    (λ p u e. record { cell = byte copy_b _; is = write_to_b p a.payload.now u a.made _ (span_width p u _ e) (omega arith) (omega arith) ∙ ap (λ (x : ℕ). some (store u (byte copy_b (a.made - (a.span.width + 2))) x)) (sym c.byte_of-then-n-width-2.ensures); at = span_b p u _ e _ })
    (omega arith) c.more-then-n-width-2.ensures

pub returns-then-n-width-4 : goal.returns-then-n-width-4
returns-then-n-width-4 c = let a = c.args in
    picked_last _ _ _ _ _ _ _ (omega arith)
    (λ p u e. record { cell = marker; is = write_ok p a.payload.now u a.made _ (span_width p u _ e) (omega arith) (omega arith); at = refl })
    (omega arith) c.last.ensures
