-- `choice::clean_choice` meets its contract: a byte of the good copy, or the marker at the end.
use native.Mathlib.Omega.{arith}
use mathlib.Core.Path.{refl}
use Rattle.model.specs.Layout.{copy_a, copy_b, marker, byte}
use Rattle.choice.proofs.Laws.{span_width, span_a, span_b, cleanup_a_to_b, cleanup_b_to_a, cleanup_ok}
use Rattle.choice.proofs.Picks.{picked_more, picked_last}
use Rattle.choice.proofs.clean_choice.Goals as goal

pub returns-in-AToB : goal.returns-in-AToB
returns-in-AToB c = let a = c.args in
    picked_more _ _ _ _ _ _ _ (omega (arith, c.requires.0))
    (λ p u e. record { cell = byte copy_b _; is = cleanup_a_to_b p a.image.now u a.made _ a.direction (span_width p u _ e) _ e c.in-AToB.is (omega arith); at = span_b p u _ e _ })
    (omega arith) c.more.ensures

pub returns-in-BToA : goal.returns-in-BToA
returns-in-BToA c = let a = c.args in
    picked_more _ _ _ _ _ _ _ (omega (arith, c.requires.0))
    (λ p u e. record { cell = byte copy_a _; is = cleanup_b_to_a p a.image.now u a.made _ a.direction (span_width p u _ e) _ e c.in-BToA.is (omega arith); at = span_a p u _ e _ })
    (omega arith) c.more-in-BToA.ensures

pub returns-then-n-width-2 : goal.returns-then-n-width-2
returns-then-n-width-2 c = let a = c.args in
    picked_last _ _ _ _ _ _ _ (omega (arith, c.requires.0))
    (λ p u e. record { cell = marker; is = cleanup_ok p a.image.now u a.made _ a.direction (span_width p u _ e) (omega arith) (omega (arith, span_width p u _ e)); at = refl })
    (omega arith) c.last.ensures
