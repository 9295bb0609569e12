-- The meanings say of a byte what the model's two tests say of it.
use Prim.Native.Nat.{ℕ}
use mathlib.Core.Path.{◌≡◌, refl, sym, ◌∙◌}
use mathlib.Core.Bool.{Bool, true, false, cond}
use native.Mathlib.Omega.{arith}
use lib.Dec.{eqb, ltb}
use borrow.Author.Tests.{ne_eqb, lt-ltb, le-ltb, lt-leb, le-leb}
use Rattle.model.specs.declared.Direction.TheVariants.{AToB}
use Rattle.model.specs.Marker.{OK, A, B, FOREIGN, is_foreign, direction}
use Rattle.model.proofs.Compare.{below, above, order, equal, differ, same}
use Rattle.marker.specs.declared.Marker.TheVariants.{Clean, WritingToA, WritingToB, Corrupted, Foreign}
use Rattle.marker.specs.Meaning.{meaning, says_foreign, way}

pub meaning_foreign : (m : ℕ) → says_foreign (meaning m) ≡ is_foreign m
unfolding meaning
meaning_foreign m =
    elim (order m 8) [
      | below l ↦ rw (lt-ltb m FOREIGN (omega arith)) (ours (eqb m OK) (eqb m A) (eqb m B)) ∙ sym (lt-leb FOREIGN m (omega arith))
      | above l ↦
          rw (ne_eqb m OK (λ e. absurd (omega arith)), ne_eqb m A (λ e. absurd (omega arith)), ne_eqb m B (λ e. absurd (omega arith)), le-ltb m FOREIGN (omega arith))
          (sym (le-leb FOREIGN m (omega arith)))
    ]
  where
    ours : (t s r : Bool) → says_foreign (cond t Clean (cond s WritingToA (cond r WritingToB Corrupted))) ≡ false
    ours true s r = refl
    ours false true r = refl
    ours false false true = refl
    ours false false false = refl

pub meaning_way : (m : ℕ) → way (meaning m) ≡ direction m
unfolding meaning direction
meaning_way m =
    elim (same m A) [
      | equal e ↦ rw e
      | differ h ↦ rw (ne_eqb m A h) (others (eqb m OK) (eqb m B) (ltb m FOREIGN))
    ]
  where
    others : (t s r : Bool) → way (cond t Clean (cond s WritingToB (cond r Corrupted Foreign))) ≡ AToB
    others true s r = refl
    others false true r = refl
    others false false true = refl
    others false false false = refl
