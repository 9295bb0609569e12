-- The torn marker, and the way that a marker makes a cleanup copy.
use Prim.Native.Nat.{ℕ, zero, suc, ◌+◌, ◌*◌, ◌/◌, ◌%◌, ◌≤◌, ◌<◌}
use mathlib.Core.Path.{◌≡◌, refl, ap, sym, ◌∙◌}
use mathlib.Core.Bool.{Bool, true, false, cond}
use native.Mathlib.Omega.{arith}
use lib.Dec.{eqb}
use borrow.Author.Tests.{ne_eqb, lt-leb}
use Rattle.model.specs.declared.Direction.TheVariants.{AToB, BToA}
use Rattle.model.specs.Marker.{OK, A, B, FOREIGN, is_foreign, direction, torn_bits, torn}

-- the lowest bit of a torn marker is the new code's or the old marker's
torn_lowest : (old new m : ℕ) → torn old new m % 2 ≡ cond (eqb (m % 2) 1) (new % 2) (old % 2)
unfolding torn torn_bits
torn_lowest old new m = go (eqb (m % 2) 1) (torn_bits 7 (old / 2) (new / 2) (m / 2))
  where
    go : (t : Bool) (x : ℕ) → (cond t (new % 2) (old % 2) + 2 * x) % 2 ≡ cond t (new % 2) (old % 2)
    go true x = omega arith
    go false x = omega arith

-- "A to B leaves 0, 2, 4 or 6 and never 1"
pub torn_a_to_b : (m : ℕ) → ¬ (torn A B m ≡ OK)
torn_a_to_b m e = go (eqb (m % 2) 1) (sym (ap (λ (x : ℕ). x % 2) e) ∙ torn_lowest A B m)
  where
    go : (t : Bool) → OK % 2 ≡ cond t (B % 2) (A % 2) → ⊥
    go true h = omega arith
    go false h = omega arith

pub direction_a : (m : ℕ) → m ≡ A → direction m ≡ BToA
unfolding direction
direction_a m e = rw e

pub direction_other : (m : ℕ) → ¬ (m ≡ A) → direction m ≡ AToB
unfolding direction
direction_other m h = rw (ne_eqb m A h)

-- ---- Ticket 4: a marker of at most 7 isn't foreign, and torn by a code it stays so
pub not_foreign : (m : ℕ) → m ≤ 7 → is_foreign m ≡ false
not_foreign m h = lt-leb FOREIGN m (omega arith)

bits_zero : (n m : ℕ) → torn_bits n 0 0 m ≡ 0
unfolding torn_bits
bits_zero zero m = refl
bits_zero (suc n) m = go (eqb (m % 2) 1) (bits_zero n (m / 2))
  where
    go : (t : Bool) → torn_bits n 0 0 (m / 2) ≡ 0 → cond t 0 0 + 2 * torn_bits n 0 0 (m / 2) ≡ 0
    go true e = omega arith
    go false e = omega arith

-- one bit more doubles the bound
pub bits_more : (n b old new m : ℕ) → torn_bits n (old / 2) (new / 2) (m / 2) < b → torn_bits (suc n) old new m < 2 * b
unfolding torn_bits
bits_more n b old new m h = go (eqb (m % 2) 1)
  where
    go : (t : Bool) → cond t (new % 2) (old % 2) + 2 * torn_bits n (old / 2) (new / 2) (m / 2) < 2 * b
    go true = omega arith
    go false = omega arith

pub torn_small : (old new m : ℕ) → old ≤ 7 → new ≤ 7 → torn old new m ≤ 7
unfolding torn
torn_small old new m h k =
    let o : old / 2 / 2 / 2 ≡ 0 = omega arith in
    let n : new / 2 / 2 / 2 ≡ 0 = omega arith in
    let rest : torn_bits 5 (old / 2 / 2 / 2) (new / 2 / 2 / 2) (m / 2 / 2 / 2) < 1 =
    rw (o, n, bits_zero 5 (m / 2 / 2 / 2)) (omega arith) in
    omega (arith, bits_more 7 4 old new m (bits_more 6 2 (old / 2) (new / 2) (m / 2) (bits_more 5 1 (old / 2 / 2) (new / 2 / 2) (m / 2 / 2) rest)))
