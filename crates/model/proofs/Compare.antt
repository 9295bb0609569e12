-- Two numbers compared, each outcome with what it shows.
use Prim.Native.Nat.{ℕ, zero, suc, ◌≤◌, ◌<◌, zero-le, suc-le-suc}
use mathlib.Core.Path.{◌≡◌, refl, ap}
use native.Mathlib.Omega.{arith}

pub data Order (m n : ℕ) : Type 0 where
  below : m < n → Order m n
  above : n ≤ m → Order m n

pub order : (m n : ℕ) → Order m n
order m zero = above zero-le
order zero (suc n) = below (suc-le-suc zero-le)
order (suc m) (suc n) = elim (order m n) [ below h ↦ below (suc-le-suc h) | above h ↦ above (suc-le-suc h) ]

pub data Same (m n : ℕ) : Type 0 where
  equal : m ≡ n → Same m n
  differ : ¬ (m ≡ n) → Same m n

pub same : (m n : ℕ) → Same m n
same zero zero = equal refl
same zero (suc n) = differ (omega arith)
same (suc m) zero = differ (omega arith)
same (suc m) (suc n) = elim (same m n) [ equal h ↦ equal (ap suc h) | differ h ↦ differ (λ e. h (omega arith)) ]
