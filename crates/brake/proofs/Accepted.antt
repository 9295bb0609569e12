-- Document 01, 'Brake drive': which levels and rates are accepted, and their drives by the rule.
use Prim.Native.Nat.{ℕ, ◌/◌, ◌≤◌, ◌<◌}
use native.Mathlib.Omega.{arith}
use mathlib.Core.Path.{◌≡◌, refl}
use mathlib.Core.Bool.{Bool, true, false, cond, ◌||◌}
use lib.Dec.{eqb, ltb}
use borrow.Author.Tests.{eqb-false, ltb-false, ne_eqb, le-ltb}
use Rattle.model.specs.Refusals.{first}
use Rattle.model.specs.Drive.{drive_rule, drive_number, drive}
use Rattle.brake.specs.Promises.{InRange}

pub accepts : (l r : ℕ) → 0 < l → l ≤ 20 → r ≤ 255 → drive_number l r ≡ 0
unfolding drive_number first
accepts l r low high rate = simp (ne_eqb l 0 (λ e. omega arith), le-ltb 20 l high, le-ltb 255 r rate)

none_refuses : (a b c : Bool) → ◌≡◌ {A = ℕ} (cond (a || b) 9 (cond c 10 0)) 0 → (a ≡ false) × (b ≡ false) × (c ≡ false)
none_refuses true b c e = absurd (omega arith)
none_refuses false true c e = absurd (omega arith)
none_refuses false false true e = absurd (omega arith)
none_refuses false false false e = (refl, refl, refl)

pub in_range : (l r : ℕ) → drive_number l r ≡ 0 → InRange l r
unfolding drive_number first
in_range l r accepted =
    let passed = none_refuses (eqb l 0) (ltb 20 l) (ltb 255 r) accepted in
    let not-zero = eqb-false l 0 passed.0 in
    record { above = omega arith; level = ltb-false 20 l passed.1; rate = ltb-false 255 r passed.2 }

pub by_rule : (l r : ℕ) → drive_number l r ≡ 0 → drive l r ≡ drive_rule l (r / 4)
unfolding drive
by_rule l r accepted = rw accepted
