-- The torn marker as code computes it, by two masks.
use Prim.Native.Nat.{ℕ, zero, suc, ◌+◌, ◌-◌, ◌/◌, ◌%◌, ◌^◌, ◌<◌}
use mathlib.Core.Path.{◌≡◌, refl, ap₂, ◌∙◌}
use mathlib.Core.Bool.{cond}
use native.Mathlib.Omega.{arith}
use native.Mathlib.Nat.{div-add-mod'}
use lib.Dec.{eqb}
use lib.Bits.{bit_and, bit_or, and_zero_r, or_zero_r, and_shr, or_shr, and_mod, or_mod}
use Rattle.model.specs.Marker.{torn_bits, torn}

one_bit : (x : ℕ) → x < 2 → bit_and x 1 ≡ x
one_bit zero h = refl
one_bit (suc zero) h = refl
one_bit (suc (suc x)) h = absurd (omega arith)

-- one bit: t is m's, and s its complement
digit : (x y t s : ℕ) → x < 2 → y < 2 → t + s ≡ 1 → bit_or (bit_and x t) (bit_and y s) ≡ cond (eqb t 1) x y
digit x y zero s hx hy h =
    let e : s ≡ 1 = omega arith in
    rw (e, and_zero_r x) (one_bit y hy)
digit x y (suc zero) s hx hy h =
    let e : s ≡ 0 = omega arith in
    rw (e, and_zero_r y, or_zero_r (bit_and x 1)) (one_bit x hx)
digit x y (suc (suc t)) s hx hy h = absurd (omega arith)

-- n bits: c is m's complement
masks : (n old new m c : ℕ) → m + c + 1 ≡ 2 ^ n → bit_or (bit_and new m) (bit_and old c) ≡ torn_bits n old new m
unfolding torn_bits
masks zero old new m c h =
    let e : m ≡ 0 = omega arith in
    let f : c ≡ 0 = omega arith in
    rw (e, f, and_zero_r new, and_zero_r old)
masks (suc n) old new m c h =
    let x : ℕ = bit_and new m in
    let y : ℕ = bit_and old c in
    let low : bit_or x y % 2 ≡ cond (eqb (m % 2) 1) (new % 2) (old % 2) =
    or_mod x y 1 ∙ ap₂ bit_or (and_mod new m 1) (and_mod old c 1)
    ∙ digit (new % 2) (old % 2) (m % 2) (c % 2) (omega arith) (omega arith) (omega arith) in
    let high : bit_or x y / 2 ≡ torn_bits n (old / 2) (new / 2) (m / 2) =
    or_shr x y 1 ∙ ap₂ bit_or (and_shr new m 1) (and_shr old c 1)
    ∙ masks n (old / 2) (new / 2) (m / 2) (c / 2) (omega arith) in
    omega (arith, div-add-mod' (bit_or x y) 2)

-- `(new & m) | (old & !m)`
pub torn_masks : (old new m : ℕ) → m < 256 → bit_or (bit_and new m) (bit_and old (255 - m)) ≡ torn old new m
unfolding torn
torn_masks old new m h = masks 8 old new m (255 - m) (omega arith)
