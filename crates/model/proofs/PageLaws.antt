-- Whole pages: rounding up to them, and the page around a byte.
use Prim.Native.Nat.{ℕ, ◌+◌, ◌-◌, ◌*◌, ◌/◌, ◌≤◌, ◌<◌}
use mathlib.Core.Path.{◌≡◌, refl, ap, ◌∙◌}
use native.Mathlib.Omega.{arith}
use native.Mathlib.Nat.{div-add-mod', mod-lt, add-mul, mul-le-mul_right, le-div_iff_mul-le, div-lt_iff_lt-mul, mul-add-div_right}
use Rattle.model.specs.Layout.{whole_pages}

-- rounded up to whole pages, w bytes have room, and less than a page is left
pub pages_room : (page w : ℕ) → 0 < page → (w ≤ whole_pages page w) × (whole_pages page w < w + page)
unfolding whole_pages
pages_room page w h =
    let x : ℕ = w + (page - 1) in
    (omega (arith, div-add-mod' x page, mod-lt x h), omega (arith, div-add-mod' x page, mod-lt x h))

-- a whole number of pages
pub record Pages (page x : ℕ) : Type 0 where
  pub many : ℕ
  pub is : x ≡ many * page

pub pages_add : {page x y : ℕ} → Pages page x → Pages page y → Pages page (x + y)
pages_add {page} a b = record { many = a.many + b.many; is = omega (arith, a.is, b.is, add-mul a.many b.many page) }

pub no_page : {page : ℕ} → Pages page 0
no_page = record { many = 0; is = omega arith }

pub one_page : {page : ℕ} → Pages page page
one_page = record { many = 1; is = omega arith }

pub rounded_pages : (page w : ℕ) → Pages page (whole_pages page w)
unfolding whole_pages
rounded_pages page w = record { many = (w + (page - 1)) / page; is = refl }

-- the page around byte i of m bytes that stand after k bytes: it is the page around i, counted from k on, and lies in the m bytes
module _ (page : ℕ) (some : 0 < page) {k : ℕ} (before : Pages page k) where
  pub page_after : (i : ℕ) → (k + i) / page * page ≡ k + i / page * page
  page_after i =
      ap (λ (x : ℕ). (x + i) / page * page) before.is
      ∙ ap (λ (x : ℕ). x * page) (mul-add-div_right some before.many i)
      ∙ omega (arith, before.is, add-mul before.many (i / page) page)

  pub page_within : {m : ℕ} → Pages page m → (x : ℕ) → k ≤ x → x < k + m → (k ≤ x / page * page) × (x / page * page + page ≤ k + m)
  page_within {m} span x l r =
      let a : ℕ = before.many in
      let b : ℕ = span.many in
      let low : a ≤ x / page = (le-div_iff_mul-le some).1 (omega (arith, before.is)) in
      let high : x / page < a + b = (div-lt_iff_lt-mul some).1 (omega (arith, before.is, span.is, add-mul a b page)) in (
        omega (arith, before.is, mul-le-mul_right page low),
        omega (arith, before.is, span.is, add-mul a b page, add-mul (x / page) 1 page, mul-le-mul_right page high),
      )
