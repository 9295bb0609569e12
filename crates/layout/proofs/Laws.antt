-- How a loop over the plan's widths comes to the plan's number, a unit at a time.
use Prim.Native.Nat.{ℕ, zero, suc, ◌+◌, ◌-◌, ◌*◌, ◌/◌, ◌<◌, ◌≤◌}
use mathlib.Core.Path.{◌≡◌, refl, sym, ◌∙◌}
use mathlib.Core.List.{List}
use mathlib.Core.Bool.{Bool, true, false, cond, not, ◌||◌, true≢false, false≢true}
use native.Mathlib.Omega.{arith}
use native.Mathlib.Nat.{add-mul}
use native.Mathlib.Numerals.{add-one}
use lib.Bits.{bit_and, and_mask}
use lib.Dec.{eqb, ltb}
use lib.ListN.{get_or}
use borrow.Author.Tests.{eqb-true, ltb-false}
use Rattle.model.specs.declared.Plan.{Plan}
use Rattle.model.specs.Plans.{PageSize, one, four, eight, sixteen}
use Rattle.model.specs.Layout.{width, whole_pages, base, unit_length}
use Rattle.model.specs.Refusals.{bad_count, bad_widths, bad_page, start_number}
use Rattle.model.proofs.Compare.{below, above, order}
use Rattle.model.proofs.RefusalLaws.{first_skip, first_stop, false_or, page_fits}

or-true : (x y : Bool) → y ≡ true → x || y ≡ true
or-true true y e = refl
or-true false y e = e

-- the test of one width
abbrev pub bad_width : Plan → ℕ → Bool
bad_width p i = eqb (width p i) 0 || ltb 256 (width p i)

pub widths_more : (p : Plan) (i : ℕ) → bad_widths p.widths i ≡ false → bad_width p i ≡ false → bad_widths p.widths (i + 1) ≡ false
unfolding bad_widths
widths_more p i h e = rw (add-one i, h) e

pub widths_bad : (p : Plan) (n i : ℕ) → i < n → bad_width p i ≡ true → bad_widths p.widths n ≡ true
unfolding bad_widths
widths_bad p zero i h e = absurd (omega arith)
widths_bad p (suc n) i h e =
    elim (order i n) [
      | below l ↦ rw (widths_bad p n i l e)
      | above l ↦
          let q : i ≡ n = omega arith in
          or-true (bad_widths p.widths n) (bad_width p n) (rw q at e)
    ]

-- a number that is neither 0 nor more than there may be
pub inside_most : (n most : ℕ) → eqb n 0 || ltb most n ≡ false → n ≤ most
inside_most n most h = ltb-false most n (false_or (eqb n 0) (ltb most n) h).1

-- ---- pages
-- the page that the code goes by: the plan's, or 1 if that is refused
abbrev pub used : Plan → ℕ
used p = cond (bad_page p.page) 1 p.page

pub page_size : (p : Plan) (n : ℕ) → n ≡ used p → PageSize n
page_size p n e = rw e (go (bad_page p.page) refl)
  where
    go : (t : Bool) → bad_page p.page ≡ t → PageSize (cond t 1 p.page)
    go true h = one
    go false h = page_fits p h

pub size_bounds : (n : ℕ) → PageSize n → (1 ≤ n) × (n ≤ 16)
size_bounds n one = (omega arith, omega arith)
size_bounds n four = (omega arith, omega arith)
size_bounds n eight = (omega arith, omega arith)
size_bounds n sixteen = (omega arith, omega arith)

-- the code's tests: one of the three larger sizes, or not
pub page_many : (p : Plan) → (eqb p.page 4 || eqb p.page 8) || eqb p.page 16 ≡ true → p.page ≡ used p
unfolding bad_page
page_many p h = go (eqb p.page 1) (eqb p.page 4) (eqb p.page 8) (eqb p.page 16) h
  where
    go : (a b c d : Bool) → (b || c) || d ≡ true → p.page ≡ cond (not (a || (b || (c || d)))) 1 p.page
    go true b c d h = refl
    go false true c d h = refl
    go false false true d h = refl
    go false false false true h = refl
    go false false false false h = absurd (false≢true h)

pub page_not_many : (p : Plan) → (eqb p.page 4 || eqb p.page 8) || eqb p.page 16 ≡ false → 1 ≡ used p
unfolding bad_page
page_not_many p h = go (eqb p.page 1) (eqb p.page 4) (eqb p.page 8) (eqb p.page 16) refl h
  where
    go : (a b c d : Bool) → eqb p.page 1 ≡ a → (b || c) || d ≡ false → 1 ≡ cond (not (a || (b || (c || d)))) 1 p.page
    go true b c d e h = sym (eqb-true p.page 1 e)
    go false true c d e h = absurd (true≢false h)
    go false false true d e h = absurd (true≢false h)
    go false false false true e h = absurd (true≢false h)
    go false false false false e h = refl

pub times_page : (n u : ℕ) → PageSize n → u * n ≤ u * 16
times_page n u one = omega arith
times_page n u four = omega arith
times_page n u eight = omega arith
times_page n u sixteen = omega arith

-- that the code's page is the plan's tells whether the plan's is refused
pub page_kept : (p : Plan) (n : ℕ) → n ≡ used p → n ≡ p.page → bad_page p.page ≡ false
unfolding bad_page
page_kept p n e h = go (bad_page p.page) refl e
  where
    go : (t : Bool) → bad_page p.page ≡ t → n ≡ cond t 1 p.page → t ≡ false
    go true b q =
        let one : p.page ≡ 1 = omega (arith, q, h) in
        absurd (true≢false (sym b ∙ rw one))
    go false b q = refl

pub page_lost : (p : Plan) (n : ℕ) → n ≡ used p → ¬ (n ≡ p.page) → bad_page p.page ≡ true
page_lost p n e h = go (bad_page p.page) e
  where
    go : (t : Bool) → n ≡ cond t 1 p.page → t ≡ true
    go true q = refl
    go false q = absurd (h q)

-- 256 bytes are whole pages at every size
pub rounded_most : (page w : ℕ) → PageSize page → w ≤ 256 → whole_pages page w ≤ 256
unfolding whole_pages
rounded_most page w one h = omega arith
rounded_most page w four h = omega arith
rounded_most page w eight h = omega arith
rounded_most page w sixteen h = omega arith

-- in code a remainder is taken off by a mask
pub page_by_mask : (page x : ℕ) → PageSize page → x - bit_and x (page - 1) ≡ x / page * page
page_by_mask page x one = rw (and_mask x 0) (omega arith)
page_by_mask page x four = rw (and_mask x 2) (omega arith)
page_by_mask page x eight = rw (and_mask x 3) (omega arith)
page_by_mask page x sixteen = rw (and_mask x 4) (omega arith)

pub rounded_by_mask : (page w : ℕ) → PageSize page → w + (page - 1) - bit_and (w + (page - 1)) (page - 1) ≡ whole_pages page w
unfolding whole_pages
rounded_by_mask page w size = page_by_mask page (w + (page - 1)) size

-- the bytes of one copy of each of the first n units, by their widths
unfoldable pub copied : ℕ → List ℕ → ℕ → ℕ
copied page widths zero = 0
copied page widths (suc n) = copied page widths n + whole_pages page (get_or widths n 0)

pub copied_none : (page : ℕ) (widths : List ℕ) → copied page widths 0 ≡ 0
unfolding copied
copied_none page widths = refl

pub copied_more : (page : ℕ) (widths : List ℕ) (n : ℕ) → copied page widths (n + 1) ≡ copied page widths n + whole_pages page (get_or widths n 0)
unfolding copied
copied_more page widths n = rw (add-one n)

module _ (p : Plan) where
  -- where a unit begins: after a page for each marker, and two copies of each unit
  pub base_copied : (n : ℕ) → base p n ≡ n * p.page + 2 * copied p.page p.widths n
  unfolding base copied
  base_copied zero = omega arith
  base_copied (suc n) = omega (arith, base_copied n, add-mul n 1 p.page, add-one n)

  pub plan_one : bad_count p ≡ true → 1 ≡ start_number p
  unfolding start_number
  plan_one h = sym (first_stop 1 _ _ h)

  pub plan_two : bad_count p ≡ false → bad_widths p.widths p.count ≡ true → 2 ≡ start_number p
  unfolding start_number
  plan_two h e = sym (first_skip 1 _ _ h ∙ first_stop 2 _ _ e)

  pub plan_seventeen : bad_count p ≡ false → bad_widths p.widths p.count ≡ false → bad_page p.page ≡ true → 17 ≡ start_number p
  unfolding start_number
  plan_seventeen h e b = sym (first_skip 1 _ _ h ∙ first_skip 2 _ _ e ∙ first_stop 17 _ _ b)

  pub base_more : (u : ℕ) → base p (u + 1) ≡ base p u + unit_length p u
  unfolding base
  base_more u = rw (add-one u)

  pub base_none : base p 0 ≡ 0
  unfolding base
  base_none = refl
