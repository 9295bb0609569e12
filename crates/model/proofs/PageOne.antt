-- Pages of one byte: a plan with p = 1 has the places and the images that document 01 alone has.
use Prim.Native.Nat.{ℕ, zero, suc, ◌-◌, ◌*◌}
use mathlib.Core.Path.{◌≡◌, refl, ap, ap₂, ◌∙◌}
use mathlib.Core.List.{List, [], ◌∷◌, ◌++◌}
use native.Mathlib.Omega.{arith}
use lib.ListN.{get_or, set, take, drop, replicate}
use lib.Seq.{sets}
use Rattle.model.specs.declared.Plan.{Plan}
use Rattle.model.specs.Layout.{copy_a, copy_b, Cell, marker, byte, width, whole_pages, copy_length, unit_length, base, place, page_at, get, put_page, fresh, formatted}
use Rattle.model.specs.Stores.{page_left, stored}
use Rattle.model.specs.PageOne.{old_base, old_place, old_fresh, old_torn, PageOne}

module _ (p : Plan) (one : p.page ≡ 1) where
  copy_one : (u : ℕ) → copy_length p u ≡ width p u
  unfolding whole_pages
  copy_one u = rw one (omega arith)

  base_one : (u : ℕ) → base p u ≡ old_base p u
  unfolding base old_base
  base_one zero = refl
  base_one (suc u) = omega (arith, base_one u, copy_one u)

  place_one : (u : ℕ) (c : Cell) → place p u c ≡ old_place p u c
  place_one u marker = omega (arith, base_one u)
  place_one u (byte copy_a i) = omega (arith, base_one u)
  place_one u (byte copy_b i) = omega (arith, base_one u, copy_one u)

  fresh_one : (n : ℕ) → fresh p n ≡ old_fresh p n
  unfolding fresh old_fresh
  fresh_one zero = refl
  fresh_one (suc n) =
      let zeros : unit_length p n - 1 ≡ 2 * width p n = omega (arith, copy_one n) in
      ap₂ (λ (xs : List ℕ) (k : ℕ). xs ++ (1 ∷ replicate k 0)) (fresh_one n) zeros

  page_one : (at : ℕ) → page_at p at ≡ at
  page_one at = rw one (omega arith)

  -- one byte is torn
  torn_one : (image : List ℕ) (u x : ℕ) (c : Cell) → put_page p image u c (x ∷ []) ≡ set image (old_place p u c) x
  unfolding put_page
  torn_one image u x c =
      ap₂ (λ (q n : ℕ). sets image q (take n (x ∷ []))) (page_one (place p u c) ∙ place_one u c) one

  left_one : (c : Cell) (old new m : ℕ) → page_left c old new (m ∷ []) ≡ old_torn c old new m ∷ []
  left_one marker old new m = refl
  left_one (byte c i) old new m = refl

pub page_one_gives_old_images : PageOne
unfolding formatted stored get
page_one_gives_old_images p one =
    record {
      places = place_one p one;
      units = base_one p one;
      formats = λ image. ap₂ (λ (xs : List ℕ) (n : ℕ). xs ++ drop n image) (fresh_one p one p.count) (base_one p one p.count);
      tears = λ image s m.
          let old : ℕ = get_or image (place p s.unit s.cell) 0 in
          ap (put_page p image s.unit s.cell) (left_one p one s.cell old s.value m)
          ∙ torn_one p one image s.unit (old_torn s.cell old s.value m) s.cell
          ∙ ap (λ (q : ℕ). set image (old_place p s.unit s.cell) (old_torn s.cell (get_or image q 0) s.value m))
          (place_one p one s.unit s.cell);
    }
