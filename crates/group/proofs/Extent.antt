-- How far members reach.
use Prim.Native.Nat.{ℕ, zero, suc, ◌+◌, ◌-◌, ◌≤◌, ◌<◌}
use mathlib.Core.Path.{◌≡◌, refl, ap, ap₂, ◌∙◌}
use mathlib.Core.List.{List, [], ◌∷◌}
use mathlib.Core.Bool.{true, ◌&&◌}
use native.Mathlib.Omega.{arith}
use lib.Dec.{eqb}
use lib.ListN.{length, get_or, drop, replicate, length-drop, length-take}
use lib.Seq.{drop-cons}
use Rattle.model.specs.declared.Plan.{Plan}
use Rattle.model.specs.Plans.{width}
use Rattle.model.specs.Groups.{alike}
use Rattle.group.specs.Parts.{extent}
use Rattle.group.specs.Members.{Begins, Short}
use Rattle.group.proofs.Walk.{past_end}

extent_none : (p : Plan) (bytes : List ℕ) → extent p 0 bytes ≡ 0
unfolding extent
extent_none p bytes = refl

-- a member that is cut short takes what there is
extent_short : (p : Plan) (n : ℕ) (xs : List ℕ) → Short p xs → extent p (suc n) xs ≡ length xs
unfolding extent
extent_short p n [] h = refl
extent_short p zero (u ∷ xs) h = omega (arith, length-take (width p u) xs)
extent_short p (suc n) (u ∷ xs) h =
    omega (arith, length-take (width p u) xs, ap (extent p (suc n)) (past_end xs (width p u) (omega arith)))

extent_more : (p : Plan) (n : ℕ) (xs : List ℕ) → width p (get_or xs 0 0) < length xs
    → extent p (suc n) xs ≡ suc (width p (get_or xs 0 0)) + extent p n (drop (suc (width p (get_or xs 0 0))) xs)
unfolding extent
extent_more p n [] h = absurd (omega arith)
extent_more p n (u ∷ xs) h = omega (arith, length-take (width p u) xs)

-- the members passed take the bytes before the rest, and n are still to pass
pub record Reached (p : Plan) (g rest : List ℕ) (members n : ℕ) : Type 0 where
  pub inside : length rest ≤ length g
  pub after : extent p members g ≡ (length g - length rest) + extent p n rest

pub reached_none : (p : Plan) (g : List ℕ) (n : ℕ) → Reached p g g n (n - 0)
reached_none p g n = record { inside = omega arith; after = omega (arith, ap (λ (k : ℕ). extent p k g) {x = n - 0} {y = n} (omega arith)) }

module _ {p : Plan} {g rest : List ℕ} {members n : ℕ} (r : Reached p g rest members n) where
  pub reached_all : n ≡ 0 → extent p members g ≡ length g - length rest
  reached_all e = omega (arith, r.after, ap (λ (k : ℕ). extent p k rest) e, extent_none p rest)

  pub reached_short : 0 < n → Short p rest → extent p members g ≡ length g
  reached_short l h =
      omega (
        arith,
        r.inside,
        r.after,
        ap (λ (k : ℕ). extent p k rest) {x = n} {y = suc (n - 1)} (omega arith),
        extent_short p (n - 1) rest h,
      )

  pub reached_more : {u : ℕ} {behind : List ℕ} {k : ℕ} → n ≡ suc k → Begins p rest u behind → Reached p g behind members k
  reached_more {u} {behind} {k} l begins =
      let wide : width p u ≡ width p (get_or rest 0 0) = ap (width p) begins.0 in
      let size : length behind ≡ length rest - suc (width p u) = ap length begins.2 ∙ length-drop (suc (width p u)) rest in
      record {
        inside = omega (arith, r.inside, size);
        after = omega (
          arith,
          r.inside,
          r.after,
          size,
          wide,
          begins.1,
          ap (λ (j : ℕ). extent p j rest) l,
          extent_more p k rest (omega (arith, wide, begins.1)),
          ap (λ (w : ℕ). extent p k (drop (suc w) rest)) wide,
          ap (extent p k) begins.2,
        );
      }

-- ---- bytes that are zeros, from a place on
pub zeros_more : (g : List ℕ) (at : ℕ) → at < length g
    → alike (replicate (length g - at) 0) (drop at g) ≡ eqb 0 (get_or g at 0) && alike (replicate (length g - (at + 1)) 0) (drop (at + 1) g)
unfolding alike
zeros_more g at h =
    ap₂ alike
    (ap (λ (k : ℕ). replicate {A = ℕ} k 0) {x = length g - at} {y = suc (length g - (at + 1))} (omega arith))
    (drop-cons g at 0 h ∙ ap (λ (k : ℕ). get_or g at 0 ∷ drop k g) {x = suc at} {y = at + 1} (omega arith))

pub zeros_end : (g : List ℕ) (at : ℕ) → at ≡ length g → alike (replicate (length g - at) 0) (drop at g) ≡ true
unfolding alike
zeros_end g at h =
    ap₂ alike (ap (λ (k : ℕ). replicate {A = ℕ} k 0) {x = length g - at} {y = 0} (omega arith)) (past_end g at (omega arith))
