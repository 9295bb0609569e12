-- Where unit 0's total stands; and what a total's 0 says.
use Prim.Native.Nat.{ℕ, ◌+◌, ◌-◌, ◌<◌, ◌≤◌}
use mathlib.Core.Path.{◌≡◌, ap, ap₂, sym, ◌∙◌, refl}
use mathlib.Core.List.{List, [], ◌∷◌}
use mathlib.Core.Bool.{not}
use native.Mathlib.Omega.{arith}
use lib.Dec.{eqb}
use lib.ListN.{length, take, drop}
use borrow.Author.Tests.{eqb-true, not-false}
use Rattle.model.specs.declared.Plan.{Plan}
use Rattle.model.specs.declared.Role.{Role}
use Rattle.model.specs.declared.Phase.{Phase}
use Rattle.model.specs.Layout.{copy_a, width, base, total, copy_of}
use Rattle.model.specs.Turns.{amount}
use Rattle.model.specs.Refusals.{◌when◌, Refusal, read_number, total_number}
use Rattle.model.specs.Calls.{view_of}
use Rattle.model.proofs.RefusalLaws.{PlanOk, count_bounds, first_past, first_front, first_passed}
use Rattle.model.proofs.LayoutLaws.{copy_length_lem, copy_room, base_bound}

-- copy A of unit 0 is the eight bytes after its marker's page
pub total_part : (p : Plan) (image : List ℕ) → width p 0 ≡ 8 → take 8 (drop p.page image) ≡ copy_of p image 0 copy_a
unfolding copy_of base
total_part p image w =
    let at : p.page ≡ 0 + (p.page + 0) = omega arith in
    ap₂ (λ (n q : ℕ). take n (drop q image)) (sym w) at

-- there is a unit 0, and if it is eight bytes wide, so is its copy A
pub first_unit : (p : Plan) → PlanOk p → 0 < p.count
first_unit p ok = (count_bounds p ok).0

pub eight_held : (p : Plan) (image : List ℕ) → PlanOk p → total p ≤ length image → width p 0 ≡ 8 → length (copy_of p image 0 copy_a) ≡ 8
eight_held p image ok long w = copy_length_lem p ok image 0 copy_a (first_unit p ok) long ∙ w

pub eight_inside : (p : Plan) (image : List ℕ) → PlanOk p → total p ≤ length image → width p 0 ≡ 8 → p.page + 8 ≤ length image
eight_inside p image ok long w = omega (arith, w, copy_room p ok 0, base_bound p ok 0 p.count (first_unit p ok), long)

-- what the code adds up there is what copy A holds
pub held_amount : (p : Plan) (image : List ℕ) → width p 0 ≡ 8 → amount (take 8 (drop p.page image)) ≡ amount (copy_of p image 0 copy_a)
held_amount p image w = ap amount (total_part p image w)

-- the part of the image that the code lends, from its first byte and the byte past its last
pub eight_from : (page : ℕ) (image : List ℕ) → amount (take (page + 8 - page) (drop page image)) ≡ amount (take 8 (drop page image))
eight_from page image =
    let e : page + 8 - page ≡ 8 = omega arith in
    ap (λ (n : ℕ). amount (take n (drop page image))) e

-- what a total's 0 says
pub total_says : (p : Plan) (payload : List ℕ) (phase : Phase) (image : List ℕ) (role : Role) (u : ℕ) → total_number (view_of p payload phase image) role u ≡ 0
    → (read_number (view_of p payload phase image) role u ≡ 0) × (width p u ≡ 8)
unfolding read_number total_number
total_says p payload phase image role u e =
    let wide : List Refusal = 16 when not (eqb (width p u) 8) ∷ [] in
    let read : read_number (view_of p payload phase image) role u ≡ 0 = first_front _ wide e in
    let h = first_past 15 (not (eqb (width p u) 8)) [] (sym (first_passed _ wide refl read) ∙ e) in
    (read, eqb-true (width p u) 8 (not-false _ h.0))
