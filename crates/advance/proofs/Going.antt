-- Steps made one by one, until one is refused.
use Prim.Native.Nat.{ℕ, suc, ◌+◌, ◌-◌, ◌≤◌, ◌<◌}
use mathlib.Core.Path.{◌≡◌, ap, sym, ◌∙◌}
use mathlib.Core.List.{List}
use native.Mathlib.Omega.{arith}
use borrow.Author.Tests.{eq-eqb, ne_eqb}
use Rattle.model.specs.Calls.{Device, Outcome, outcome, step}
use Rattle.model.specs.Steps.{steps}

module _ (count made : ℕ) (d : Device) (image : List ℕ) where
  pub row_ends : count ≤ made → steps (count - made) d image ≡ outcome 0 d image
  unfolding steps
  row_ends h = let n : count - made ≡ 0 = omega arith in rw n

  -- d', image' and k are what the code's step comes to
  module _ (more : made < count) (k : ℕ) (d' : Device) (image' : List ℕ) (is : outcome k d' image' ≡ step d image) where
    number : (step d image).number ≡ k
    number = ap (λ (o : Outcome). o.number) (sym is)

    pub row_stops : ¬ (k ≡ 0) → steps (count - made) d image ≡ outcome k d' image'
    unfolding steps
    row_stops h =
        let n : count - made ≡ suc (count - (made + 1)) = omega arith in
        rw n (simp (ne_eqb _ _ (λ z. h (sym number ∙ z)))) ∙ sym is

    pub row_goes_on : k ≡ 0 → steps (count - made) d image ≡ steps (count - (made + 1)) d' image'
    unfolding steps
    row_goes_on z =
        let n : count - made ≡ suc (count - (made + 1)) = omega arith in
        rw n (simp (eq-eqb _ _ (number ∙ z)))
        ∙ ap (λ (o : Outcome). steps (count - (made + 1)) o.device o.image) (sym is)
