-- What the table of rights says of a role and a unit: the definitions' truths, and the conditions in which the statements speak.
use Prim.Native.Nat.{ℕ}
use mathlib.Core.Path.{◌≡◌, refl, ap, sym, ◌∙◌}
use mathlib.Core.Bool.{Bool, true, false, ◌||◌, or-true}
use lib.Dec.{eqb}
use borrow.Author.Tests.{eqb-true, eq-eqb, ne_eqb}
use Rattle.model.specs.declared.Rights.{Rights}
use Rattle.model.specs.declared.Role.{Role}
use Rattle.model.specs.declared.Role.TheVariants.{Rider, Gym, Service}
use Rattle.model.specs.Rights.{SEE, SEE-AND-WRITE, right, may_see, may_write}
use Rattle.model.specs.Demands.{granted, MaySee, MayWrite, sees, writes_too}
use Rattle.model.proofs.Compare.{equal, differ, same}

refuted : {P : Type 0} (b : Bool) → (b ≡ true → P) → ¬ P → b ≡ false
refuted true h n = absurd (n (h refl))
refuted false h n = refl

module _ (rights : Rights) where
  right_is : (role : Role) (u : ℕ) → right rights role u ≡ granted rights role u
  unfolding right
  right_is Rider u = refl
  right_is Gym u = refl
  right_is Service u = refl

  module _ (role : Role) (u : ℕ) where
    pub may_write_lem : MayWrite rights role u → may_write rights role u ≡ true
    unfolding may_write
    may_write_lem h = eq-eqb (right rights role u) SEE-AND-WRITE (right_is role u ∙ h)

    pub write_may : may_write rights role u ≡ true → MayWrite rights role u
    unfolding may_write
    write_may h = sym (right_is role u) ∙ eqb-true (right rights role u) SEE-AND-WRITE h

    pub may_see_lem : MaySee rights role u → may_see rights role u ≡ true
    unfolding may_see
    may_see_lem (sees h) = ap (λ (b : Bool). b || may_write rights role u) (eq-eqb (right rights role u) SEE (right_is role u ∙ h))
    may_see_lem (writes_too h) =
        ap (λ (b : Bool). eqb (right rights role u) SEE || b) (may_write_lem h) ∙ or-true (eqb (right rights role u) SEE)

    pub see_may : may_see rights role u ≡ true → MaySee rights role u
    unfolding may_see
    see_may h =
        elim (same (right rights role u) SEE) [
          | equal e ↦ sees (sym (right_is role u) ∙ e)
          | differ e ↦ writes_too (write_may (ap (λ (b : Bool). b || may_write rights role u) (sym (ne_eqb (right rights role u) SEE e)) ∙ h))
        ]

    pub not_seen : ¬ MaySee rights role u → may_see rights role u ≡ false
    not_seen h = refuted (may_see rights role u) see_may h

    pub not_written : ¬ MayWrite rights role u → may_write rights role u ≡ false
    not_written h = refuted (may_write rights role u) write_may h

    -- see and write is a right to see as well
    pub write_sees : may_write rights role u ≡ true → may_see rights role u ≡ true
    write_sees h = may_see_lem (writes_too (write_may h))
