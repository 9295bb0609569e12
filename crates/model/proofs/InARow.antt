-- `steps` is so many calls of step in a row: what a refused step leaves, the next one leaves too.
use Prim.Native.Nat.{ℕ, zero, suc}
use mathlib.Core.Path.{◌≡◌, refl, ap, sym, ◌∙◌}
use mathlib.Core.List.{List}
use lib.ListN.{replicate}
use borrow.Author.Tests.{eq-eqb, ne_eqb}
use Rattle.model.specs.Refusals.{step_number}
use Rattle.model.specs.Calls.{Device, Outcome, outcome, view}
use Rattle.model.specs.Calls as calls
use Rattle.model.specs.Ledger.{step}
use Rattle.model.specs.PowerCut.{call, run}
use Rattle.model.proofs.Compare.{equal, differ, same}
use Rattle.model.specs.Steps.{steps, StepsAreCalls}

again : (d : Device) (image : List ℕ) → ¬ ((calls.step d image).number ≡ 0) → call step (calls.step d image) ≡ calls.step d image
unfolding call calls.step
again d image h = go (step_number (view d image)) refl
  where
    go : (k : ℕ) → step_number (view d image) ≡ k → call step (calls.step d image) ≡ calls.step d image
    go zero e = absurd (h (rw e))
    go (suc k) e = rw e (rw e)

stays : (n : ℕ) (o : Outcome) → call step o ≡ o → run (replicate n step) o ≡ o
unfolding run
stays zero o e = refl
stays (suc n) o e = ap (run (replicate n step)) e ∙ stays n o e

pub steps_run : StepsAreCalls
unfolding steps run call
steps_run zero d image = refl
steps_run (suc n) d image =
    let o : Outcome = calls.step d image in
    elim (same o.number 0) [
      | equal e ↦ rw (eq-eqb o.number 0 e)
          (steps_run n o.device o.image ∙ ap (λ (k : ℕ). run (replicate n step) (outcome k o.device o.image)) (sym e))
      | differ e ↦ rw (ne_eqb o.number 0 e) (sym (stays n o (again d image e)))
    ]
