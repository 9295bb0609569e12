-- Document 01, 'Bench program': "`(step N)`, N 1 to 65535, ending early at a refusal": so many steps.
use Rattle.std.specs.Prelude.{ℕ, zero, suc, ◌≡◌, List, cond, eqb, replicate}
use Rattle.model.specs.Calls.{Device, Outcome, outcome, step}
use Rattle.model.specs.Ledger as call
use Rattle.model.specs.PowerCut.{run}

unfoldable pub steps : ℕ → Device → List ℕ → Outcome
steps zero d image = outcome 0 d image
steps (suc n) d image =
    let o : Outcome = step d image in
    cond (eqb o.number 0) (steps n o.device o.image) o

-- `steps` is a list of the power-cut theorem: n calls of step in a row, for every n, device and image, refused or not. A refused step
-- changes nothing, so the next one is refused alike, and ending early comes to the same. Proved in proofs/InARow.antt.
abbrev pub StepsAreCalls : Type 0
StepsAreCalls =
    (n : ℕ) (d : Device) (image : List ℕ)
    → steps n d image ≡ run (replicate n call.step) (outcome 0 d image)
