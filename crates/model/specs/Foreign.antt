-- Ticket 4, 'Memory from another product': what a formatted device's markers can be. It is proved in proofs/Theorem.antt.
use Rattle.std.specs.Prelude.{ℕ, ◌≤◌, ◌<◌, ◌≡◌, List, take}
use Rattle.model.specs.Layout.{marker, get}
use Rattle.model.specs.Calls.{Device}
use Rattle.model.specs.Calls as calls
use Rattle.model.specs.Ledger.{Call}
use Rattle.model.specs.PowerCut.{run, closed_by}

-- "From a formatted device, at every point of demand 3's lists, no marker exceeds 7": after the first n calls
-- of the list, for every n.
abbrev pub NeverForeign : Type 0
NeverForeign =
    (d : Device) (image : List ℕ)
    → (calls.format d image).number ≡ 0
    → (cs : List Call) (bytes : List ℕ) (n : ℕ)
    → (u : ℕ) → u < d.plan.count
    → get d.plan (run (take n (closed_by bytes cs)) (calls.format d image)).image u marker ≤ 7
