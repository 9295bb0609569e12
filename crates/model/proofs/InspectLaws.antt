-- What the unit that inspect names is: bad, and every lower one good; and none is named exactly if all are good.
use Prim.Native.Nat.{ℕ, zero, suc, ◌+◌, ◌≤◌, ◌<◌}
use mathlib.Core.Path.{◌≡◌}
use mathlib.Core.List.{List}
use mathlib.Core.Option.{Option, none, some}
use native.Mathlib.Omega.{arith}
use borrow.Author.Tests.{eq-eqb, ne_eqb}
use Rattle.model.specs.declared.Plan.{Plan}
use Rattle.model.specs.Marker.{OK}
use Rattle.model.specs.Layout.{marker, get}
use Rattle.model.specs.Calls.{AllMarkersOk, lowest_bad}
use Rattle.model.proofs.Compare.{equal, differ, same}

module _ (p : Plan) (image : List ℕ) where
  abbrev pub Good : ℕ → Type 0
  Good u = get p image u marker ≡ OK

  -- of the n units from u on
  abbrev pub Lowest : ℕ → ℕ → Option ℕ → Type 0
  Lowest u n none = (v : ℕ) → u ≤ v → v < u + n → Good v
  Lowest u n (some t) = (u ≤ t) × (t < u + n) × ¬ Good t × ((v : ℕ) → u ≤ v → v < t → Good v)

  wider : (u n : ℕ) (found : Option ℕ) → Good u → Lowest (suc u) n found → Lowest u (suc n) found
  wider u n none e t = λ v l h. elim (same v u) [ equal q ↦ rw q e | differ q ↦ t v (omega arith) (omega arith) ]
  wider u n (some w) e t =
      (omega arith, omega arith, t.2, λ v l h. elim (same v u) [ equal q ↦ rw q e | differ q ↦ t.3 v (omega arith) (omega arith) ])

  here : (u n : ℕ) → ¬ Good u → Lowest u (suc n) (some u)
  here u n h = (omega arith, omega arith, h, λ v l m. absurd (omega arith))

  pub lowest_among : (n u : ℕ) → Lowest u n (lowest_bad p image n u)
  unfolding lowest_bad
  lowest_among zero u = λ v l h. absurd (omega arith)
  lowest_among (suc n) u =
      elim (same (get p image u marker) OK) [
        | equal e ↦ rw (eq-eqb (get p image u marker) OK e) (wider u n (lowest_bad p image n (suc u)) e (lowest_among n (suc u)))
        | differ h ↦ rw (ne_eqb (get p image u marker) OK h) (here u n h)
      ]

  abbrev pub Names : Option ℕ → Type 0
  Names none = AllMarkersOk p image
  Names (some u) = (u < p.count) × ¬ Good u × ((v : ℕ) → v < u → Good v)

  -- "Inspect now names the lowest unit whose marker isn't 1"; "none exactly if all are 1"
  pub names_lowest : Names (lowest_bad p image p.count 0)
  names_lowest = whole (lowest_bad p image p.count 0) (lowest_among p.count 0)
    where
      whole : (found : Option ℕ) → Lowest 0 p.count found → Names found
      whole none t = λ v h. t v (omega arith) (omega arith)
      whole (some u) t = (omega arith, t.2, λ v h. t.3 v (omega arith) h)
