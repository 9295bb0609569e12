-- THE WEAR CEILING, Ticket 6, 'Worst wear on one sheet': how many stores a list of calls can make. It is proved in proofs/Wear.antt,
-- and docs/WEAR.md says it for the chip's buyer.
--
-- Which calls are accepted is told by the ledger, which is fed their arguments alone and whose numbers are the device's
-- (`answered` of specs/PowerCut.antt). So nothing is read off the count that is judged here. The sums have no bound.
use Rattle.std.specs.Prelude.{ℕ, zero, suc, ◌+◌, ◌*◌, ◌≤◌, max, min, ◌≡◌, List, [], ◌∷◌}
use Rattle.model.specs.declared.Plan.{Plan}
use Rattle.model.specs.Plans.{width}
use Rattle.model.specs.Groups.{last, members}
use Rattle.model.specs.Refusals.{Job, cold, ready, writing, recovering, grouping}
use Rattle.model.specs.Calls.{Device}
use Rattle.model.specs.Calls as calls
use Rattle.model.specs.Ledger.{Ledger, Call, begin, ride, group, paid, step, cut, wake, opening, told, accepted, fed}
use Rattle.model.specs.PowerCut.{run, stores_of, added}

-- ---- A sum over the accepted calls of a list. What a call adds is asked with the ledger before it.
abbrev pub if_accepted : ℕ → ℕ → ℕ
if_accepted zero n = n
if_accepted (suc refusal) n = 0

unfoldable pub over_accepted : (Ledger → Call → ℕ) → Plan → Ledger → List Call → ℕ
over_accepted each p l [] = 0
over_accepted each p l (c ∷ cs) = if_accepted (told p l c) (each l c) + over_accepted each p (fed p l c) cs

-- "the completed stores of the list": an accepted step completes one
abbrev pub completes : Ledger → Call → ℕ
completes l (begin role u payload) = 0
completes l (ride turns) = 0
completes l (group g) = 0
completes l (paid turns) = 0
completes l step = 1
completes l (cut bytes) = 0
completes l wake = 0

-- the torn ones, which the count leaves out: a cut tears a store in Writing, Recovering and a group phase
abbrev pub torn_at : Job → ℕ
torn_at cold = 0
torn_at ready = 0
torn_at (writing u made) = 1
torn_at (recovering u made) = 1
torn_at (grouping i made) = 1

abbrev pub tears : Ledger → Call → ℕ
tears l (begin role u payload) = 0
tears l (ride turns) = 0
tears l (group g) = 0
tears l (paid turns) = 0
tears l step = 0
tears l (cut bytes) = torn_at l.job
tears l wake = 0

-- ---- The ceiling: "the sum of 2w + 3 over the accepted begins, plus, for each cut, 1 plus the largest width of the plan".
-- A ride is a begin of unit 0. Ticket 9: "accepted cuts only". Ticket 10: "for each accepted group, its members' writes and two of the
-- record, and for each cut the steps that a record standing after cleanup adds": a cleanup brings back what the ledger has as written.
-- the largest of the first n widths
unfoldable pub widest : Plan → ℕ → ℕ
widest p zero = 0
widest p (suc n) = max (widest p n) (width p n)

abbrev pub allows : Plan → Ledger → Call → ℕ
allows p l (begin role u payload) = 2 * width p u + 3
allows p l (ride turns) = 2 * width p 0 + 3
allows p l (group g) = stores_of p (members p g) + 2 * (2 * width p (last p) + 3)
allows p l (paid turns) = 2 * width p 0 + 3 + (2 * width p 1 + 3) + 2 * (2 * width p (last p) + 3)
allows p l step = 0
allows p l (cut bytes) = 1 + widest p p.count + added p ((accepted p l (cut bytes)).written (last p))
allows p l wake = 0

-- ---- Of a list of calls from a formatted device
abbrev pub completed_in : Plan → List Call → ℕ
completed_in p cs = over_accepted completes p (opening p) cs

abbrev pub torn_in : Plan → List Call → ℕ
torn_in p cs = over_accepted tears p (opening p) cs

abbrev pub ceiling : Plan → List Call → ℕ
ceiling p cs = over_accepted (allows p) p (opening p) cs

-- ---- The theorem. `stores` is the device's count after the list.
pub record Worn (p : Plan) (cs : List Call) (stores : ℕ) : Type 0 where
  -- "It also equals the completed stores of the list, or 4,294,967,295 if those are more."
  pub counts : stores ≡ min (completed_in p cs) 4294967295
  -- "the count is at most the sum"
  pub at_most : stores ≤ ceiling p cs
  -- More than was asked, since a torn store wears the chip as well: the ceiling holds with the torn ones counted in, and also where
  -- the count stands still.
  pub torn_too : completed_in p cs + torn_in p cs ≤ ceiling p cs

-- "For every list of begin, step, cut and wake from a formatted device"
abbrev pub WearCeiling : Type 0
WearCeiling =
    (d : Device) (image : List ℕ)
    → (calls.format d image).number ≡ 0
    → (cs : List Call)
    → Worn d.plan cs (run cs (calls.format d image)).device.stores
