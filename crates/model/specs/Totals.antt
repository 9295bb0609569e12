-- THE TURNS ADD UP, Ticket 7, 'Wheel turns that add up'. It is proved in proofs/Totals.antt.
--
-- Which rides passed is told by the ledger, as for the power-cut theorem: a ride's turns are due from its call on, and count at the
-- store at which its write passes. The sum has no bound: nothing wraps.
use Rattle.std.specs.Prelude.{ℕ, zero, suc, ◌+◌, ◌≡◌, List, [], ◌∷◌, ◌++◌, Bool, false, cond, replicate}
use Rattle.model.specs.declared.Plan.{Plan}
use Rattle.model.specs.declared.Role.{Role}
use Rattle.model.specs.Marker.{End, completed, torn_by}
use Rattle.model.specs.Layout.{Copy, width, copy_of}
use Rattle.model.specs.Turns.{amount}
use Rattle.model.specs.Groups.{write, among, members, write_at}
use Rattle.model.specs.Refusals.{Job, cold, ready, writing, recovering, grouping}
use Rattle.model.specs.Calls.{Device, Outcome}
use Rattle.model.specs.Calls as calls
use Rattle.model.specs.Ledger.{Ledger, Call, begin, ride, group, paid, step, cut, wake, opening, told, passes_at, fed}
use Rattle.model.specs.Demands.{MaySee}
use Rattle.model.specs.PowerCut.{run, answers, closed_by, Closes, repair, Takes}

-- ---- "rides whose write passed"
-- the write under way, of a group that of its record, passes at its next store, which ends so
abbrev pub passes_next : Plan → Ledger → End → Job → Bool
passes_next p l e cold = false
passes_next p l e ready = false
passes_next p l e (writing u made) = passes_at p l (write u l.payload) (suc made) e
passes_next p l e (recovering u made) = false
passes_next p l e (grouping zero made) = passes_at p l (write_at p l.payload 0) (suc made) e
passes_next p l e (grouping (suc i) made) = false

abbrev pub passes_by : Plan → Ledger → Call → Bool
passes_by p l (begin role u payload) = false
passes_by p l (ride turns) = false
passes_by p l (group g) = false
passes_by p l (paid turns) = false
passes_by p l step = passes_next p l completed l.job
passes_by p l (cut bytes) = passes_next p l (torn_by bytes) l.job
passes_by p l wake = false

-- the turns that are due once an accepted call is made: those of a ride, paid or not; a begin's write has none, nor a group's
abbrev pub due_after : Call → List ℕ → List ℕ
due_after (begin role u payload) due = []
due_after (ride turns) due = turns ∷ []
due_after (group g) due = []
due_after (paid turns) due = turns ∷ []
due_after step due = due
due_after (cut bytes) due = due
due_after wake due = due

-- the turns that an accepted call counts: those due, if the write under way passes at it
abbrev pub counts : Plan → Ledger → List ℕ → Call → List ℕ
counts p l due c = cond (passes_by p l c) due []

abbrev pub when_accepted : ℕ → List ℕ → List ℕ → List ℕ
when_accepted zero then before = then
when_accepted (suc refusal) then before = before

-- the turns of the rides whose write passed, in their order; `due` are those of the write under way
unfoldable pub passed : Plan → Ledger → List ℕ → List Call → List ℕ
passed p l due [] = []
passed p l due (c ∷ cs) =
    when_accepted (told p l c) (counts p l due c) []
    ++ passed p (fed p l c) (when_accepted (told p l c) (due_after c due) due) cs

unfoldable pub sum : List ℕ → ℕ
sum [] = 0
sum (n ∷ ns) = n + sum ns

-- the turns over a list from a formatted device
abbrev pub turns_over : Plan → List Call → ℕ
turns_over p cs = sum (passed p (opening p) [] cs)

-- "other units may be written in that list, unit 0 only through rides": no begin of unit u, and no group that has it
abbrev pub OnlyRides : Plan → ℕ → List Call → Type 0
OnlyRides p u [] = Unit
OnlyRides p u (begin role v payload ∷ cs) = ¬ (v ≡ u) × OnlyRides p u cs
OnlyRides p u (ride turns ∷ cs) = OnlyRides p u cs
OnlyRides p u (group g ∷ cs) = (among u (members p g) ≡ false) × OnlyRides p u cs
OnlyRides p u (paid turns ∷ cs) = OnlyRides p u cs
OnlyRides p u (step ∷ cs) = OnlyRides p u cs
OnlyRides p u (cut bytes ∷ cs) = OnlyRides p u cs
OnlyRides p u (wake ∷ cs) = OnlyRides p u cs

-- ---- "after wake and uncut steps": `cutOff` is what the closing cut left, and the steps are those of its repair.
pub record Totalled (p : Plan) (cutOff : Outcome) (turns : ℕ) : Type 0 where
  pub steps : ℕ
  pub needed : Takes p cutOff steps
  pub accepted : answers (repair steps) cutOff ≡ replicate (1 + steps) 0
  -- "taken from copy A"; copy B has the same
  pub holds : (c : Copy) → amount (copy_of p (run (repair steps) cutOff).image 0 c) ≡ turns
  -- and the console shows it, to a role that may see it
  pub shows : width p 0 ≡ 8
      → (role : Role) → MaySee p.rights role 0
      → calls.total_of (run (repair steps) cutOff).device (run (repair steps) cutOff).image role 0 ≡ record { number = 0; amount = turns }

-- Ticket 12: a paid ride is a ride, whose record passes.
-- "For every list of ride, step, cut and wake from a formatted device ending in a cut .. the total equals the sum over rides whose
-- write passed". Where unit 0 is not eight bytes wide every ride is refused: the sum is 0, and the unit's bytes are zeros.
abbrev pub TurnsAddUp : Type 0
TurnsAddUp =
    (d : Device) (image : List ℕ)
    → (calls.format d image).number ≡ 0
    → (cs : List Call) (bytes : List ℕ)
    → Closes bytes cs (calls.format d image)
    → OnlyRides d.plan 0 cs
    → Totalled d.plan (run (closed_by bytes cs) (calls.format d image)) (turns_over d.plan (closed_by bytes cs))
