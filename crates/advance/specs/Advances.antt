-- A step on the parts of a device, against the step of the whole.
use Rattle.std.specs.Prelude.{ℕ, ◌+◌, ◌≤◌, ◌≡◌, List, length, set, Bool, Result, Ok, Err, MatchResult}
use Rattle.advance.specs.declared.Progress.{Progress}
use Rattle.choice.specs.declared.Choice.{Choice}
use Rattle.choice.specs.Picked.{Picked}
use Rattle.lookup.specs.declared.Span.{Span}
use Rattle.lookup.specs.Spans.{Spans}
use Rattle.std.proofs.Math.ListN.{get_elem?}
use Rattle.model.specs.declared.Plan.{Plan}
use Rattle.model.specs.declared.Phase.{Phase}
use Rattle.model.specs.declared.Phase.TheVariants.{Cold, Ready, Writing, Recovering, Grouping}
use Rattle.model.specs.declared.refusals.Refusal.{Refusal}
use Rattle.model.specs.Numbers.{number_of, numbered}
use Rattle.model.specs.Refusals.{write_total}
use Rattle.model.specs.Stores.{write_stores}
use Rattle.model.specs.Calls.{Device, outcome, counted, step}

abbrev pub parts : Plan → List ℕ → Phase → ℕ → Device
parts p payload phase stores = record { plan = p; payload = payload; phase = phase; stores = stores }

abbrev pub at : Plan → List ℕ → Progress → Device
at p payload x = parts p payload x.phase x.stores

-- the phase after a step, and the count: a refused step leaves both
abbrev pub phase_of : Result Phase Refusal → Phase → Phase
phase_of (Ok next) from = next
phase_of (Err e) from = from

abbrev pub stores_of : Result Phase Refusal → ℕ → ℕ
stores_of (Ok next) earlier = counted earlier
stores_of (Err e) earlier = earlier

-- a step from a payload to one that is held, whatever the count
abbrev pub StepsTo : Plan → List ℕ → List ℕ → Phase → List ℕ → List ℕ → Result Phase Refusal → Type 0
StepsTo p payload held phase before after r =
    (earlier : ℕ) → outcome (numbered r) (parts p held (phase_of r phase) (stores_of r earlier)) after ≡ step (parts p payload phase earlier) before

-- a write in a unit that was looked up does not look at the plan
abbrev pub WriteStepsTo : Span → List ℕ → ℕ → ℕ → List ℕ → List ℕ → Result Phase Refusal → Type 0
WriteStepsTo span payload u made before after r =
    (p : Plan) → Spans p u (length before) span → StepsTo p payload payload (Writing u made) before after r

-- the next store of a write of these bytes, made
pub record Stored (span : Span) (bytes : List ℕ) (n : ℕ) (before after : List ℕ) (last : Bool) : Type 0 where
  pub choice : Choice
  pub picked : Picked span write_total n (λ p u. get_elem? (write_stores p u bytes) n) choice
  pub is : last ≡ choice.last
  pub made : after ≡ set before (span.base + choice.at) choice.byte

-- there is none
pub record Full (span : Span) (n : ℕ) (before after : List ℕ) (e : Refusal) : Type 0 where
  pub four : number_of e ≡ 4
  pub all : write_total span.width ≤ n
  pub same : after ≡ before

abbrev pub Made : Span → List ℕ → ℕ → List ℕ → List ℕ → Result Bool Refusal → Type 0
Made span bytes n before after r = MatchResult r (Stored span bytes n before after) (Full span n before after)

abbrev pub reached : Result Progress Refusal → Progress → Progress
reached (Ok next) from = next
reached (Err e) from = from

abbrev pub Advances : Plan → List ℕ → List ℕ → Progress → List ℕ → List ℕ → Result Progress Refusal → Type 0
Advances p payload held from before after r = outcome (numbered r) (at p held (reached r from)) after ≡ step (at p payload from) before

-- the unit that is looked up for a phase: Cold and Ready have none, a group's is found in the payload, and any that the plan has will do
abbrev pub unit_of : Phase → ℕ
unit_of Cold = 0
unit_of Ready = 0
unit_of (Writing u made) = u
unit_of (Recovering u made d) = u
unit_of (Grouping i made) = 0
