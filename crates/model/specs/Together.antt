-- ALL OR NONE, Ticket 10 in the customer's words: "A rider's total without the ride, or the ride without the total, is the complaint the
-- new bike must end." It is proved in proofs/Together.antt.
--
-- A group is accepted after any calls. Then anything may be called, so that the power may fail at any store of the group and at any
-- store of any repair; at last a cut that is accepted. Repaired, either every unit is as it was before the group, or every member has
-- its new payload and every other unit is as it was; but for units that a later write replaced, one that passed.
--
-- It goes by the bytes that the call was handed and by what stands in the image: a member that is lost in the splitting, which ledger
-- and device share, would be noticed here. The ledger tells only which later writes passed.
use Rattle.std.specs.Prelude.{ℕ, suc, ◌<◌, ◌≡◌, List, [], ◌∷◌, ◌++◌, Bool, true, false, cond, ◌&&◌, eqb}
use Rattle.model.specs.declared.Plan.{Plan}
use Rattle.model.specs.declared.Phase.TheVariants.{Ready}
use Rattle.model.specs.Marker.{End, completed, torn_by}
use Rattle.model.specs.Layout.{Copy, copy_of}
use Rattle.model.specs.Groups.{Write, write, write_at}
use Rattle.model.specs.Records.{IsGroup, Has, Nth}
use Rattle.model.specs.Refusals.{Job, cold, ready, writing, recovering, grouping}
use Rattle.model.specs.Calls.{Device, Outcome}
use Rattle.model.specs.Calls as calls
use Rattle.model.specs.Ledger.{Ledger, Call, begin, ride, group, paid, step, cut, wake, opening, told, count_with, passes_at, fed, after}
use Rattle.model.specs.PowerCut.{call, run, closed_by, Closes, repair, Takes}

-- ---- "unless a later write that passed replaced it"
-- the writes that count as passed with the next store, which ends so
abbrev pub passing : Plan → Ledger → End → Job → List Write
passing p l e cold = []
passing p l e ready = []
passing p l e (writing u made) = cond (passes_at p l (write u l.payload) (suc made) e) (write u l.payload ∷ []) []
passing p l e (recovering u made) = []
passing p l e (grouping i made) = cond (passes_at p l (write_at p l.payload i) (suc made) e) (count_with p l.payload i) []

abbrev pub passed_by : Plan → Ledger → Call → List Write
passed_by p l (begin role u payload) = []
passed_by p l (ride turns) = []
passed_by p l (group g) = []
passed_by p l (paid turns) = []
passed_by p l step = passing p l completed l.job
passed_by p l (cut bytes) = passing p l (torn_by bytes) l.job
passed_by p l wake = []

-- those of a list of calls; a refused call has none
unfoldable pub passed : Plan → Ledger → List Call → List Write
passed p l [] = []
passed p l (c ∷ cs) = cond (eqb (told p l c) 0) (passed_by p l c) [] ++ passed p (fed p l c) cs

-- a call that asks for a write
abbrev pub asks : Call → Bool
asks (begin role u payload) = true
asks (ride turns) = true
asks (group g) = true
asks (paid turns) = true
asks step = false
asks (cut bytes) = false
asks wake = false

-- those that pass from the next accepted one of these calls on: none of them is of a write that was asked for before
unfoldable pub later : Plan → Ledger → List Call → List Write
later p l [] = []
later p l (c ∷ cs) = cond (asks c && eqb (told p l c) 0) (passed p l (c ∷ cs)) (later p (fed p l c) cs)

-- ---- what the units held before, and hold now
pub data Together (p : Plan) (ms replaced : List Write) (old new : ℕ → List ℕ) : Type 0 where
  none : ((u : ℕ) → u < p.count → ¬ Has u replaced → new u ≡ old u) → Together p ms replaced old new
  all : ((i : ℕ) (x : Write) → Nth ms i x → ¬ Has x.unit replaced → new x.unit ≡ x.bytes)
      → ((u : ℕ) → u < p.count → ¬ Has u ms → ¬ Has u replaced → new u ≡ old u)
      → Together p ms replaced old new

-- of a group that was accepted where `called` was; `cutOff` is what the closing cut left
pub record Whole (p : Plan) (g : List ℕ) (replaced : List Write) (called cutOff : Outcome) : Type 0 where
  pub ms : List Write
  pub is_group : IsGroup p g ms
  pub steps : ℕ
  pub needed : Takes p cutOff steps
  pub ready : (run (repair steps) cutOff).device.phase ≡ Ready
  pub together : (c : Copy)
      → Together p ms replaced (λ u. copy_of p called.image u c) (λ u. copy_of p (run (repair steps) cutOff).image u c)

abbrev pub AllOrNone : Type 0
AllOrNone =
    (d : Device) (image : List ℕ)
    → (calls.format d image).number ≡ 0
    → (cs : List Call) (g : List ℕ)
    → (call (group g) (run cs (calls.format d image))).number ≡ 0
    → (more : List Call) (bytes : List ℕ)
    → Closes bytes (cs ++ (group g ∷ more)) (calls.format d image)
    → Whole d.plan g
    (later d.plan (after d.plan (opening d.plan) (cs ++ (group g ∷ []))) (closed_by bytes more))
    (run cs (calls.format d image))
    (run (closed_by bytes (cs ++ (group g ∷ more))) (calls.format d image))

-- ---- And where nothing else is asked for, with no word of the ledger: steps, cuts and wakes, as many and in whatever order.
abbrev pub NoWrite : List Call → Type 0
NoWrite [] = Unit
NoWrite (begin role u payload ∷ cs) = ⊥
NoWrite (ride turns ∷ cs) = ⊥
NoWrite (group g ∷ cs) = ⊥
NoWrite (paid turns ∷ cs) = ⊥
NoWrite (step ∷ cs) = NoWrite cs
NoWrite (cut bytes ∷ cs) = NoWrite cs
NoWrite (wake ∷ cs) = NoWrite cs

abbrev pub AllOrNoneAlone : Type 0
AllOrNoneAlone =
    (d : Device) (image : List ℕ)
    → (calls.format d image).number ≡ 0
    → (cs : List Call) (g : List ℕ)
    → (call (group g) (run cs (calls.format d image))).number ≡ 0
    → (more : List Call) → NoWrite more
    → (bytes : List ℕ)
    → Closes bytes (cs ++ (group g ∷ more)) (calls.format d image)
    → Whole d.plan g [] (run cs (calls.format d image)) (run (closed_by bytes (cs ++ (group g ∷ more))) (calls.format d image))
