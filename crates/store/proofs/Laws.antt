-- What the calls' proofs share: a refused call and an accepted one, against their definitions.
use Prim.Native.Nat.{ℕ, zero, suc, ◌≤◌, ◌<◌}
use mathlib.Core.Path.{◌≡◌, refl, ap, sym, ◌∙◌}
use mathlib.Core.List.{List, [], ◌++◌}
use mathlib.Core.Bool.{not}
use native.Mathlib.Omega.{arith}
use lib.Dec.{leb}
use lib.ListN.{length}
use borrow.Author.Tests.{leb-false}
use Rattle.store.specs.declared.Device.{Device}
use Rattle.store.specs.declared.Answer.{Answer}
use Rattle.store.specs.Modelled.{modelled, blanked, Gives, Starts}
use Rattle.model.specs.declared.Plan.{Plan}
use Rattle.model.specs.declared.Role.{Role}
use Rattle.model.specs.declared.Inspection.TheVariants.{Refused}
use Rattle.model.specs.declared.Phase.{Phase}
use Rattle.model.specs.declared.Phase.TheVariants.{Cold}
use Rattle.model.specs.Refusals.{View, is_ready, first, device_row, inspect_number, read_number, begin_number, group_number}
use Rattle.model.specs.Calls.{job_of, view_of, view, Outcome, outcome, unless_refused, no_plan, start_answer, part_unless_refused, inspection, inspect}
use Rattle.model.proofs.GroupLaws.{group_says, wide_of, last_lt}
use Rattle.model.proofs.RefusalLaws.{PlanOk, first_past, past, begin_says, width_bounds}
use Rattle.lookup.proofs.Laws.{room}
use Rattle.model.specs.Layout.{total}
use Rattle.refusal.proofs.Laws.{live}
use Rattle.search.specs.declared.Bad.{Bad}
use Rattle.model.specs.declared.refusals.Refusal.{Refusal}
use Rattle.model.specs.Numbers.{number_of}
use Rattle.model.proofs.Numbered.{number_some}
use Rattle.std.specs.Prelude as prelude
use Rattle.search.specs.Found.{lowest_from, found}
use Rattle.search.proofs.Search.{named, found_named}

-- a row that goes by the view, the plan and the image
pub judged : {v w : View} {p q : Plan} {xs ys : List ℕ} (row : View → Plan → List ℕ → ℕ) → v ≡ w → p ≡ q → xs ≡ ys → row v p xs ≡ row w q ys
judged row e f h = λ i. row (e i) (f i) (h i)

-- ---- k is the number that a call answers, n the definition's
pub refused_by : (d : Device) (image : List ℕ) (k n : ℕ) (o : Outcome) → k ≡ n → ¬ (k ≡ 0)
    → Gives (record { number = k; device = d }) image (unless_refused n (modelled d) image o)
refused_by d image k zero o e h = absurd (h e)
refused_by d image k (suc n) o e h = record { number = e; device = refl; image = refl }

-- ---- a refused call gives the device as it came; e is the code's refusal, n the definition's number
module _ (d : Device) (image : List ℕ) where
  pub refused : (e : Refusal) (n : ℕ) (o : Outcome) (r : Answer) → r ≡ record { number = number_of e; device = d } → number_of e ≡ n
      → Gives r image (unless_refused n (modelled d) image o)
  refused e n o r is h = rw is (refused_by d image (number_of e) n o h (number_some e))

  -- an accepted one's outcome is the definition's
  pub accepted : (n : ℕ) (o : Outcome) (r : Answer) (left : List ℕ) → 0 ≡ n → Gives r left o → Gives r left (unless_refused n (modelled d) image o)
  accepted zero o r left e g = g
  accepted (suc n) o r left e g = absurd (omega arith)

-- the device at a phase with a payload, which are the definition's
pub at_phase : (d : Device) (phase phase' : Phase) (xs held left after : List ℕ) (r : Answer)
    → r ≡ record { number = 0; device = record { plan = d.plan; payload = xs; phase = phase; stores = d.stores } }
    → phase ≡ phase' → xs ≡ held → left ≡ after
    → Gives r left (outcome 0 (record { plan = d.plan; payload = held; phase = phase'; stores = d.stores }) after)
at_phase d phase phase' xs held left after r is f h l = rw (is, f, h, l) (record { number = refl; device = refl; image = refl })

-- ---- a step's outcome is the answer's
pub gives : (d : Device) (k : ℕ) (left : List ℕ) (o : Outcome) → outcome k (modelled d) left ≡ o
    → Gives (record { number = k; device = d }) left o
gives d k left o e =
    record {
      number = ap (λ (x : Outcome). x.number) e;
      device = ap (λ (x : Outcome). x.device) e;
      image = ap (λ (x : Outcome). x.image) e;
    }

-- ---- what a device and its image have
module _ (p : Plan) (held : List ℕ) (phase : Phase) (image : List ℕ) where
  -- the unit of an accepted read lies in the image
  pub read_lies : (role : Role) (u : ℕ) → 0 ≡ read_number (view_of p held phase image) role u → PlanOk p × (total p ≤ length image) × (u < p.count)
  unfolding read_number
  read_lies role u e =
      let n : first (device_row (view_of p held phase image) ++ _) ≡ 0 = sym e in
      let h₅ = first_past 4 (not (is_ready (job_of phase))) _ (past (view_of p held phase image) _ n).more in
      let r = room p held phase image (live p held phase image 0 _ e refl) in
      (r.ok, r.long, leb-false p.count u (first_past 5 (leb p.count u) _ h₅.1).0)

  pub begin_narrow : (role : Role) (u : ℕ) (payload : List ℕ) → 0 ≡ begin_number (view_of p held phase image) role u (length payload)
      → length payload ≤ 256
  unfolding begin_number
  begin_narrow role u payload e =
      let began = begin_says (view_of p held phase image) role u (length payload) (sym e) in
      let r = room p held phase image (live p held phase image 0 _ e refl) in
      omega (arith, began.size, (width_bounds p r.ok u began.unit).1)

  -- the record of an accepted group holds the count and the group
  pub group_narrow : (bytes : List ℕ) → 0 ≡ group_number (view_of p held phase image) bytes → length bytes < 256
  unfolding group_number
  group_narrow bytes e =
      let says = group_says (view_of p held phase image) bytes (sym e) in
      let r = room p held phase image (live p held phase image 0 _ e refl) in
      omega (arith, (wide_of p bytes says.wide).1, (width_bounds p r.ok _ (last_lt p r.ok)).1)

-- ---- start: the code's device is that of the plan none, which is all zeros, or of the plan given
pub start_refused : (p : Plan) (d : Device) (e : Refusal) (n : ℕ) (r : Answer) → r ≡ record { number = number_of e; device = d } → number_of e ≡ n
    → modelled d ≡ blanked no_plan Cold 0 → Starts r (start_answer n p)
start_refused p d e zero r w h is = absurd (number_some e h)
start_refused p d e (suc n) r w h is = rw w (record { number = h; device = is })

pub start_accepted : (p : Plan) (d : Device) (n : ℕ) → 0 ≡ n → modelled d ≡ blanked p Cold 0
    → Starts (record { number = 0; device = d }) (start_answer n p)
start_accepted p d zero e is = record { number = refl; device = is }
start_accepted p d (suc n) e is = absurd (omega arith)

-- ---- read
pub part_refused : (e : Refusal) (n : ℕ) (part : List ℕ) → number_of e ≡ n → [] ≡ part_unless_refused n part
part_refused e zero part h = absurd (number_some e h)
part_refused e (suc n) part h = refl

pub part_shown : (n : ℕ) (part : List ℕ) → 0 ≡ n → part ≡ part_unless_refused n part
part_shown zero part e = refl
part_shown (suc n) part e = absurd (omega arith)

-- ---- inspect: r is what the search came to
pub inspect_refused : (d : Device) (image : List ℕ) (e : Refusal) (k : ℕ) → k ≡ number_of e → number_of e ≡ inspect_number (view (modelled d) image)
    → Refused k ≡ inspect (modelled d) image
unfolding inspect
inspect_refused d image e k is h = ap Refused is ∙ go (number_of e) (number_some e) h
  where
    go : (n : ℕ) → ¬ (n ≡ 0) → n ≡ inspect_number (view (modelled d) image) → Refused n ≡ inspect (modelled d) image
    go zero z h = absurd (z refl)
    go (suc n) z h = rw (sym h)

pub inspect_says : (d : Device) (image : List ℕ) → 0 ≡ inspect_number (view (modelled d) image)
    → (r : prelude.Option Bad) → r ≡ found d.plan image (lowest_from d.plan image 0) → inspection 0 (named r) ≡ inspect (modelled d) image
unfolding inspect
inspect_says d image e r is = rw (sym e) (ap (inspection 0) (ap named is ∙ found_named d.plan image))
