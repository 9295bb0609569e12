-- THE TURNS AND THE CENTS ADD UP, proved: the turns as of every list of rides, and the cents by the same walk, for unit 1 and the price.
use Prim.Native.Nat.{ℕ, zero, suc, ◌+◌, ◌<◌}
use mathlib.Core.Path.{◌≡◌, refl, ap, ◌∙◌}
use mathlib.Core.List.{List, [], ◌∷◌, ◌++◌, map}
use mathlib.Core.Bool.{Bool, true, false, cond}
use native.Mathlib.Omega.{arith}
use lib.Dec.{eqb}
use lib.ListN.{replicate}
use borrow.Author.Tests.{le-ltb}
use Rattle.model.specs.declared.Plan.{Plan}
use Rattle.model.specs.Marker.{OK}
use Rattle.model.specs.Layout.{Copy, copy_a, width, copy_of}
use Rattle.model.specs.Turns.{amount}
use Rattle.model.specs.Prices.{price}
use Rattle.model.specs.Calls.{Device, Outcome}
use Rattle.model.specs.Calls as calls
use Rattle.model.specs.Ledger.{Call, begin, ride, group, paid, step, cut, wake, Ledger, opening, marker_of, judged, told, accepted, fed, after}
use Rattle.model.specs.PowerCut.{call, run, closed_by, repair}
use Rattle.model.specs.Totals.{OnlyRides, passed, passes_by, due_after, when_accepted, sum}
use Rattle.model.specs.Paid.{OnlyPaid, rides_over, PaidAddUp, Sells, Sales}
use Rattle.model.proofs.RefusalLaws.{PlanOk, count_bounds}
use Rattle.model.proofs.TurnLaws.{plus_amount, zeros_amount}
use Rattle.model.proofs.PaidLaws.{prices, too_many, paid_says, paid_ready}
use Rattle.model.proofs.Tasks.{part}
use Rattle.model.proofs.Invariant.{Inv}
use Rattle.model.proofs.Promise.{ready_same}
use Rattle.model.proofs.Keeps.{keeps}
use Rattle.model.proofs.Theorem.{along, format_opens, power_cut}
use Rattle.model.proofs.Totals.{total_worth, writes, Accepts, Adds, begin_called, group_called, adds_none, adds_call, adds_step, adds_cut, adds_wake, all_saved, paid_saved, turns_saved, shown}

module _ (p : Plan) where
  paid_called : (turns : ℕ) → Accepts p 1 price (paid turns)
  unfolding accepted told total_worth
  paid_called turns l due pr e st =
      let fare = paid_says (judged p l) (l.written 0) (l.written 1) turns e in
      record {
        gains = omega arith;
        state = writes (part 0) 0 tt refl (omega arith)
            (omega (
              arith,
              ap amount (paid_saved p l fare l.saved).1,
              plus_amount (l.written 1) (price turns) fare.room₁,
              ap (λ (f : ℕ → List ℕ). amount (f 1)) (ready_same p l pr fare.group.job),
            ));
      }

  module _ (ok : PlanOk p) (before : List ℕ) where
    adds : (cs : List Call) → OnlyPaid p cs → Adds p 1 price ok before cs
    adds [] h = adds_none p 1 price ok before
    adds (begin role u payload ∷ cs) h =
        adds_call p 1 price ok before (begin role u payload) cs (begin_called p 1 price role u payload h.1.0) (adds cs h.1.1)
    adds (ride turns ∷ cs) h = absurd h
    adds (group g ∷ cs) h = adds_call p 1 price ok before (group g) cs (group_called p 1 price g h.1.0) (adds cs h.1.1)
    adds (paid turns ∷ cs) h = adds_call p 1 price ok before (paid turns) cs (paid_called turns) (adds cs h)
    adds (step ∷ cs) h = adds_step p 1 price ok before cs (adds cs h)
    adds (cut bytes ∷ cs) h = adds_cut p 1 price ok before bytes cs (adds cs h)
    adds (wake ∷ cs) h = adds_wake p 1 price ok before cs (adds cs h)

    pub cents_saved : (f : Outcome) → Inv p before (opening p) f → (cs : List Call) → OnlyPaid p cs
        → amount ((after p (opening p) cs).saved 1) ≡ sum (map price (rides_over p cs))
    cents_saved f inv cs h = all_saved p 1 price ok before f inv cs (adds cs h)

  -- such a list writes unit 0 by rides only
  only_rides : (cs : List Call) → OnlyPaid p cs → OnlyRides p 0 cs
  only_rides [] h = tt
  only_rides (begin role u payload ∷ cs) h = (h.0, only_rides cs h.1.1)
  only_rides (ride turns ∷ cs) h = absurd h
  only_rides (group g ∷ cs) h = (h.0, only_rides cs h.1.1)
  only_rides (paid turns ∷ cs) h = only_rides cs h
  only_rides (step ∷ cs) h = only_rides cs h
  only_rides (cut bytes ∷ cs) h = only_rides cs h
  only_rides (wake ∷ cs) h = only_rides cs h

  closed : (bytes : List ℕ) (cs : List Call) → OnlyPaid p cs → OnlyPaid p (closed_by bytes cs)
  closed bytes [] h = tt
  closed bytes (begin role u payload ∷ cs) h = (h.0, (h.1.0, closed bytes cs h.1.1))
  closed bytes (ride turns ∷ cs) h = absurd h
  closed bytes (group g ∷ cs) h = (h.0, (h.1.0, closed bytes cs h.1.1))
  closed bytes (paid turns ∷ cs) h = closed bytes cs h
  closed bytes (step ∷ cs) h = closed bytes cs h
  closed bytes (cut other ∷ cs) h = closed bytes cs h
  closed bytes (wake ∷ cs) h = closed bytes cs h

pub paid_add_up : PaidAddUp
paid_add_up d image e cs bytes closes h =
    let p : Plan = d.plan in
    let f : Outcome = calls.format d image in
    let all : List Call = closed_by bytes cs in
    let opens = format_opens d image e in
    let ok : PlanOk p = opens.0 in
    let zero_there : 0 < p.count = (count_bounds p ok).0 in
    let s = (power_cut d image e cs bytes closes).repaired in
    let i = (along p ok image (repair s.steps) _ _ (along p ok image all (opening p) f opens.1).inv).inv in
    let only : OnlyPaid p all = closed p bytes cs h in
    let left : Outcome = run (repair s.steps) (run all f) in
    let turns : (c : Copy) → amount (copy_of p left.image 0 c) ≡ sum (rides_over p all) =
    λ c. ap amount (s.copies 0 zero_there c) ∙ turns_saved p ok image f opens.1 all (only_rides p all only) in
    let cents : 1 < p.count → (c : Copy) → amount (copy_of p left.image 1 c) ≡ sum (map price (rides_over p all)) =
    λ two c. ap amount (s.copies 1 two c) ∙ cents_saved p ok image f opens.1 all only in
    record {
      steps = s.steps;
      needed = s.needed;
      accepted = s.accepted;
      turns = turns;
      cents = cents;
      shows_turns = λ w role right. shown p ok left i.plan s.ready i.frame.long s.markers 0 zero_there w role right _ (turns copy_a);
      shows_cents = λ two w role right. shown p ok left i.plan s.ready i.frame.long s.markers 1 two w role right _ (cents two copy_a);
    }

-- ---- plans that sell no ride
module _ (p : Plan) (none-sold : ¬ Sells p) where
  -- a call that leaves nothing due, where nothing is due, counts nothing
  quiet : (c : Call) (l : Ledger) (cs : List Call) → due_after c [] ≡ [] → passed p (fed p l c) [] cs ≡ [] → passed p l [] (c ∷ cs) ≡ []
  unfolding passed
  quiet c l cs e h = go (told p l c) (passes_by p l c)
    where
      go : (n : ℕ) (b : Bool) → when_accepted n (cond b [] []) [] ++ passed p (fed p l c) (when_accepted n (due_after c []) []) cs ≡ []
      go zero true = rw e h
      go zero false = rw e h
      go (suc n) b = h

  refused : (turns : ℕ) (l : Ledger) (cs : List Call) → passed p (fed p l (paid turns)) [] cs ≡ [] → passed p l [] (paid turns ∷ cs) ≡ []
  unfolding passed told
  refused turns l cs h = go (told p l (paid turns)) refl
    where
      go : (n : ℕ) → told p l (paid turns) ≡ n
          → when_accepted n [] [] ++ passed p (fed p l (paid turns)) (when_accepted n (turns ∷ []) []) cs ≡ []
      go zero e = absurd (none-sold (paid_says (judged p l) (l.written 0) (l.written 1) turns e).sells)
      go (suc n) e = h

  -- nothing is due at first
  none_passed : (l : Ledger) (cs : List Call) → OnlyPaid p cs → passed p l [] cs ≡ []
  unfolding passed
  none_passed l [] h = refl
  none_passed l (begin role u payload ∷ cs) h = quiet (begin role u payload) l cs refl (none_passed (fed p l (begin role u payload)) cs h.1.1)
  none_passed l (ride turns ∷ cs) h = absurd h
  none_passed l (group g ∷ cs) h = quiet (group g) l cs refl (none_passed (fed p l (group g)) cs h.1.1)
  none_passed l (paid turns ∷ cs) h = refused turns l cs (none_passed (fed p l (paid turns)) cs h)
  none_passed l (step ∷ cs) h = quiet step l cs refl (none_passed (fed p l step) cs h)
  none_passed l (cut bytes ∷ cs) h = quiet (cut bytes) l cs refl (none_passed (fed p l (cut bytes)) cs h)
  none_passed l (wake ∷ cs) h = quiet wake l cs refl (none_passed (fed p l wake) cs h)

sold : (d : Device) (image : List ℕ)
    → (calls.format d image).number ≡ 0 → Sells d.plan
    → (turns : ℕ) → turns < 18446744073709551616 → (calls.paid_ride (calls.format d image).device (calls.format d image).image turns).number ≡ 0
unfolding opening marker_of told calls.paid_ride call
sold d image e s turns h =
    let p : Plan = d.plan in
    let opens = format_opens d image e in
    (keeps p opens.0 image (opening p) (calls.format d image) opens.1 (paid turns)).answer
    ∙ paid_ready (judged p (opening p)) opens.0 refl refl marks s (replicate (width p 0) 0) (replicate (width p 1) 0) turns
    (fits (width p 0) turns h)
    (fits (width p 1) (price turns) (omega (arith, prices.most turns)))
  where
    fits : (w n : ℕ) → n < 18446744073709551616 → too_many (replicate w 0) n ≡ false
    fits w n l = le-ltb 18446744073709551615 (amount (replicate w 0) + n) (omega (arith, zeros_amount w))

    marks : (u : ℕ) → marker_of (opening d.plan) u ≡ OK
    marks u = go (eqb u 0)
      where
        go : (b : Bool) → cond b OK OK ≡ OK
        go true = refl
        go false = refl

pub sales : Sales
sales = record { sold = sold; none = λ p h cs only. none_passed p h (opening p) cs only }
