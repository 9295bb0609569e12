-- THE WEAR CEILING, proved: what a call stores, and what it leaves to be stored, is at most what was left and what it allows.
use Prim.Native.Nat.{ℕ, zero, suc, ◌+◌, ◌-◌, ◌*◌, ◌≤◌, ◌<◌, min}
use mathlib.Core.Path.{◌≡◌, refl, ap, sym, ◌∙◌, subst}
use mathlib.Core.List.{List, [], ◌∷◌, ◌++◌}
use mathlib.Core.Bool.{Bool, true, false, cond}
use native.Mathlib.Omega.{arith}
use lib.Dec.{leb}
use lib.ListN.{length, drop, replicate}
use borrow.Author.Tests.{eq-eqb, ne_eqb, leb-false, lt-ltb, le-ltb}
use Rattle.model.specs.declared.Plan.{Plan}
use Rattle.model.specs.Plans.{width}
use Rattle.model.specs.Marker.{OK, direction, completed, torn_by, torn_bits, torn}
use Rattle.model.specs.Groups.{Write, write, last, members, unsplit, payload_of, stands, remaining, writes, write_at, is_last_write}
use Rattle.model.specs.Rights.{right, may_write}
use Rattle.model.specs.Refusals.{Job, cold, ready, writing, recovering, grouping, bad_write, bad_count, bad_widths, bad_page, bad_job, first, any_foreign, start_number, format_number, begin_number, ride_number, group_number, paid_number, step_number, wake_number, cut_number}
use Rattle.model.specs.Turns.{plus}
use Rattle.model.specs.Layout.{whole_pages, base, get, put, put_page, fresh, formatted}
use Rattle.model.specs.Stores.{copying, write_stores, cleanup_stores, stored}
use Rattle.model.specs.Prices.{paid_group}
use Rattle.model.specs.Calls.{Device, Outcome, outcome, as_formatted, as_begun, as_grouped, paid_in, step_from, wake_from, as_cut, padded, held_in, cleanup_from, image_after, counted, most_stores, view}
use Rattle.model.specs.Calls as calls
use Rattle.model.specs.Ledger.{Ledger, Call, begin, ride, group, paid, step, cut, wake, opening, marker_of, judged, told, write_marker, cleanup_marker, saving, saving_all, standing, resumed, reloaded, stepped, was_cut, accepted, fed}
use Rattle.model.specs.Ledger as ledger
use Rattle.model.specs.PowerCut.{call, run, stores_of, added}
use Rattle.model.specs.Wear.{if_accepted, over_accepted, completes, torn_at, tears, widest, allows, WearCeiling}
use Rattle.model.specs.Edges.{EveryWear}
use Rattle.model.proofs.Compare.{below, above, order, equal, differ, same}
use Rattle.model.proofs.RefusalLaws.{PlanOk, false_or, past, cut_says, step_cold, step_ready, wake_says}
use Rattle.model.proofs.PaidLaws.{paid_says, paid_members}
use Rattle.model.proofs.GroupLaws.{group_says, remaining_of, part_says}
use Rattle.model.proofs.Promise.{stores_from}
use Rattle.model.proofs.Invariant.{Inv}
use Rattle.model.proofs.Keeps.{keeps}
use Rattle.model.proofs.Theorem.{accepts, format_opens}

widest_le : (p : Plan) (n u : ℕ) → u < n → width p u ≤ widest p n
unfolding widest
widest_le p zero u h = absurd (omega arith)
widest_le p (suc n) u h =
    elim (order u n) [
      | below l ↦ omega (arith, widest_le p n u l)
      | above l ↦
          let e : u ≡ n = omega arith in
          rw e (omega arith)
    ]

-- the stores that are left to be made without a further cut: a wake may find one unit to clean, and a record that stands after that.
-- `kept` are the bytes that the record unit has after a cleanup.
abbrev left_at : Plan → List ℕ → List ℕ → Job → ℕ
left_at p payload kept cold = 1 + widest p p.count + added p kept
left_at p payload kept ready = 0
left_at p payload kept (writing u made) = 2 * width p u + 3 - made
left_at p payload kept (recovering u made) = width p u + 1 - made + added p kept
left_at p payload kept (grouping i made) = stores_of p (drop i (writes p payload)) - made

abbrev left : Plan → Ledger → ℕ
left p l = left_at p l.payload (l.written (last p)) l.job

stores_append : (p : Plan) (xs ys : List Write) → stores_of p (xs ++ ys) ≡ stores_of p xs + stores_of p ys
unfolding stores_of
stores_append p [] ys = omega arith
stores_append p (x ∷ xs) ys = omega (arith, stores_append p xs ys)

-- a group's writes: its members', and two of the record
group_stores : (p : Plan) (g : List ℕ) → unsplit p g ≡ false
    → stores_of p (writes p (payload_of p g)) ≡ stores_of p (members p g) + 2 * (2 * width p (last p) + 3)
unfolding stores_of writes
group_stores p g e =
    let zeros : Write = write (last p) (replicate (width p (last p)) 0) in
    let h : stores_of p (remaining p (payload_of p g)) ≡ stores_of p (members p g ++ (zeros ∷ [])) = ap (stores_of p) (remaining_of p g e) in
    omega (arith, h, stores_append p (members p g) (zeros ∷ []))

module _ (p : Plan) (ok : PlanOk p) where
  module _ (l : Ledger) where
    -- a call that is accepted
    abbrev Fair : Call → Type 0
    Fair c = completes l c + tears l c + left p (accepted p l c) ≤ left p l + allows p l c

    -- where every marker is OK, on to a standing record, or to Ready
    resumed_left : left_at p (reloaded p l) (l.written (last p)) (resumed p l) ≡ added p (l.written (last p))
    unfolding added writes
    resumed_left = go (standing p l)
      where
        go : (b : Bool)
            → left_at p (cond b (padded (l.written (last p))) l.payload) (l.written (last p)) (cond b (grouping 1 0) ready)
            ≡ cond b (stores_of p (remaining p (padded (l.written (last p))))) 0
        go true = omega arith
        go false = refl

    -- one store is completed, and one less is left
    step_fair : step_number (judged p l) ≡ 0 → Fair step
    unfolding accepted bad_job step_number
    step_fair e = go l.job refl (past (judged p l) _ e).job
      where
        Goes : Job → Type 0
        Goes j = 1 + left p (stepped p l j) ≤ left_at p l.payload (l.written (last p)) j + 0

        go : (j : Job) → l.job ≡ j → bad_job p l.payload j ≡ false → Goes j
        go cold is b = absurd (omega (arith, e, step_cold (judged p l) ok refl is))
        go ready is b = absurd (omega (arith, e, step_ready (judged p l) ok refl is))
        go (writing u n) is b =
            let h = leb-false _ n (false_or (leb p.count u) _ b).1 in
            elim (same (suc n) (2 * width p u + 3)) [
              | equal q ↦ rw (eq-eqb (suc n) (2 * width p u + 3) q) (omega arith)
              | differ q ↦ rw (ne_eqb (suc n) (2 * width p u + 3) q) (omega arith)
            ]
        go (recovering u n) is b =
            let h = leb-false _ n (false_or (leb p.count u) _ b).1 in
            elim (same (suc n) (width p u + 1)) [
              | equal q ↦ rw (eq-eqb (suc n) (width p u + 1) q) (omega (arith, resumed_left))
              | differ q ↦ rw (ne_eqb (suc n) (width p u + 1) q) (omega arith)
            ]
        go (grouping i n) is b =
            let w : ℕ = width p (write_at p l.payload i).unit in
            let k = false_or (bad_write p l.payload i) _ b in
            let h : n < 2 * w + 3 = leb-false _ n k.1 in
            let more = stores_from p l.payload i (part_says p ok l.payload i k.0).below in
            elim (same (suc n) (2 * w + 3)) [
              | equal q ↦ rw (eq-eqb (suc n) (2 * w + 3) q) (on (is_last_write p l.payload i) _ (omega (arith, more)))
              | differ q ↦ rw (ne_eqb (suc n) (2 * w + 3) q) (omega (arith, more))
            ]
          where
            on : (t : Bool) (kept : List ℕ) → 1 + stores_of p (drop (suc i) (writes p l.payload)) ≤ stores_of p (drop i (writes p l.payload)) - n
                → 1 + left_at p l.payload kept (cond t ready (grouping (suc i) 0))
                ≤ stores_of p (drop i (writes p l.payload)) - n + 0
            on true kept h = omega arith
            on false kept h = omega arith

    -- the torn store was one of those left
    cut_fair : (bytes : List ℕ) → cut_number (judged p l) (length bytes) ≡ 0 → Fair (cut bytes)
    unfolding accepted bad_job
    cut_fair bytes e = go l.job (cut_says (judged p l) (length bytes) e).job
      where
        go : (j : Job) → bad_job p l.payload j ≡ false
            → completes l (cut bytes) + torn_at j + left p (was_cut p l bytes j)
            ≤ left_at p l.payload (l.written (last p)) j + (1 + widest p p.count + added p ((was_cut p l bytes j).written (last p)))
        go cold b = omega arith
        go ready b = omega arith
        go (writing u n) b =
            let h = leb-false _ n (false_or (leb p.count u) _ b).1 in
            omega arith
        go (recovering u n) b =
            let h = leb-false _ n (false_or (leb p.count u) _ b).1 in
            omega arith
        go (grouping i n) b =
            let k = false_or (bad_write p l.payload i) _ b in
            let h = leb-false _ n k.1 in
            omega (arith, stores_from p l.payload i (part_says p ok l.payload i k.0).below)

    wake_fair : l.unit < p.count → l.job ≡ cold → Fair wake
    unfolding accepted
    wake_fair hu is =
        subst (λ (j : Job). 0 + 0 + left p (accepted p l wake) ≤ left_at p l.payload (l.written (last p)) j + 0) (sym is)
        (elim (same l.marker OK) [
          | equal q ↦ rw (eq-eqb l.marker OK q) (omega (arith, resumed_left))
          | differ q ↦ rw (ne_eqb l.marker OK q) (omega (arith, widest_le p p.count l.unit hu))
        ])

    fair : l.unit < p.count → (c : Call) → told p l c ≡ 0 → Fair c
    unfolding told accepted stores_of
    fair hu (begin role u payload) e = omega arith
    fair hu (ride turns) e = omega arith
    fair hu (group g) e = omega (arith, group_stores p g (group_says (judged p l) g e).parts)
    fair hu (paid turns) e =
        let fare = paid_says (judged p l) (l.written 0) (l.written 1) turns e in
        let g = paid_group (l.written 0) (l.written 1) turns in
        let two = paid_members p fare.two fare.wide₀ fare.wide₁ (l.written 0) (l.written 1) turns in
        omega (arith, group_stores p g fare.group.parts, ap (stores_of p) two)
    fair hu step e = step_fair e
    fair hu (cut bytes) e = cut_fair bytes e
    fair hu wake e = wake_fair hu (wake_says (judged p l) e)

    -- and one that may be refused
    afforded : l.unit < p.count → (c : Call) (n : ℕ) → told p l c ≡ n
        → if_accepted n (completes l c) + if_accepted n (tears l c) + left p (ledger.unless_refused n l (accepted p l c))
        ≤ left p l + if_accepted n (allows p l c)
    afforded hu c zero e = fair hu c e
    afforded hu c (suc n) e = omega arith

  module _ (before : List ℕ) where
    wears : (cs : List Call) (l : Ledger) (o : Outcome) → Inv p before l o
        → over_accepted completes p l cs + over_accepted tears p l cs ≤ left p l + over_accepted (allows p) p l cs
    unfolding over_accepted fed
    wears [] l o inv = omega arith
    wears (c ∷ cs) l o inv =
        let t = wears cs (fed p l c) (call c o) (keeps p ok before l o inv c).kept in
        omega (arith, t, afforded l inv.frame.unit c (told p l c) refl)

-- ---- the device's count
counted_min : (k : ℕ) → counted (min k most_stores) ≡ min (k + 1) most_stores
unfolding counted
counted_min k =
    elim (order (min k most_stores) most_stores) [
      | below h ↦ rw (lt-ltb (min k most_stores) most_stores h) (omega arith)
      | above h ↦ rw (le-ltb (min k most_stores) most_stores h) (omega arith)
    ]

-- after a call that adds so many, if it is accepted
adds : (n : ℕ) (d : Device) (image : List ℕ) (next : Outcome) (k more : ℕ) → d.stores ≡ min k most_stores
    → next.number ≡ 0 → next.device.stores ≡ min (k + more) most_stores
    → (calls.unless_refused n d image next).device.stores
    ≡ min (k + if_accepted (calls.unless_refused n d image next).number more) most_stores
adds zero d image next k more e z h = rw z h
adds (suc n) d image next k more e z h = omega (arith, e)

call_adds : (c : Call) (l : Ledger) (o : Outcome) (k : ℕ) → o.device.stores ≡ min k most_stores
    → (call c o).device.stores ≡ min (k + if_accepted (call c o).number (completes l c)) most_stores
unfolding call calls.begin calls.ride calls.group calls.paid_ride calls.step calls.cut calls.wake
call_adds (begin role u payload) l o k e =
    adds (begin_number (view o.device o.image) role u (length payload)) o.device o.image
    (outcome 0 (as_begun u (padded payload) o.device) o.image) k 0 e refl (omega (arith, e))
call_adds (ride turns) l o k e =
    let held = held_in o.device o.image 0 in
    adds (ride_number (view o.device o.image) held turns) o.device o.image
    (outcome 0 (as_begun 0 (padded (plus held turns)) o.device) o.image) k 0 e refl (omega (arith, e))
call_adds (group g) l o k e =
    adds (group_number (view o.device o.image) g) o.device o.image
    (outcome 0 (as_grouped (payload_of o.device.plan g) o.device) o.image) k 0 e refl (omega (arith, e))
call_adds (paid turns) l o k e =
    let d = o.device in
    adds (paid_number (view d o.image) (held_in d o.image 0) (held_in d o.image 1) turns) d o.image
    (outcome 0 (as_grouped (payload_of d.plan (paid_in d o.image turns)) d) o.image) k 0 e refl (omega (arith, e))
call_adds step l o k e =
    let image = image_after completed o.device o.image in
    adds (step_number (view o.device o.image)) o.device o.image
    (outcome 0 (step_from o.device image) image) k 1 e refl (ap counted e ∙ counted_min k)
call_adds (cut bytes) l o k e =
    adds (cut_number (view o.device o.image) (length bytes)) o.device o.image
    (outcome 0 (as_cut o.device) (image_after (torn_by bytes) o.device o.image)) k 0 e refl (omega (arith, e))
call_adds wake l o k e =
    adds (wake_number (view o.device o.image)) o.device o.image
    (outcome 0 (wake_from o.device o.image (cleanup_from o.device.plan o.image 0)) o.image) k 0 e refl (omega (arith, e))

run_adds : (p : Plan) (ok : PlanOk p) (before : List ℕ) (cs : List Call) (l : Ledger) (o : Outcome) → Inv p before l o
    → (k : ℕ) → o.device.stores ≡ min k most_stores → (run cs o).device.stores ≡ min (k + over_accepted completes p l cs) most_stores
unfolding run over_accepted fed
run_adds p ok before [] l o inv k e = omega (arith, e)
run_adds p ok before (c ∷ cs) l o inv k e =
    let h = keeps p ok before l o inv c in
    let same_number : if_accepted (call c o).number (completes l c) ≡ if_accepted (told p l c) (completes l c) =
    ap (λ (n : ℕ). if_accepted n (completes l c)) h.answer in
    let t = run_adds p ok before cs (fed p l c) (call c o) h.kept (k + if_accepted (call c o).number (completes l c)) (call_adds c l o k e) in
    omega (arith, t, same_number)

format_zero : (d : Device) (image : List ℕ) → (calls.format d image).number ≡ 0 → (calls.format d image).device.stores ≡ 0
unfolding calls.format
format_zero d image e =
    rw (accepts (format_number (view d image)) d image (outcome 0 (as_formatted d) (formatted d.plan image)) e) refl

pub wear_ceiling : WearCeiling
unfolding opening
wear_ceiling d image e cs =
    let p : Plan = d.plan in
    let f : Outcome = calls.format d image in
    let h = format_opens d image e in
    let n = run_adds p h.0 image cs (opening p) f h.1 0 (omega (arith, format_zero d image e)) in
    let most = wears p h.0 image cs (opening p) f h.1 in
    record { counts = omega (arith, n); at_most = omega (arith, n, most); torn_too = omega (arith, most) }

-- ---- the rows of specs/Edges.antt, computed
pub every_wear : EveryWear
unfolding direction torn_bits torn whole_pages base get put put_page fresh formatted bad_count bad_widths bad_page bad_job first start_number format_number wake_number step_number cut_number any_foreign begin_number copying write_stores cleanup_stores stored calls.next calls.image_after calls.lowest_bad calls.phase_after calls.payload_after calls.resumes stands calls.counted calls.start calls.format calls.begin calls.step calls.wake calls.cut opening marker_of told write_marker cleanup_marker saving saving_all accepted fed call run over_accepted widest added right may_write
every_wear = refl
