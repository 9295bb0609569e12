-- Filler is never read: a call sees the cells of an image and its length, and no more.
use Prim.Native.Nat.{ℕ, zero, suc, ◌+◌, ◌-◌, ◌≤◌, ◌<◌}
use mathlib.Core.Path.{◌≡◌, refl, ap, ap₂, sym, ◌∙◌, subst}
use mathlib.Core.List.{List, [], ◌∷◌, ◌++◌}
use mathlib.Core.Option.{Option, some}
use mathlib.Core.Bool.{Bool, true, false, cond, not, ◌||◌, ◌&&◌}
use native.Mathlib.Omega.{arith}
use lib.Dec.{eqb, ltb, leb}
use lib.ListN.{length, get_or, set, take, get_elem?, length-set, get_or-eq_default}
use lib.Seq.{sets, get_or-set_same, get_or-set_other}
use borrow.Author.Tests.{leb-false, ltb-false}
use Rattle.model.specs.declared.Plan.{Plan}
use Rattle.model.specs.declared.Role.{Role}
use Rattle.model.specs.declared.Phase.{Phase}
use Rattle.model.specs.declared.Phase.TheVariants.{Cold, Ready, Writing, Recovering, Grouping}
use Rattle.model.specs.Marker.{OK, direction, End, completed, torn_by}
use Rattle.model.specs.Layout.{Copy, copy_a, Cell, marker, byte, width, total, place, page_at, get, put, put_page, copy_of}
use Rattle.model.specs.Refusals.{cleanup_total, bad_job, is_cold, is_ready, Refusal, ◌when◌, first, device_row, step_number, wake_number, read_number, total_number}
use Rattle.model.specs.Groups.{last, stands, payload_of}
use Rattle.model.specs.Prices.{paid_group}
use Rattle.model.specs.Turns.{amount, plus}
use Rattle.model.specs.Stores.{Store, store, copying, source, target, cleanup_stores, page_left, stored}
use Rattle.model.specs.Calls.{Device, Outcome, outcome, padded, as_begun, as_grouped, as_stepped, as_woken, view, job_of, next, image_after, held_in, cleanup_of, cleanup_from, phase_after, payload_after, record_in, resumes, resumed, reloaded, lowest_bad, inspection, part_unless_refused, total_unless_refused}
use Rattle.model.specs.Calls as calls
use Rattle.model.specs.Ledger.{Call, begin, ride, group, paid, step, cut, wake}
use Rattle.model.specs.PowerCut.{call, run, answers}
use Rattle.model.specs.Filler.{SameCells, SameOutcome, FillerUnread}
use Rattle.model.proofs.Compare.{Order, below, above, order, equal, differ, same}
use Rattle.model.proofs.RefusalLaws.{PlanOk, false_or, count_bounds, past, first_past, Alike, step_alike, cut_alike, wake_alike, begin_alike, read_alike, total_alike, inspect_alike, cut_says}
use Rattle.model.proofs.LayoutLaws.{copy_is, copy_length_lem, copy_byte, length_stored}
use Rattle.model.proofs.TurnLaws.{ride_says, ride_alike}
use Rattle.model.proofs.PaidLaws.{paid_says, paid_alike}
use Rattle.model.proofs.GroupLaws.{last_lt, group_alike}
use Rattle.model.proofs.Demands.{find}

-- ---- A store, or a run of stores, in two lists of one length: a place that had the same byte in both has the same still.
pub set_same : (x y : List ℕ) (i j v : ℕ) → length x ≡ length y → get_or x j 0 ≡ get_or y j 0
    → get_or (set x i v) j 0 ≡ get_or (set y i v) j 0
set_same x y i j v e h =
    elim (same j i) [
      | equal q ↦ rw q (here (order i (length x)))
      | differ q ↦ get_or-set_other x i j v 0 q ∙ h ∙ sym (get_or-set_other y i j v 0 q)
    ]
  where
    here : Order i (length x) → get_or (set x i v) i 0 ≡ get_or (set y i v) i 0
    here (below l) = get_or-set_same x i v 0 l ∙ sym (get_or-set_same y i v 0 (omega arith))
    here (above l) =
        get_or-eq_default (set x i v) 0 (omega (arith, length-set x i v))
        ∙ sym (get_or-eq_default (set y i v) 0 (omega (arith, length-set y i v)))

sets_same : (vs x y : List ℕ) (i j : ℕ) → length x ≡ length y → get_or x j 0 ≡ get_or y j 0
    → get_or (sets x i vs) j 0 ≡ get_or (sets y i vs) j 0
sets_same [] x y i j e h = h
sets_same (v ∷ vs) x y i j e h =
    sets_same vs (set x i v) (set y i v) (suc i) j (length-set x i v ∙ e ∙ sym (length-set y i v)) (set_same x y i j v e h)

copying_same : (u : ℕ) (c : Copy) (f g : ℕ → ℕ) (n i : ℕ) → ((k : ℕ) → k < i + n → f k ≡ g k)
    → copying u c f n i ≡ copying u c g n i
unfolding copying
copying_same u c f g zero i h = refl
copying_same u c f g (suc n) i h =
    ap₂ (λ (v : ℕ) (rest : List Store). store u (byte c i) v ∷ rest) (h i (omega arith))
    (copying_same u c f g n (suc i) (λ k l. h k (omega arith)))

module _ (p : Plan) (x y : List ℕ) (s : SameCells p x y) where
  -- ---- the next store
  next_same : (payload : List ℕ) (phase : Phase) → bad_job p payload (job_of phase) ≡ false
      → next p payload x phase ≡ next p payload y phase
  unfolding next bad_job cleanup_stores
  next_same payload Cold e = refl
  next_same payload Ready e = refl
  next_same payload (Writing u made) e = refl
  next_same payload (Grouping i made) e = refl
  next_same payload (Recovering u made d) e =
      let h = leb-false p.count u (false_or (leb p.count u) _ e).0 in
      ap (λ (t : List Store). get_elem? (t ++ (store u marker OK ∷ [])) made)
      (copying_same u (target d) _ _ (width p u) 0 (λ k l. s.cells u h (byte (source d) k) (omega arith)))

  -- ---- what a store leaves
  left_same : (u : ℕ) (c : Cell) (new : ℕ) (bytes : List ℕ) → u < p.count
      → page_left c (get p x u c) new bytes ≡ page_left c (get p y u c) new bytes
  left_same u marker new bytes h = ap (λ (old : ℕ). page_left marker old new bytes) (s.cells u h marker tt)
  left_same u (byte c i) new bytes h = refl

  stored_same : (e : End) (t : Store) → t.unit < p.count → SameCells p (stored p x e (some t)) (stored p y e (some t))
  unfolding stored put put_page get
  stored_same e t h =
      record {
        size = length_stored p x e (some t) ∙ s.size ∙ sym (length_stored p y e (some t));
        cells = λ u hu c f. at e u c (s.cells u hu c f);
      }
    where
      at : (e : End) (u : ℕ) (c : Cell) → get p x u c ≡ get p y u c
          → get p (stored p x e (some t)) u c ≡ get p (stored p y e (some t)) u c
      at completed u c q = set_same x y (place p t.unit t.cell) (place p u c) t.value s.size q
      at (torn_by bytes) u c q =
          let left : List ℕ = page_left t.cell (get p x t.unit t.cell) t.value bytes in
          let from : ℕ = page_at p (place p t.unit t.cell) in
          sets_same (take p.page left) x y from (place p u c) s.size q
          ∙ ap (λ (b : List ℕ). get_or (sets y from (take p.page b)) (place p u c) 0) (left_same t.unit t.cell t.value bytes h)

  -- ---- the search for a bad marker
  lowest_same : (n u : ℕ) → u + n ≤ p.count → lowest_bad p x n u ≡ lowest_bad p y n u
  unfolding lowest_bad
  lowest_same zero u h = refl
  lowest_same (suc n) u h = rw (s.cells u (omega arith) marker tt, lowest_same n (suc u) (omega arith))

  cleanup_same : (n u : ℕ) → u + n ≤ p.count → cleanup_of p x (lowest_bad p x n u) ≡ cleanup_of p y (lowest_bad p y n u)
  unfolding lowest_bad
  cleanup_same zero u h = refl
  cleanup_same (suc n) u h =
      let e : get p x u marker ≡ get p y u marker = s.cells u (omega arith) marker tt in
      rw e (go (eqb (get p y u marker) OK) _ _ (cleanup_same n (suc u) (omega arith)) (ap (λ (m : ℕ). Recovering u 0 (direction m)) e))
    where
      go : (t : Bool) (a b : Option ℕ) → cleanup_of p x a ≡ cleanup_of p y b → cleanup_of p x (some u) ≡ cleanup_of p y (some u)
          → cleanup_of p x (cond t a (some u)) ≡ cleanup_of p y (cond t b (some u))
      go true a b later here = later
      go false a b later here = here

  found_same : (u : ℕ) → u ≤ p.count → cleanup_from p x u ≡ cleanup_from p y u
  found_same u h = cleanup_same (p.count - u) u (omega arith)

  -- ---- a copy
  copy_same : PlanOk p → total p ≤ length x → (u : ℕ) → u < p.count → copy_of p x u copy_a ≡ copy_of p y u copy_a
  copy_same ok h u hu =
      let long : total p ≤ length y = omega (arith, s.size) in
      copy_is p ok x u copy_a (copy_of p y u copy_a) hu h (copy_length_lem p ok y u copy_a hu long)
      (λ i l. s.cells u hu (byte copy_a i) l ∙ sym (copy_byte p ok y u copy_a i l))

  module _ (ok : PlanOk p) (long : total p ≤ length x) where
    record_same : record_in p x ≡ record_in p y
    record_same = copy_same ok long (last p) (last_lt p ok)

    resumed_same : (u : ℕ) → u ≤ p.count → resumed p x (cleanup_from p x u) ≡ resumed p y (cleanup_from p y u)
    unfolding resumes
    resumed_same u h =
        ap₂ (λ (r : List ℕ) (found : Phase). cond (is_ready (job_of found) && stands p r) (Grouping 1 0) found) record_same (found_same u h)

    reloaded_same : (payload : List ℕ) (u : ℕ) → u ≤ p.count
        → reloaded p x (cleanup_from p x u) payload ≡ reloaded p y (cleanup_from p y u) payload
    unfolding resumes
    reloaded_same payload u h =
        ap₂ (λ (r : List ℕ) (found : Phase). cond (is_ready (job_of found) && stands p r) (padded r) payload) record_same (found_same u h)

    after_same : (payload : List ℕ) (phase : Phase) → bad_job p payload (job_of phase) ≡ false
        → (phase_after p payload x phase ≡ phase_after p payload y phase) × (payload_after p payload x phase ≡ payload_after p payload y phase)
    unfolding phase_after payload_after bad_job
    after_same payload Cold e = (refl, refl)
    after_same payload Ready e = (refl, refl)
    after_same payload (Writing u made) e = (refl, refl)
    after_same payload (Grouping i made) e = (refl, refl)
    after_same payload (Recovering u made d) e =
        let h = leb-false p.count u (false_or (leb p.count u) _ e).0 in (
          ap (λ (t : Phase). cond (eqb (suc made) (cleanup_total (width p u))) t (Recovering u (suc made) d)) (resumed_same (suc u) h),
          ap (λ (t : List ℕ). cond (eqb (suc made) (cleanup_total (width p u))) t payload) (reloaded_same payload (suc u) h),
        )

-- ---- The calls.
-- what is shown unless it is refused
pub unrefused_same : {A B : Type 0} (show : ℕ → A → B) (nothing : A) → ((n : ℕ) (a : A) → show (suc n) a ≡ show (suc n) nothing)
    → (n n' : ℕ) {a b : A} → n ≡ n' → (n ≡ 0 → a ≡ b) → show n a ≡ show n' b
unrefused_same show nothing hides zero zero e h = ap (show 0) (h refl)
unrefused_same show nothing hides zero (suc n') e h = absurd (omega arith)
unrefused_same show nothing hides (suc n) zero e h = absurd (omega arith)
unrefused_same show nothing hides (suc n) (suc n') {a} {b} e h = hides n a ∙ ap (λ (k : ℕ). show k nothing) e ∙ sym (hides n' b)

module _ (d : Device) (x y : List ℕ) (s : SameCells d.plan x y) where
  alike : Alike (view d x) (view d y)
  alike =
      record {
        plan = refl;
        short = ap (λ (n : ℕ). ltb n (total d.plan)) s.size;
        job = refl;
        bad = refl;
        marker = λ u h. s.cells u h marker tt;
      }

  settle : (n n' : ℕ) (o o' : Outcome) → n ≡ n' → (n ≡ 0 → SameOutcome o o')
      → SameOutcome (calls.unless_refused n d x o) (calls.unless_refused n' d y o')
  settle zero zero o o' e h = h refl
  settle zero (suc n') o o' e h = absurd (omega arith)
  settle (suc n) zero o o' e h = absurd (omega arith)
  settle (suc n) (suc n') o o' e h = record { number = e; device = refl; image = s }

  image_same : (e : End) → PlanOk d.plan → bad_job d.plan d.payload (job_of d.phase) ≡ false
      → SameCells d.plan (image_after e d x) (image_after e d y)
  unfolding image_after stored next
  image_same e ok fine = go d.phase refl
    where
      busy : is_cold (job_of d.phase) || is_ready (job_of d.phase) ≡ false → SameCells d.plan (image_after e d x) (image_after e d y)
      busy b =
          let f = find d x ok d.phase refl fine b in
          rw (sym (next_same d.plan x y s d.payload d.phase fine), f.is)
          (stored_same d.plan x y s e (store f.unit f.cell f.value) f.there)

      go : (phase : Phase) → d.phase ≡ phase → SameCells d.plan (image_after e d x) (image_after e d y)
      go Cold now = rw now s
      go Ready now = rw now s
      go (Writing u made) now = busy (rw now)
      go (Recovering u made way) now = busy (rw now)
      go (Grouping i made) now = busy (rw now)

  image_size : (e : End) (image : List ℕ) → length (image_after e d image) ≡ length image
  unfolding image_after
  image_size e image = length_stored d.plan image e (next d.plan d.payload image d.phase)

  held_same : PlanOk d.plan → ltb (length x) (total d.plan) ≡ false → (u : ℕ) → u < d.plan.count → held_in d x u ≡ held_in d y u
  held_same ok long = copy_same d.plan x y s ok (ltb-false (length x) (total d.plan) long)

  first_held : PlanOk d.plan → ltb (length x) (total d.plan) ≡ false → held_in d x 0 ≡ held_in d y 0
  first_held ok long = held_same ok long 0 (count_bounds d.plan ok).0

  call_same : (c : Call) (n n' : ℕ) → SameOutcome (call c (outcome n d x)) (call c (outcome n' d y))
  unfolding call calls.begin calls.ride calls.group calls.paid_ride calls.step calls.cut calls.wake step_number wake_number
  call_same (begin role u payload) n n' =
      settle _ _ _ _ (begin_alike alike role u (length payload)) (λ z. record { number = refl; device = refl; image = s })
  call_same (ride turns) n n' =
      settle _ _ _ _ (ride_alike alike turns (λ ok long job. first_held ok (alike.short ∙ long)))
      (λ z.
      let r = ride_says (view d x) (held_in d x 0) turns z in
      record {
        number = refl;
        device = ap (λ (bytes : List ℕ). as_begun 0 (padded (plus bytes turns)) d) (first_held r.plan r.long);
        image = s;
      })
  call_same (group g) n n' =
      settle _ _ _ _ (group_alike alike g) (λ z. record { number = refl; device = refl; image = s })
  call_same (paid turns) n n' =
      settle _ _ _ _
      (paid_alike alike turns (λ ok long job two. (held_same ok (alike.short ∙ long) 0 (omega arith), held_same ok (alike.short ∙ long) 1 two)))
      (λ z.
      let fare = paid_says (view d x) (held_in d x 0) (held_in d x 1) turns z in
      record {
        number = refl;
        device = ap₂ (λ (a b : List ℕ). as_grouped (payload_of d.plan (paid_group a b turns)) d)
            (held_same fare.plan fare.long 0 (omega (arith, fare.two))) (held_same fare.plan fare.long 1 fare.two);
        image = s;
      })
  call_same step n n' =
      settle _ _ _ _ (step_alike alike)
      (λ z.
      let h = past (view d x) _ z in
      let t = image_same completed h.plan h.job in
      let long : total d.plan ≤ length (image_after completed d x) =
      omega (arith, image_size completed x, ltb-false (length x) (total d.plan) h.long) in
      let same = after_same d.plan _ _ t h.plan long d.payload d.phase h.job in
      record {
        number = refl;
        device = ap₂ (λ (phase : Phase) (held : List ℕ). as_stepped phase held d) same.0 same.1;
        image = t;
      })
  call_same (cut bytes) n n' =
      settle _ _ _ _ (cut_alike alike (length bytes))
      (λ z. record { number = refl; device = refl; image = let h = cut_says (view d x) (length bytes) z in image_same (torn_by bytes) h.plan h.job })
  call_same wake n n' =
      settle _ _ _ _ (wake_alike alike)
      (λ z.
      let h = past (view d x) _ z in
      let long = ltb-false (length x) (total d.plan) h.long in
      record {
        number = refl;
        device = ap₂ (λ (phase : Phase) (held : List ℕ). as_woken phase held d)
            (resumed_same d.plan x y s h.plan long 0 (omega arith))
            (reloaded_same d.plan x y s h.plan long d.payload 0 (omega arith));
        image = s;
      })

  inspect_same : calls.inspect d x ≡ calls.inspect d y
  unfolding calls.inspect
  inspect_same = ap₂ inspection (inspect_alike alike) (lowest_same d.plan x y s d.plan.count 0 (omega arith))

  -- a unit that 6 lets pass
  read_held : (u : ℕ) (rest : List Refusal)
      → first (device_row (view d x) ++ (5 when not (is_ready (job_of d.phase)) ∷ 6 when leb d.plan.count u ∷ rest)) ≡ 0
      → held_in d x u ≡ held_in d y u
  read_held u rest z =
      let h = past (view d x) _ z in
      let h₅ = first_past 4 (not (is_ready (job_of d.phase))) _ h.more in
      let h₆ = first_past 5 (leb d.plan.count u) _ h₅.1 in
      held_same h.plan h.long u (leb-false d.plan.count u h₆.0)

  read_same : (role : Role) (u : ℕ) → calls.read d x role u ≡ calls.read d y role u
  unfolding calls.read read_number
  read_same role u =
      unrefused_same part_unless_refused [] (λ n a. refl) (read_number (view d x) role u) (read_number (view d y) role u) (read_alike alike role u) (read_held u _)

  total_same : (role : Role) (u : ℕ) → calls.total_of d x role u ≡ calls.total_of d y role u
  unfolding calls.total_of total_number
  total_same role u =
      unrefused_same total_unless_refused 0 (λ n a. refl) (total_number (view d x) role u) (total_number (view d y) role u) (total_alike alike role u)
      (λ z. ap amount (read_held u _ z))

-- ---- Lists of calls.
one_same : (c : Call) (o o' : Outcome) → SameOutcome o o' → SameOutcome (call c o) (call c o')
one_same c o o' h =
    subst (λ (d : Device). SameOutcome (call c o) (call c (outcome o'.number d o'.image))) h.device
    (call_same o.device o.image o'.image h.image c o.number o'.number)

run_same : (cs : List Call) (o o' : Outcome) → SameOutcome o o' → SameOutcome (run cs o) (run cs o')
unfolding run
run_same [] o o' h = h
run_same (c ∷ cs) o o' h = run_same cs (call c o) (call c o') (one_same c o o' h)

answers_same : (cs : List Call) (o o' : Outcome) → SameOutcome o o' → answers cs o ≡ answers cs o'
unfolding answers
answers_same [] o o' h = refl
answers_same (c ∷ cs) o o' h =
    let t = one_same c o o' h in
    ap₂ ◌∷◌ t.number (answers_same cs (call c o) (call c o') t)

pub filler_unread : FillerUnread
filler_unread d x y s =
    let h : SameOutcome (outcome 0 d x) (outcome 0 d y) = record { number = refl; device = refl; image = s } in
    record {
      answered = λ cs. answers_same cs _ _ h;
      left = λ cs. run_same cs _ _ h;
      shown = read_same d x y s;
      totalled = total_same d x y s;
      inspected = inspect_same d x y s;
    }
