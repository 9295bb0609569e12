-- THE POWER-CUT THEOREM, proved: the invariant along a list of calls, and the repair after its closing cut.
use Prim.Native.Nat.{ℕ, zero, suc, ◌+◌, ◌≤◌, ◌<◌, ◌*◌}
use mathlib.Core.Path.{◌≡◌, refl, ap, ap₂, sym, ◌∙◌, subst}
use mathlib.Core.List.{List, [], ◌∷◌, ◌++◌}
use mathlib.Core.Bool.{Bool, true, false, cond, true≢false}
use native.Mathlib.Omega.{arith}
use lib.ListN.{length, take, replicate, length-replicate, get_or-replicate, drop}
use borrow.Author.Tests.{eq-eqb, ne_eqb, le-ltb, ltb-false, lt-leb, le-leb}
use Rattle.model.specs.declared.Plan.{Plan}
use Rattle.model.specs.declared.Phase.TheVariants.{Ready}
use Rattle.model.specs.Marker.{OK, direction, completed}
use Rattle.model.specs.Layout.{Copy, marker, byte, width, total, get, formatted, copy_a, copy_of}
use Rattle.model.specs.Refusals.{Job, cold, ready, writing, recovering, is_ready, bad_job, format_number, start_number, grouping, bad_write}
use Rattle.model.specs.Calls.{Device, Outcome, outcome, as_started, as_formatted, view, job_of, record_in}
use lib.Dec.{eqb}
use Rattle.model.specs.Groups.{Write, last, padded, given, stands, remaining, writes, write_at, is_last_write}
use Rattle.model.specs.Calls as calls
use Rattle.model.specs.Ledger.{Ledger, Call, step, cut, wake, opening, judged, told, accepted, fed, tells, after, was_cut, saving_all, count_with}
use Rattle.model.specs.Ledger as ledger
use Rattle.model.specs.PowerCut.{call, run, answers, closed_by, repair, Repairs, none, only, Repaired, Survives, Closes, PowerCut, PowerCutFromStart, CutAccepted, stores_of, added}
use Rattle.model.specs.Foreign.{NeverForeign}
use Rattle.model.proofs.Compare.{Same, equal, differ, same}
use Rattle.model.proofs.RefusalLaws.{PlanOk, count_bounds, start_says, format_says, format_cold, job_recovering, wake_cold, cut_any, cut_says, step_recovering, step_grouping}
use Rattle.model.proofs.LayoutLaws.{copy_is, get_formatted, length_formatted, rest_formatted}
use Rattle.model.proofs.LedgerLaws.{at, notes_copy, notes_settle, none_foreign, ledger_small, store_writes}
use Rattle.model.proofs.Invariant.{Whole, Clean, loaded_fine, Stage, resting, off, opened, to_a, to_b, mending, phased, job_phased, Inv, all_clean}
use Rattle.model.proofs.Tasks.{Task, alone, job_at, part}
use Rattle.model.proofs.Keeps.{keeps}
use Rattle.model.proofs.GroupLaws.{stands_given, last_lt, part_fine, writes_more}
use Rattle.model.proofs.Promise.{Promised, promise_fed, promise_opens, ready_same, stores_from}

-- ---- a formatted device
opens : (p : Plan) (before : List ℕ) (o : Outcome) → PlanOk p → total p ≤ length before → o.device.plan ≡ p → o.device.phase ≡ Ready
    → o.image ≡ formatted p before → Inv p before (opening p) o
unfolding opening
opens p before o ok h plan phase image =
    record {
      plan = plan;
      phase = phase;
      frame = rw image (record {
        size = length_formatted p ok before h;
        long = omega (arith, length_formatted p ok before h);
        rest = rest_formatted p ok before;
        unit = (count_bounds p ok).0;
        lengths = λ v hv. length-replicate (width p v) 0;
        others = λ v hv ne. record { mark = get_formatted p ok before v marker hv tt; both = λ c. zeros v hv c };
      });
      mark = rw image (get_formatted p ok before 0 marker (count_bounds p ok).0 tt);
      stage = resting refl refl (rw image (λ c. zeros 0 (count_bounds p ok).0 c));
    }
  where
    zeros : (v : ℕ) → v < p.count → (c : Copy) → Whole p (formatted p before) v c (replicate (width p v) 0)
    zeros v hv c i l = get_formatted p ok before v (byte c i) hv l ∙ sym (get_or-replicate (width p v) i 0 0 l)

module _ (p : Plan) (ok : PlanOk p) (before : List ℕ) where
  -- ---- along a list of calls
  pub record Along (cs : List Call) (l : Ledger) (o : Outcome) : Type 0 where
    pub answered : answers cs o ≡ tells p l cs
    pub inv : Inv p before (after p l cs) (run cs o)

  pub along : (cs : List Call) (l : Ledger) (o : Outcome) → Inv p before l o → Along cs l o
  unfolding answers tells run after fed
  along [] l o inv = record { answered = refl; inv = inv }
  along (c ∷ cs) l o inv =
      let h = keeps p ok before l o inv c in
      let t = along cs (fed p l c) (call c o) h.kept in
      record { answered = ap₂ ◌∷◌ h.answer t.answered; inv = t.inv }

  -- ---- the closing cut leaves Cold, if it is accepted
  pub job_fine : (l : Ledger) (o : Outcome) → Inv p before l o → bad_job p l.payload l.job ≡ false
  unfolding bad_job
  job_fine l o inv = go inv.stage
    where
      unit : l.unit < p.count
      unit = inv.frame.unit

      go : Stage p o.image l o.device.payload → bad_job p l.payload l.job ≡ false
      go (resting e mk h) = rw e
      go (off e h) = rw e
      go (opened t v bs e mk h ld) = rw e (loaded_fine t ld 0 (omega arith)).0
      go (to_a t bs j hj e mk hb ha ld) = rw e (loaded_fine t ld (suc j) (omega arith)).0
      go (to_b t bs j hj e mk sv ha hb ld) = rw e (loaded_fine t ld (suc (width p l.unit + suc j)) (omega arith)).0
      go (mending j hj e mk hs ht) = rw e (job_recovering p l.payload l.unit j unit (omega arith))

  -- what is saved, after a call, and along the same list
  pub saved_fed : (l : Ledger) (o : Outcome) → Inv p before l o → Promised p l → (c : Call) → Promised p (fed p l c)
  saved_fed l o inv pr c =
      promise_fed p ok l (inv.frame.lengths (last p) (last_lt p ok)) c (job_fine l o inv) pr

  saved_along : (cs : List Call) (l : Ledger) (o : Outcome) → Inv p before l o → Promised p l → Promised p (after p l cs)
  unfolding after fed
  saved_along [] l o inv pr = pr
  saved_along (c ∷ cs) l o inv pr =
      saved_along cs (fed p l c) (call c o) (keeps p ok before l o inv c).kept (saved_fed l o inv pr c)

  pub fed_accepted : (l : Ledger) (c : Call) → told p l c ≡ 0 → fed p l c ≡ accepted p l c
  unfolding fed
  fed_accepted l c e = rw e

  cut_leaves_cold : (l : Ledger) (bytes : List ℕ) → told p l (cut bytes) ≡ 0 → (fed p l (cut bytes)).job ≡ cold
  unfolding accepted
  cut_leaves_cold l bytes e = rw (fed_accepted l (cut bytes) e) (go l.job)
    where
      go : (j : Job) → (was_cut p l bytes j).job ≡ cold
      go cold = refl
      go ready = refl
      go (writing u n) = refl
      go (recovering u n) = refl
      go (grouping i n) = refl

  after_snoc : (cs : List Call) (c : Call) (l : Ledger) → after p l (cs ++ (c ∷ [])) ≡ fed p (after p l cs) c
  unfolding after
  after_snoc [] c l = refl
  after_snoc (x ∷ cs) c l = after_snoc cs c (fed p l x)

  -- the ledger tells the closing cut's answer
  closing : (cs : List Call) (bytes : List ℕ) (l : Ledger) (o : Outcome) → Inv p before l o
      → (call (cut bytes) (run cs o)).number ≡ told p (after p l cs) (cut bytes)
  closing cs bytes l o inv = (keeps p ok before (after p l cs) (run cs o) (along cs l o inv).inv (cut bytes)).answer

  pub ends_cold : (cs : List Call) (bytes : List ℕ) (l : Ledger) (o : Outcome) → Inv p before l o → Closes bytes cs o
      → (after p l (closed_by bytes cs)).job ≡ cold
  ends_cold cs bytes l o inv e =
      ap (λ (x : Ledger). x.job) (after_snoc cs (cut bytes) l) ∙ cut_leaves_cold (after p l cs) bytes (sym (closing cs bytes l o inv) ∙ e)

  -- and it is accepted exactly if it has as many bytes as a page
  cut_accepted : (cs : List Call) (bytes : List ℕ) (l : Ledger) (o : Outcome) → Inv p before l o
      → (length bytes ≡ p.page → Closes bytes cs o) × (Closes bytes cs o → length bytes ≡ p.page)
  unfolding told
  cut_accepted cs bytes l o inv =
      let now : Ledger = after p l cs in (
        (λ e. closing cs bytes l o inv
            ∙ cut_any (judged p now) ok refl (length bytes) (job_fine now (run cs o) (along cs l o inv).inv) e),
        λ e. (cut_says (judged p now) (length bytes) (sym (closing cs bytes l o inv) ∙ e)).size,
      )

  -- ---- the ledger alone goes through a repair: n accepted steps, none of them from Ready, that promise nothing
  pub data Mends : Ledger → ℕ → Ledger → Type 0 where
    done : {l : Ledger} → Mends l 0 l
    more : {l l' : Ledger} {n : ℕ} → told p l step ≡ 0 → is_ready l.job ≡ false → (fed p l step).saved ≡ l.saved
        → Mends (fed p l step) n l' → Mends l (suc n) l'

  mends_answers : {l l' : Ledger} {n : ℕ} → Mends l n l' → tells p l (replicate n step) ≡ replicate n 0
  unfolding tells
  mends_answers done = refl
  mends_answers (more a r s g) = ap₂ ◌∷◌ a (mends_answers g)

  mends_after : {l l' : Ledger} {n : ℕ} → Mends l n l' → after p l (replicate n step) ≡ l'
  unfolding after
  mends_after done = refl
  mends_after (more a r s g) = mends_after g

  mends_saved : {l l' : Ledger} {n : ℕ} → Mends l n l' → l'.saved ≡ l.saved
  mends_saved done = refl
  mends_saved (more a r s g) = mends_saved g ∙ s

  mends_not_earlier : {l l' : Ledger} {n : ℕ} → Mends l n l' → (j : ℕ) → j < n → is_ready (after p l (replicate j step)).job ≡ false
  unfolding after
  mends_not_earlier done j h = absurd (omega arith)
  mends_not_earlier (more a r s g) zero h = r
  mends_not_earlier (more a r s g) (suc j) h = mends_not_earlier g j (omega arith)

  mends_then : {l l' l'' : Ledger} {n m : ℕ} → Mends l n l' → Mends l' m l'' → (k : ℕ) → k ≡ n + m → Mends l k l''
  mends_then {l'' = l''} {m = m} (done {l}) h k e =
      let q : m ≡ k = omega arith in
      subst (λ (z : ℕ). Mends l z l'') q h
  mends_then (more {n = n} a r s g) h zero e = absurd (omega arith)
  mends_then (more {n = n} a r s g) h (suc k) e = more a r s (mends_then g h k (omega arith))

  -- a cleanup of unit u that has made j stores, with n bytes to copy still
  abbrev settled : Ledger → ℕ → Ledger
  settled l u = at (ledger.resumed p l) (ledger.reloaded p l) u OK l.written l.saved

  mends_unit : (u : ℕ) → u < p.count → (n j : ℕ) (l : Ledger) → l.job ≡ recovering u j → j + n ≡ width p u
      → Mends l (suc n) (settled l u)
  unfolding told
  mends_unit u hu zero j l e h =
      let fine : told p l step ≡ 0 = step_recovering (judged p l) ok refl u j e hu (omega arith) in
      let is = fed_accepted l step fine ∙ notes_settle p l u j e (omega arith) completed in
      more fine (rw e) (ap (λ (x : Ledger). x.saved) is) (subst (λ (x : Ledger). Mends x 0 (settled l u)) (sym is) done)
  mends_unit u hu (suc n) j l e h =
      let fine : told p l step ≡ 0 = step_recovering (judged p l) ok refl u j e hu (omega arith) in
      let is = fed_accepted l step fine ∙ notes_copy p l u j e (omega arith) completed in
      let l₁ : Ledger = at (recovering u (suc j)) l.payload u (ledger.marker_of l u) l.written l.saved in
      more fine (rw e) (ap (λ (x : Ledger). x.saved) is)
      (subst (λ (x : Ledger). Mends x (suc n) (settled l u)) (sym is) (mends_unit u hu n (suc j) l₁ refl (omega arith)))

  -- ---- the writes of a standing record: n steps to the job j; the payload stays
  pub record Trip (l : Ledger) (n : ℕ) (j : Job) : Type 0 where
    pub to : Ledger
    pub mends : Mends l n to
    pub job : to.job ≡ j
    pub payload : to.payload ≡ l.payload

  module _ (payload : List ℕ) (gv : given p payload ≡ true) where
    -- the width of write i
    abbrev wide : ℕ → ℕ
    wide i = width p (write_at p payload i).unit

    -- the job after one more store of write i
    abbrev onward : ℕ → ℕ → Job
    onward i n =
        cond (eqb (suc n) (2 * width p (write_at p payload i).unit + 3))
        (cond (is_last_write p payload i) ready (grouping (suc i) 0))
        (grouping i (suc n))

    rewrite_store : (i n : ℕ) (l : Ledger) → l.job ≡ grouping (suc i) n → l.payload ≡ payload → suc i < length (writes p payload)
        → n < 2 * width p (write_at p payload (suc i)).unit + 3 → Trip l 1 (onward (suc i) n)
    unfolding told count_with saving_all
    rewrite_store i n l e f hi hn =
        let fine : told p l step ≡ 0 =
        step_grouping (judged p l) ok refl (suc i) n e
        (subst (λ (x : List ℕ). bad_write p x (suc i) ≡ false) (sym f) (part_fine p ok payload (suc i) gv hi))
        (subst (λ (x : List ℕ). n < 2 * width p (write_at p x (suc i)).unit + 3) (sym f) hn) in
        let is = fed_accepted l step fine ∙ store_writes p l (part (suc i)) n (write_at p l.payload (suc i)) e refl completed in
        let same_saved : (fed p l step).saved ≡ l.saved = ap (λ (x : Ledger). x.saved) is ∙ stays (ledger.passes_at p l (write_at p l.payload (suc i)) (suc n) completed) in
        record {
          to = fed p l step;
          mends = more fine (rw e) same_saved done;
          job = ap (λ (x : Ledger). x.job) is
              ∙ ap (λ (x : List ℕ). cond (eqb (suc n) (2 * width p (write_at p x (suc i)).unit + 3)) (cond (is_last_write p x (suc i)) ready (grouping (suc (suc i)) 0)) (grouping (suc i) (suc n))) f;
          payload = ap (λ (x : Ledger). x.payload) is;
        }
      where
        stays : (b : Bool) → cond b l.saved l.saved ≡ l.saved
        stays true = refl
        stays false = refl

    -- write i with m stores to make after the next
    rewrite_on : (i m n : ℕ) (l : Ledger) → l.job ≡ grouping (suc i) n → l.payload ≡ payload → suc i < length (writes p payload)
        → n + m ≡ 2 * width p (write_at p payload (suc i)).unit + 2
        → Trip l (suc m) (cond (is_last_write p payload (suc i)) ready (grouping (suc (suc i)) 0))
    rewrite_on i zero n l e f hi h =
        let t = rewrite_store i n l e f hi (omega arith) in
        record {
          to = t.to;
          mends = t.mends;
          job = t.job ∙ rw (eq-eqb (suc n) (2 * width p (write_at p payload (suc i)).unit + 3) (omega arith));
          payload = t.payload;
        }
    rewrite_on i (suc m) n l e f hi h =
        let t = rewrite_store i n l e f hi (omega arith) in
        let on : t.to.job ≡ grouping (suc i) (suc n) =
        t.job ∙ rw (ne_eqb (suc n) (2 * width p (write_at p payload (suc i)).unit + 3) (omega arith)) in
        let g = rewrite_on i m (suc n) t.to on (t.payload ∙ f) hi (omega arith) in
        record {
          to = g.to;
          mends = mends_then t.mends g.mends (suc (suc m)) (omega arith);
          job = g.job;
          payload = g.payload ∙ t.payload;
        }

    no_more : (xs : List Write) (n : ℕ) → n ≡ length xs → stores_of p (drop n xs) ≡ 0
    unfolding stores_of
    no_more [] zero e = refl
    no_more [] (suc n) e = absurd (omega arith)
    no_more (x ∷ xs) zero e = absurd (omega arith)
    no_more (x ∷ xs) (suc n) e = no_more xs n (omega arith)

    -- write i and the m after it
    rewrites_from : (m i : ℕ) (l : Ledger) → suc (suc i + m) ≡ length (writes p payload) → l.job ≡ grouping (suc i) 0 → l.payload ≡ payload
        → Trip l (stores_of p (drop (suc i) (writes p payload))) ready
    unfolding is_last_write
    rewrites_from zero i l h e f =
        let lt : suc i < length (writes p payload) = omega arith in
        let t = rewrite_on i (2 * width p (write_at p payload (suc i)).unit + 2) 0 l e f lt (omega arith) in
        let q : suc (2 * width p (write_at p payload (suc i)).unit + 2) ≡ stores_of p (drop (suc i) (writes p payload)) =
        omega (arith, stores_from p payload (suc i) lt, no_more (writes p payload) (suc (suc i)) (omega arith)) in
        record {
          to = t.to;
          mends = subst (λ (z : ℕ). Mends l z t.to) q t.mends;
          job = t.job ∙ rw (le-leb (length (writes p payload)) (suc (suc i)) (omega arith));
          payload = t.payload;
        }
    rewrites_from (suc m) i l h e f =
        let lt : suc i < length (writes p payload) = omega arith in
        let t = rewrite_on i (2 * width p (write_at p payload (suc i)).unit + 2) 0 l e f lt (omega arith) in
        let on : t.to.job ≡ grouping (suc (suc i)) 0 = t.job ∙ rw (lt-leb (length (writes p payload)) (suc (suc i)) (omega arith)) in
        let g = rewrites_from m (suc i) t.to (omega arith) on (t.payload ∙ f) in
        record {
          to = g.to;
          mends = mends_then t.mends g.mends (stores_of p (drop (suc i) (writes p payload))) (omega (arith, stores_from p payload (suc i) lt));
          job = g.job;
          payload = g.payload ∙ t.payload;
        }

  -- on from where every marker is OK; r are the record unit's bytes
  rewrites : (l : Ledger) (r old : List ℕ) → l.job ≡ cond (stands p r) (grouping 1 0) ready → l.payload ≡ cond (stands p r) (padded r) old
      → Trip l (added p r) ready
  unfolding added writes
  rewrites l r old e f = go (stands p r) refl e f
    where
      go : (b : Bool) → stands p r ≡ b → l.job ≡ cond b (grouping 1 0) ready → l.payload ≡ cond b (padded r) old
          → Trip l (cond (stands p r) (stores_of p (remaining p (padded r))) 0) ready
      go false q e f = rw q (record { to = l; mends = done; job = e; payload = refl })
      go true q e f = rw q (all (length (writes p (padded r))) refl (writes_more p ok (padded r)))
        where
          all : (n : ℕ) → n ≡ length (writes p (padded r)) → 1 < n → Trip l (stores_of p (remaining p (padded r))) ready
          all zero x y = absurd (omega arith)
          all (suc zero) x y = absurd (omega arith)
          all (suc (suc n)) x y = rewrites_from (padded r) (sym (stands_given p r) ∙ q) n 0 l (omega arith) e f

  -- ---- in Ready, and at the start of a write, every unit is clean
  abbrev is_still : Job → Bool
  is_still cold = false
  is_still ready = true
  is_still (writing u zero) = true
  is_still (writing u (suc n)) = false
  is_still (recovering u n) = false
  is_still (grouping i zero) = true
  is_still (grouping i (suc n)) = false

  moving : (t : Task) (n : ℕ) → is_still (job_at t (suc n)) ≡ false
  moving (alone u) n = refl
  moving (part i) n = refl

  still_clean : (l : Ledger) (o : Outcome) → Inv p before l o → is_still l.job ≡ true
      → (v : ℕ) → v < p.count → Clean p o.image l.written v
  still_clean l o inv r = go inv.stage
    where
      other : {X : Type 0} (j : Job) → l.job ≡ j → is_still j ≡ false → X
      other j e t = absurd (true≢false (sym r ∙ ap is_still e ∙ t))

      go : Stage p o.image l o.device.payload → (v : ℕ) → v < p.count → Clean p o.image l.written v
      go (resting e mk both) = all_clean inv.frame (record { mark = inv.mark ∙ mk; both = both })
      go (off e h) = other _ e refl
      go (opened t v bs e mk both ld) = all_clean inv.frame (record { mark = inv.mark ∙ mk; both = both })
      go (to_a t bs j hj e mk hb ha ld) = other _ e (moving t _)
      go (to_b t bs j hj e mk sv ha hb ld) = other _ e (moving t _)
      go (mending j hj e mk hs ht) = other _ e refl

  -- in Ready both copies of each unit are what was written last
  pub ready_copies : (l : Ledger) (o : Outcome) → Inv p before l o → l.job ≡ ready
      → (v : ℕ) → v < p.count → (c : Copy) → copy_of p o.image v c ≡ l.written v
  ready_copies l o inv e v hv c =
      copy_is p ok o.image v c (l.written v) hv inv.frame.long (inv.frame.lengths v hv)
      ((still_clean l o inv (ap is_still e) v hv).both c)

  not_ready_lem : (l : Ledger) (o : Outcome) → Inv p before l o → is_ready l.job ≡ false → ¬ (o.device.phase ≡ Ready)
  not_ready_lem l o inv t q =
      true≢false
      (sym (ap (λ ph. is_ready (job_of ph)) q) ∙ ap (λ ph. is_ready (job_of ph)) inv.phase
      ∙ ap is_ready (job_phased (direction l.marker) l.job) ∙ t)

  resumed_still : (l : Ledger) → is_still (ledger.resumed p l) ≡ true
  resumed_still l = go (ledger.standing p l)
    where
      go : (b : Bool) → is_still (cond b (grouping 1 0) ready) ≡ true
      go true = refl
      go false = refl

  -- what the theorem says of a repair, and besides: which record stands after the cleanup is told by the ledger, and the plan stays
  pub record Mended (l : Ledger) (o : Outcome) : Type 0 where
    pub is : Repaired p before l.saved o
    pub stood : record_in p (run (repair is.needed.cleaning) o).image ≡ l.written (last p)
    pub plan : (run (repair is.steps) o).device.plan ≡ p

  -- ---- one wake, the c steps of a cleanup to l₁, and the steps of a record that stands then
  module _ (l : Ledger) (o : Outcome) (inv : Inv p before l o) (pr : Promised p l) (woken : told p l wake ≡ 0)
      (same_saved : (fed p l wake).saved ≡ l.saved) where
    after_repair : (n : ℕ) → after p l (repair n) ≡ after p (fed p l wake) (replicate n step)
    unfolding after
    after_repair n = refl

    tells_repair : (n : ℕ) → tells p l (repair n) ≡ told p l wake ∷ tells p (fed p l wake) (replicate n step)
    unfolding tells
    tells_repair n = refl

    repaired_in : (c : ℕ) → Repairs p o.image c → (l₁ : Ledger) → Mends (fed p l wake) c l₁
        → l₁.job ≡ ledger.resumed p l → l₁.payload ≡ ledger.reloaded p l → l₁.written ≡ l.written → Mended l o
    repaired_in c needed l₁ cleans job payload written =
        let trip = rewrites l₁ (l.written (last p)) l.payload job payload in
        let n : ℕ = c + added p (l.written (last p)) in
        let mends : Mends (fed p l wake) n trip.to = mends_then cleans trip.mends n refl in
        let mid : after p l (repair c) ≡ l₁ = after_repair c ∙ mends_after cleans in
        let tc = along (repair c) l o inv in
        let clean = still_clean (after p l (repair c)) (run (repair c) o) tc.inv
        (ap (λ (x : Ledger). is_still x.job) mid ∙ ap is_still job ∙ resumed_still l) in
        let rec : record_in p (run (repair c) o).image ≡ l.written (last p) =
        copy_is p ok _ (last p) copy_a _ (last_lt p ok) tc.inv.frame.long (tc.inv.frame.lengths (last p) (last_lt p ok))
        ((clean (last p) (last_lt p ok)).both copy_a)
        ∙ ap (λ (x : Ledger). x.written (last p)) mid ∙ ap (λ f. f (last p)) written in
        let t = along (repair n) l o inv in
        let fin : after p l (repair n) ≡ trip.to = after_repair n ∙ mends_after mends in
        let e : (after p l (repair n)).job ≡ ready = ap (λ (x : Ledger). x.job) fin ∙ trip.job in
        let s : (after p l (repair n)).written ≡ l.saved =
        sym (ready_same p (after p l (repair n)) (saved_along (repair n) l o inv pr) e)
        ∙ ap (λ (x : Ledger). x.saved) fin ∙ mends_saved mends ∙ same_saved in
        let all = still_clean (after p l (repair n)) (run (repair n) o) t.inv (ap is_still e) in
        let frame = t.inv.frame in
        let plus : suc n ≡ 1 + n = omega arith in
        record {
          is = record {
            steps = n;
            needed = record { cleaning = c; needed = needed; exactly = ap (λ (x : List ℕ). c + added p x) (sym rec) };
            cleared = pr.zeros;
            accepted = t.answered ∙ tells_repair n ∙ ap₂ ◌∷◌ woken (mends_answers mends) ∙ ap (λ (k : ℕ). replicate {A = ℕ} k 0) plus;
            ready = t.inv.phase ∙ ap (phased (direction (after p l (repair n)).marker)) e;
            not_earlier = λ j h. not_ready_lem (after p l (repair j)) _ (along (repair j) l o inv).inv
                (ap (λ (x : Ledger). is_ready x.job) (after_repair j) ∙ mends_not_earlier mends j h);
            markers = λ v hv. (all v hv).mark;
            copies = λ v hv c.
                copy_is p ok _ v c _ hv frame.long (frame.lengths v hv) ((all v hv).both c) ∙ ap (λ f. f v) s;
            rest = frame.rest;
            size = frame.size;
          };
          stood = rec;
          plan = t.inv.plan;
        }

  -- ---- what the closing cut left is repaired
  pub mended : (l : Ledger) (o : Outcome) → Inv p before l o → Promised p l → l.job ≡ cold → l.marker ≤ 7 → Mended l o
  unfolding told accepted
  mended l o inv pr job small = go (same l.marker OK)
    where
      woken : told p l wake ≡ 0
      woken = wake_cold (judged p l) ok refl job (none_foreign p l small p.count)

      is : fed p l wake ≡ accepted p l wake
      is = fed_accepted l wake woken

      others : (v : ℕ) → v < p.count → ¬ (v ≡ l.unit) → get p o.image v marker ≡ OK
      others v hv h = (inv.frame.others v hv h).mark

      go : Same l.marker OK → Mended l o
      go (equal q) =
          let l₁ : Ledger = ledger.noted l (ledger.resumed p l) (ledger.reloaded p l) in
          let to : fed p l wake ≡ l₁ = is ∙ rw (eq-eqb l.marker OK q) in
          repaired_in l o inv pr woken (ap (λ (x : Ledger). x.saved) to) 0
          (none (λ v hv. elim (same v l.unit) [ equal x ↦ rw x (inv.mark ∙ q) | differ x ↦ others v hv x ]))
          l₁ (subst (λ (x : Ledger). Mends x 0 l₁) (sym to) done) refl refl refl
      go (differ q) =
          let u : ℕ = l.unit in
          let l₀ : Ledger = ledger.noted l (recovering u 0) l.payload in
          let to : fed p l wake ≡ l₀ = is ∙ rw (ne_eqb l.marker OK q) in
          let plus : suc (width p u) ≡ 1 + width p u = omega arith in
          let mends : Mends (fed p l wake) (suc (width p u)) (settled l₀ u) =
          subst (λ (x : Ledger). Mends x (suc (width p u)) (settled l₀ u)) (sym to)
          (mends_unit u inv.frame.unit (width p u) 0 l₀ refl (omega arith)) in
          repaired_in l o inv pr woken (ap (λ (x : Ledger). x.saved) to) (1 + width p u)
          (only u inv.frame.unit (rw inv.mark q) others) (settled l₀ u) (rw plus at mends) refl refl refl

  survives : (f : Outcome) → Inv p before (opening p) f → (cs : List Call) (bytes : List ℕ) → Closes bytes cs f
      → Survives p before f bytes cs
  survives f inv cs bytes e =
      let t = along (closed_by bytes cs) (opening p) f inv in
      record {
        answered = t.answered;
        repaired = (mended _ _ t.inv (saved_along (closed_by bytes cs) (opening p) f inv (promise_opens p ok))
            (ends_cold cs bytes (opening p) f inv e) (ledger_small p (closed_by bytes cs))).is;
      }

  -- ---- Ticket 4: the image has the ledger's markers
  image_small : (f : Outcome) → Inv p before (opening p) f → (cs : List Call)
      → (v : ℕ) → v < p.count → get p (run cs f).image v marker ≤ 7
  image_small f inv cs v hv =
      let i = (along cs (opening p) f inv).inv in
      elim (same v (after p (opening p) cs).unit) [
        | equal e ↦ rw (e, i.mark) (ledger_small p cs)
        | differ e ↦ rw (i.frame.others v hv e).mark (omega arith)
      ]

-- ---- the theorem
pub accepts : (n : ℕ) (d : Device) (image : List ℕ) (o : Outcome) → (calls.unless_refused n d image o).number ≡ 0 → n ≡ 0
accepts zero d image o e = refl
accepts (suc n) d image o e = e

pub format_opens : (d : Device) (image : List ℕ) → (calls.format d image).number ≡ 0
    → PlanOk d.plan × Inv d.plan image (opening d.plan) (calls.format d image)
unfolding calls.format
format_opens d image e =
    let n : ℕ = format_number (view d image) in
    let z : n ≡ 0 = accepts n d image (outcome 0 (as_formatted d) (formatted d.plan image)) e in
    let h = format_says (view d image) z in
    let f : Outcome = outcome 0 (as_formatted d) (formatted d.plan image) in
    let long : total d.plan ≤ length image = ltb-false (length image) (total d.plan) h.1 in
    (h.0, rw z (opens d.plan image f h.0 long refl refl refl))

pub power_cut : PowerCut
power_cut d image e =
    let h = format_opens d image e in
    survives d.plan h.0 image (calls.format d image) h.1

pub cut_accepted_exactly : CutAccepted
cut_accepted_exactly d image e cs bytes =
    let h = format_opens d image e in
    cut_accepted d.plan h.0 image cs bytes (opening d.plan) (calls.format d image) h.1

-- what is saved after any list
pub saved_before : (d : Device) (image : List ℕ) → (calls.format d image).number ≡ 0 → (cs : List Call)
    → Promised d.plan (after d.plan (opening d.plan) cs)
saved_before d image e cs =
    let h = format_opens d image e in
    saved_along d.plan h.0 image cs (opening d.plan) (calls.format d image) h.1 (promise_opens d.plan h.0)

pub never_foreign : NeverForeign
never_foreign d image e cs bytes n =
    let h = format_opens d image e in
    image_small d.plan h.0 image (calls.format d image) h.1 (take n (closed_by bytes cs))

start_accepts : (p : Plan) → (calls.start p).number ≡ 0 → (start_number p ≡ 0) × ((calls.start p).device ≡ as_started p)
unfolding calls.start
start_accepts p e = go (start_number p) e
  where
    go : (n : ℕ) → (calls.start_answer n p).number ≡ 0 → (n ≡ 0) × ((calls.start_answer n p).device ≡ as_started p)
    go zero q = (refl, refl)
    go (suc n) q = absurd (omega arith)

pub formats : (p : Plan) (image : List ℕ) → PlanOk p → total p ≤ length image → (calls.format (as_started p) image).number ≡ 0
unfolding calls.format
formats p image ok h =
    rw (format_cold (view (as_started p) image) ok (le-ltb (length image) (total p) h) refl)

pub power_cut_from_start : PowerCutFromStart
power_cut_from_start p image e h =
    let t = start_accepts p e in
    let z = formats p image (start_says p t.0) h in
    rw t.1 (z, power_cut (as_started p) image z)
