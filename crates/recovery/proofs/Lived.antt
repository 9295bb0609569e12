-- What a console lives through: the calls of `until_cut`, `come_back` and `outage`, put together into the power-cut theorem.
use Prim.Native.Nat.{ℕ, zero, suc, ◌+◌, ◌-◌, ◌*◌, ◌≤◌, ◌<◌}
use mathlib.Core.Path.{◌≡◌, refl, ap, sym, ◌∙◌, subst}
use mathlib.Core.List.{List, [], ◌∷◌, ◌++◌}
use mathlib.Core.Bool.{Bool, true, false, cond}
use native.Mathlib.Omega.{arith}
use lib.Dec.{eqb}
use lib.ListN.{length, replicate}
use borrow.Author.Tests.{eq-eqb, ne_eqb, lt-ltb, le-ltb}
use Rattle.model.specs.declared.Plan.{Plan}
use Rattle.model.specs.declared.Phase.TheVariants.{Ready}
use Rattle.model.specs.Marker.{OK}
use Rattle.model.specs.Plans.{bad_count, bad_widths}
use Rattle.model.specs.Layout.{copy_a, width, total}
use Rattle.model.specs.Groups.{Write, last, padded, given, stands, remaining, writes}
use Rattle.model.specs.Turns.{amount}
use Rattle.model.specs.Refusals.{step_number}
use Rattle.model.specs.Calls.{Device, Outcome, outcome, as_started, job_of, view, most_stores, counted}
use Rattle.model.specs.Calls as calls
use Rattle.model.specs.Ledger.{Ledger, Call, step, cut, opening, after}
use Rattle.model.specs.PowerCut.{call, run, answers, closed_by, Closes, repair, Repairs, none, only, stores_of, added}
use Rattle.model.specs.Steps.{steps}
use Rattle.model.specs.Restart.{restarted, Leads, ended, called, lost}
use Rattle.model.proofs.Compare.{equal, differ, same}
use Rattle.model.proofs.RefusalLaws.{PlanOk, fits_page, count_bounds, width_bounds, step_ready}
use Rattle.model.proofs.GroupLaws.{All, nil, cons, last_lt, given_says, stands_given, remaining_all}
use Rattle.model.proofs.Records.{given_told, writes_count}
use Rattle.model.proofs.Invariant.{Inv}
use Rattle.model.proofs.Demands.{every_call}
use Rattle.model.proofs.Theorem.{accepts, along, format_opens, formats, cut_accepted_exactly}
use Rattle.model.proofs.Restart.{starts, mended_restarting}
use Rattle.model.proofs.InARow.{steps_run}
use Rattle.model.proofs.Totals.{turns_saved}
use Rattle.model.proofs.Paid.{cents_saved}
use Rattle.store.specs.declared.Answer.{Answer}
use Rattle.store.specs.Modelled.{modelled, Gives, Starts}
use Rattle.recovery.specs.Outage.{Fits, Restored}
use Rattle.recovery.proofs.Laws.{same_call, gave, gives_as}

-- ---- up to the cut
run_snoc : (cs : List Call) (c : Call) (o : Outcome) → run (cs ++ (c ∷ [])) o ≡ call c (run cs o)
unfolding run
run_snoc [] c o = refl
run_snoc (x ∷ cs) c o = run_snoc cs c (call x o)

any_number : (cs : List Call) (page : List ℕ) (n : ℕ) (d : Device) (image : List ℕ)
    → run (closed_by page cs) (outcome 0 d image) ≡ run (closed_by page cs) (outcome n d image)
unfolding run
any_number [] page n d image = sym (same_call (cut page) n d image)
any_number (c ∷ cs) page n d image = ap (run (closed_by page cs)) (sym (same_call c n d image))

-- the answers of start, format, replay and cut, and the images that they left
pub cut_off : (p : Plan) (before : List ℕ) (cs : List Call) (page : List ℕ) (s f q t : Answer) (i j left : List ℕ) → Starts s (calls.start p)
    → Gives f i (calls.format (modelled s.device) before) → Gives q j (run cs (outcome 0 (modelled f.device) i))
    → Gives t left (calls.cut (modelled q.device) j page)
    → left ≡ (run (closed_by page cs) (calls.format (calls.start p).device before)).image
unfolding call
cut_off p before cs page s f q t i j left hs hf hq ht =
    ht.image ∙ ap (λ (o : Outcome). (call (cut page) o).image) (gave hq)
    ∙ ap (λ (o : Outcome). o.image)
    (sym (run_snoc cs (cut page) _) ∙ any_number cs page f.number _ _
    ∙ ap (run (closed_by page cs)) (gave hf ∙ ap (λ (d : Device). calls.format d before) hs.device))

-- ---- after it: s, w and r are the answers of start, wake and the steps
pub came_back : (p : Plan) (image : List ℕ) (n : ℕ) (s w r : Answer) (left : List ℕ) → Starts s (calls.start p)
    → Gives w image (calls.wake (modelled s.device) image) → Gives r left (steps n (modelled w.device) image)
    → calls.start p ≡ record { number = 0; device = as_started p } → (calls.wake (as_started p) image).number ≡ 0
    → Gives r left (run (repair n) (outcome 0 (as_started p) image))
unfolding run call
came_back p image n s w r left hs hw hr started woke =
    let W : Outcome = calls.wake (as_started p) image in
    let woken : Gives w image W =
    gives_as (ap (λ (d : Device). calls.wake d image) (hs.device ∙ ap (λ (a : calls.Answer). a.device) started)) hw in
    let from : outcome 0 (modelled w.device) image ≡ W =
    ap (λ (a : ℕ). outcome a (modelled w.device) image) (sym (woken.number ∙ woke)) ∙ gave woken in
    gives_as (steps_run n (modelled w.device) image ∙ ap (run (replicate n step)) from) hr

-- a Ready device refuses every further step
run_more : (n m : ℕ) (o : Outcome) → run (replicate (n + m) step) o ≡ run (replicate m step) (run (replicate n step) o)
unfolding run
run_more zero m o = ap (λ (k : ℕ). run (replicate k step) o) {x = 0 + m} {y = m} (omega arith)
run_more (suc n) m o =
    ap (λ (k : ℕ). run (replicate k step) o) {x = suc n + m} {y = suc (n + m)} (omega arith) ∙ run_more n m (call step o)

module _ (o : Outcome) (ok : PlanOk o.device.plan) (long : total o.device.plan ≤ length o.image) (ready : o.device.phase ≡ Ready) where
  five : step_number (view o.device o.image) ≡ 5
  five = step_ready (view o.device o.image) ok (le-ltb (length o.image) (total o.device.plan) long) (ap job_of ready)

  stopped : call step o ≡ outcome 5 o.device o.image
  unfolding call calls.step
  stopped = rw five

  pub stays : (m : ℕ) → 0 < m → run (replicate m step) o ≡ outcome 5 o.device o.image
  unfolding run
  stays zero h = absurd (omega arith)
  stays (suc zero) h = stopped
  stays (suc (suc m)) h =
      ap (λ (x : Outcome). run (replicate m step) (call step x)) stopped
      ∙ ap (run (replicate m step)) (same_call step 5 o.device o.image ∙ sym (same_call step o.number o.device o.image))
      ∙ stays (suc m) (omega arith)

-- ---- the whole
fits_ok : (p : Plan) (image : List ℕ) → Fits p image → PlanOk p
unfolding bad_count bad_widths
fits_ok p image f =
    record {
      count = rw (ne_eqb p.count 0 (λ e. absurd (omega (arith, f.count.0))), le-ltb 8 p.count f.count.1);
      widths = go p.count (omega arith);
      page = fits_page p f.page;
    }
  where
    go : (n : ℕ) → n ≤ p.count → bad_widths p.widths n ≡ false
    go zero h = refl
    go (suc n) h =
        let w = f.widths n (omega arith) in
        rw (go n (omega arith), ne_eqb (width p n) 0 (λ e. absurd (omega (arith, w.0))), le-ltb 256 (width p n) (omega (arith, w.1)))

leads : (p : Plan) (cs : List Call) (page : List ℕ) (o : Outcome) → Closes page cs o
    → Leads p (closed_by page cs) o (restarted p (run (closed_by page cs) o))
unfolding run
leads p [] page o fine = lost fine ended
leads p (c ∷ cs) page o fine = called (leads p cs page (call c o) fine)

-- the ledger tells the steps of the cleanup
told_steps : (p : Plan) (before : List ℕ) (l : Ledger) (o : Outcome) → Inv p before l o → {n : ℕ} → Repairs p o.image n
    → n ≡ cond (eqb l.marker OK) 0 (1 + width p l.unit)
told_steps p before l o inv (none h) = rw (eq-eqb l.marker OK (sym inv.mark ∙ h l.unit inv.frame.unit))
told_steps p before l o inv (only u hu bad others) =
    elim (same u l.unit) [
      | equal e ↦ rw (ne_eqb l.marker OK (λ q. bad (rw e (inv.mark ∙ q))), e)
      | differ e ↦ absurd (bad (inv.frame.others u hu e).mark)
    ]

-- steps that are all accepted are all counted
one_more : (d : Device) (image : List ℕ) → (calls.step d image).number ≡ 0 → d.stores < most_stores
    → (calls.step d image).device.stores ≡ suc d.stores
unfolding calls.step counted
one_more d image e h =
    let z : step_number (view d image) ≡ 0 = accepts (step_number (view d image)) d image _ e in
    rw (z, lt-ltb d.stores most_stores h)

all_counted : (n : ℕ) (o : Outcome) → o.number ≡ 0 → answers (replicate n step) o ≡ replicate n 0 → o.device.stores + n ≤ most_stores
    → ((run (replicate n step) o).number ≡ 0) × ((run (replicate n step) o).device.stores ≡ o.device.stores + n)
unfolding answers run call
all_counted zero o z e h = (z, omega arith)
all_counted (suc n) o z e h =
    let one = one_more o.device o.image (cc) (omega arith) in
    let all = all_counted n (calls.step o.device o.image) (cc) (cc) (omega (arith, one)) in
    (all.0, all.1 ∙ omega (arith, one))

-- a cleanup has 257 steps at most, and a record that stands adds 515 for each of four members and itself
few : (p : Plan) → PlanOk p → (image : List ℕ) {n : ℕ} → Repairs p image n → n ≤ 257
few p ok image (none h) = omega arith
few p ok image (only u hu bad others) = omega (arith, (width_bounds p ok u hu).1)

stores_few : (p : Plan) → PlanOk p → {xs : List Write} → All p xs → stores_of p xs ≤ 515 * length xs
unfolding stores_of
stores_few p ok nil = omega arith
stores_few p ok (cons {x = x} {xs = xs} h r) = omega (arith, stores_few p ok r, (width_bounds p ok x.unit h.unit).1)

added_few : (p : Plan) → PlanOk p → (bytes : List ℕ) → added p bytes ≤ 2575
unfolding added writes
added_few p ok bytes = go (stands p bytes) refl
  where
    go : (t : Bool) → stands p bytes ≡ t → cond (stands p bytes) (stores_of p (remaining p (padded bytes))) 0 ≤ 2575
    go false e = rw e (omega arith)
    go true e =
        let v : given p (padded bytes) ≡ true = sym (stands_given p bytes) ∙ e in
        let t = given_told p ok (padded bytes) v in
        rw e
        (omega (
          arith,
          stores_few p ok (remaining_all p ok (padded bytes) (given_says p (padded bytes) v)),
          writes_count p ok t.gives,
          t.gives.is_group.most,
        ))

zeros : (n : ℕ) {x : ℕ} {xs : List ℕ} → x ∷ xs ≡ replicate (1 + n) 0 → (x ≡ 0) × (xs ≡ replicate n 0)
zeros n e = let plus : 1 + n ≡ suc n = omega arith in let q = rw plus at e in (cc, cc)

-- j is the image that `until_cut` left, r and `left` are what `come_back` made of it with k steps, of which some are too many
pub restored : (p : Plan) (before : List ℕ) (cs : List Call) (page j left : List ℕ) (r : Answer) (k : ℕ) → 2832 < k → k ≤ most_stores
    → j ≡ (run (closed_by page cs) (calls.format (calls.start p).device before)).image
    → (calls.start p ≡ record { number = 0; device = as_started p } → (calls.wake (as_started p) j).number ≡ 0
    → Gives r left (run (repair k) (outcome 0 (as_started p) j)))
    → Fits p before → length page ≡ p.page → Restored p before (closed_by page cs) r left
unfolding answers run call
restored p before cs page j left r k many most e back fits full =
    let ok = fits_ok p before fits in
    let started = starts p ok in
    let F : Outcome = calls.format (as_started p) before in
    let z : F.number ≡ 0 = formats p before ok fits.long in
    let closes = (cut_accepted_exactly (as_started p) before z cs page).0 full in
    let o : Outcome = run (closed_by page cs) F in
    let is : j ≡ o.image = e ∙ ap (λ (a : calls.Answer). (run (closed_by page cs) (calls.format a.device before)).image) started in
    let h = rw started at (mended_restarting (as_started p) before z cs page (restarted p o) closes (leads p cs page F closes)) in
    let n : ℕ = h.is.steps in
    let W : Outcome = calls.wake (as_started p) o.image in
    let X : Outcome = run (replicate n step) W in
    let woke : W.number ≡ 0 = (zeros n h.is.accepted).0 in
    let bytes : List ℕ = (after p (opening p) (closed_by page cs)).written (last p) in
    let cleaning : ℕ = h.is.needed.cleaning in
    let exactly : n ≡ cleaning + added p bytes = h.is.needed.exactly ∙ ap (λ (x : List ℕ). cleaning + added p x) h.stood in
    let least : n ≤ 2832 = omega (arith, few p ok o.image h.is.needed.needed, added_few p ok bytes) in
    let fresh : W.device.stores ≡ 0 = ((every_call (as_started p) o.image).wake.accepted woke).stores in
    let made = all_counted n W woke (zeros n h.is.accepted).1 (omega (arith, fresh)) in
    let over : run (replicate k step) W ≡ outcome 5 X.device X.image =
    ap (λ (i : ℕ). run (replicate i step) W) {x = k} {y = n + (k - n)} (omega arith) ∙ run_more n (k - n) W
    ∙ stays X (subst PlanOk (sym h.plan) ok) (subst (λ (q : Plan). total q ≤ length X.image) (sym h.plan) (omega (arith, h.is.size, fits.long))) h.is.ready (k - n) (omega arith) in
    let g = gives_as over ((rw is at back) started woke) in
    let inv = (along p ok before (closed_by page cs) (opening p) F (format_opens (as_started p) before z).1).inv in
    record {
      number = g.number;
      phase = ap (λ (d : Device). d.phase) g.device ∙ h.is.ready;
      steps = ap (λ (d : Device). d.stores) g.device ∙ made.1
          ∙ omega (arith, fresh, told_steps p before _ o inv h.is.needed.needed);
      markers = rw g.image h.is.markers;
      copies = rw g.image h.is.copies;
      cleared = λ q c. rw g.image (h.is.copies (last p) (last_lt p ok) c) ∙ h.is.cleared q;
      turns = λ q.
          ap amount (rw g.image (h.is.copies 0 (count_bounds p ok).0 copy_a))
          ∙ turns_saved p ok before F (format_opens (as_started p) before z).1 (closed_by page cs) q;
      cents = λ q two.
          ap amount (rw g.image (h.is.copies 1 two copy_a))
          ∙ cents_saved p ok before F (format_opens (as_started p) before z).1 (closed_by page cs) q;
      rest = rw g.image h.is.rest;
      size = rw g.image h.is.size;
    }
