-- THE POWER-CUT THEOREM FOR A CONSOLE THAT LOSES ITS RAM, proved: what start gives and what a cut leaves differ in the count of stores
-- alone, no call looks at the count, and neither does the invariant.
use Prim.Native.Nat.{ℕ, zero, suc}
use mathlib.Core.Path.{◌≡◌, refl, ap, sym, ◌∙◌, subst}
use mathlib.Core.List.{List}
use lib.ListN.{length}
use Rattle.model.specs.declared.Plan.{Plan}
use Rattle.model.specs.Marker.{completed, torn_by}
use Rattle.model.specs.Groups.{payload_of}
use Rattle.model.specs.Refusals.{start_number, begin_number, ride_number, group_number, paid_number, step_number, wake_number, cut_number}
use Rattle.model.specs.Turns.{plus}
use Rattle.model.specs.Calls.{Device, Outcome, outcome, as_started, as_begun, as_grouped, paid_in, step_from, wake_from, as_cut, padded, held_in, view, image_after, cleanup_from}
use Rattle.model.specs.Calls as calls
use Rattle.model.specs.Ledger.{Ledger, Call, begin, ride, group, paid, step, cut, wake, opening, told, fed, after}
use Rattle.model.specs.PowerCut.{call, run, closed_by, Closes}
use Rattle.model.specs.Restart.{restarted, Leads, ended, called, lost, uncounted, PowerCutRestarting, RestartingAlike}
use Rattle.model.proofs.RefusalLaws.{PlanOk, start_fine}
use Rattle.model.proofs.LedgerLaws.{ledger_small}
use Rattle.model.proofs.Invariant.{Inv}
use Rattle.model.proofs.Keeps.{keeps}
use Rattle.model.proofs.Theorem.{accepts, along, ends_cold, Mended, mended, format_opens, saved_before}

-- ---- no call's number, phase, payload or image depends on the count
settle : (n : ℕ) (o : Outcome) (f : Device → Outcome) → uncounted (f (uncounted o).device) ≡ uncounted (f o.device)
    → uncounted (calls.unless_refused n (uncounted o).device o.image (f (uncounted o).device))
    ≡ uncounted (calls.unless_refused n o.device o.image (f o.device))
settle zero o f e = e
settle (suc n) o f e = refl

count_alone : (c : Call) (o : Outcome) → uncounted (call c (uncounted o)) ≡ uncounted (call c o)
unfolding call calls.begin calls.ride calls.group calls.paid_ride calls.step calls.cut calls.wake image_after
count_alone (begin role u payload) o =
    settle (begin_number (view o.device o.image) role u (length payload)) o (λ d. outcome 0 (as_begun u (padded payload) d) o.image) refl
count_alone (ride turns) o =
    settle (ride_number (view o.device o.image) (held_in o.device o.image 0) turns) o
    (λ d. outcome 0 (as_begun 0 (padded (plus (held_in d o.image 0) turns)) d) o.image) refl
count_alone (group g) o =
    settle (group_number (view o.device o.image) g) o (λ d. outcome 0 (as_grouped (payload_of d.plan g) d) o.image) refl
count_alone (paid turns) o =
    settle (paid_number (view o.device o.image) (held_in o.device o.image 0) (held_in o.device o.image 1) turns) o
    (λ d. outcome 0 (as_grouped (payload_of d.plan (paid_in d o.image turns)) d) o.image) refl
count_alone step o =
    settle (step_number (view o.device o.image)) o
    (λ d. let i = image_after completed d o.image in outcome 0 (step_from d i) i) refl
count_alone (cut bytes) o =
    settle (cut_number (view o.device o.image) (length bytes)) o
    (λ d. outcome 0 (as_cut d) (image_after (torn_by bytes) d o.image)) refl
count_alone wake o =
    settle (wake_number (view o.device o.image)) o (λ d. outcome 0 (wake_from d o.image (cleanup_from d.plan o.image 0)) o.image) refl

alike : (c : Call) (o o' : Outcome) → uncounted o' ≡ uncounted o → uncounted (call c o') ≡ uncounted (call c o)
alike c o o' e = sym (count_alone c o') ∙ ap (λ (x : Outcome). uncounted (call c x)) e ∙ count_alone c o

-- ---- a start after an accepted cut
pub starts : (p : Plan) → PlanOk p → calls.start p ≡ record { number = 0; device = as_started p }
unfolding calls.start start_number
starts p ok = rw (start_fine p ok)

module _ (p : Plan) (ok : PlanOk p) (before : List ℕ) where
  cut_restarted : (o : Outcome) (bytes : List ℕ) → o.device.plan ≡ p → (call (cut bytes) o).number ≡ 0
      → restarted p (call (cut bytes) o) ≡ uncounted (call (cut bytes) o)
  unfolding call calls.cut
  cut_restarted o bytes plan e =
      let z : cut_number (view o.device o.image) (length bytes) ≡ 0 = accepts _ _ _ _ e in
      rw (starts p ok, z) (ap (λ (q : Plan). outcome 0 (as_started q) (image_after (torn_by bytes) o.device o.image)) (sym plan))

  -- ---- along a list: o is what it comes to without a start, o' what it comes to with some
  alike_along : {cs : List Call} {o' end : Outcome} → Leads p cs o' end → (l : Ledger) (o : Outcome) → Inv p before l o
      → uncounted o' ≡ uncounted o → uncounted end ≡ uncounted (run cs o)
  unfolding run fed told
  alike_along ended l o inv e = e
  alike_along {o' = o'} (called {c = c} t) l o inv e =
      alike_along t (fed p l c) (call c o) (keeps p ok before l o inv c).kept (alike c o o' e)
  alike_along {o' = o'} (lost {bytes = bytes} fine t) l o inv e =
      alike_along t (fed p l (cut bytes)) (call (cut bytes) o) (keeps p ok before l o inv (cut bytes)).kept
      (ap uncounted (cut_restarted o' bytes (ap (λ (x : Outcome). x.device.plan) e ∙ inv.plan) fine) ∙ alike (cut bytes) o o' e)

  -- ---- the invariant holds with any count
  abbrev counting : ℕ → Outcome → Outcome
  counting n o =
      outcome o.number
      (record { plan = o.device.plan; payload = o.device.payload; phase = o.device.phase; stores = n })
      o.image

  inv_alike : (l : Ledger) (o o' : Outcome) → uncounted o' ≡ uncounted o → Inv p before l o → Inv p before l o'
  inv_alike l o o' e i =
      subst (λ (x : Outcome). Inv p before l (counting o'.device.stores x)) (sym e)
      (record { plan = i.plan; phase = i.phase; frame = i.frame; mark = i.mark; stage = i.stage })

pub restarting_alike : RestartingAlike
restarting_alike d image e cs end t =
    let h = format_opens d image e in
    alike_along d.plan h.0 image t (opening d.plan) (calls.format d image) h.1 refl

pub mended_restarting : (d : Device) (image : List ℕ) (e : (calls.format d image).number ≡ 0) (cs : List Call) (bytes : List ℕ) (end : Outcome)
    → Closes bytes cs (calls.format d image) → Leads d.plan (closed_by bytes cs) (calls.format d image) end
    → Mended d.plan (format_opens d image e).0 image (after d.plan (opening d.plan) (closed_by bytes cs)) end
mended_restarting d image e cs bytes end closes t =
    let h = format_opens d image e in
    let p : Plan = d.plan in
    let f : Outcome = calls.format d image in
    let i = (along p h.0 image (closed_by bytes cs) (opening p) f h.1).inv in
    mended p h.0 image _ end
    (inv_alike p h.0 image _ (run (closed_by bytes cs) f) end (restarting_alike d image e (closed_by bytes cs) end t) i)
    (saved_before d image e (closed_by bytes cs))
    (ends_cold p h.0 image cs bytes (opening p) f h.1 closes)
    (ledger_small p (closed_by bytes cs))

pub power_cut_restarting : PowerCutRestarting
power_cut_restarting d image e cs bytes end closes t = (mended_restarting d image e cs bytes end closes t).is
