-- Each call keeps the invariant and answers what the ledger tells.
-- A step and a cut end the same store, completed or torn, so each of the seven kinds of store is gone through once, for both.
use Prim.Native.Nat.{ℕ, zero, suc, ◌+◌, ◌-◌, ◌<◌, ◌≤◌}
use mathlib.Core.Path.{◌≡◌, refl, ap, sym, ◌∙◌, subst, subst₂, ap₂}
use mathlib.Core.List.{List}
use mathlib.Core.Option.{some}
use mathlib.Core.Bool.{Bool, true, false, cond, true≢false}
use native.Mathlib.Omega.{arith}
use lib.ListN.{length, get_or, replicate, get_or-append}
use borrow.Author.Tests.{eq-eqb, ne_eqb, le-ltb}
use Rattle.model.specs.declared.Plan.{Plan}
use Rattle.model.specs.declared.Direction.{Direction}
use Rattle.model.specs.declared.Direction.TheVariants.{AToB}
use Rattle.model.specs.declared.Phase.{Phase}
use Rattle.model.specs.declared.Phase.TheVariants.{Writing, Recovering, Ready, Grouping}
use Rattle.model.specs.Marker.{OK, A, B, direction, End, completed, torn_by, marker_left}
use Rattle.model.specs.Layout.{copy_a, copy_b, marker, byte, width, total, get}
use Rattle.model.specs.Refusals.{Job, is_cold, is_ready, write_total, step_number, bad_job}
use Rattle.model.specs.Refusals as refusals
use Rattle.model.specs.Stores.{Store, store, source, target, stored}
use Rattle.model.specs.Turns.{plus}
use Rattle.model.specs.Prices.{paid_group}
use Rattle.model.specs.Calls.{Device, Outcome, outcome, padded, held_in, as_begun, as_stepped, as_woken, as_cut, view, job_of, next, image_after, phase_after, cleanup_from, as_grouped, paid_in, step_from, wake_from, payload_after, record_in, resumes, resumed, reloaded}
use Rattle.model.specs.Calls as calls
use Rattle.model.specs.Ledger.{Ledger, Call, begin, ride, step, cut, wake, marker_of, judged, told, saving, accepted, group, paid, saving_all}
use Rattle.model.specs.Ledger as ledger
use Rattle.model.specs.PowerCut.{call}
use Rattle.model.proofs.Compare.{below, above, order, Same, equal, differ, same}
use Rattle.model.proofs.RefusalLaws.{PlanOk, count_bounds, Alike, step_alike, cut_alike, wake_alike, begin_alike, step_cold, step_ready, wake_says, begin_says, Began}
use Rattle.model.proofs.LayoutLaws.{Near, stored_near, stored_marker, copy_is}
use Rattle.model.proofs.MarkerLaws.{torn_a_to_b, direction_a, direction_other}
use Rattle.model.proofs.StoreLaws.{next_a, next_to_a, next_b, next_to_b, next_ok, next_copy, next_settle, next_task, task_goes_on, task_ends, cleanup_goes_on, cleanup_ends, none_found, lowest_found, task_holds, cleanup_holds, cleanup_loads}
use Rattle.model.proofs.LedgerLaws.{at, noted, then, decides, own_marker, saving_same, notes_a, notes_byte, notes_b, notes_ok, notes_copy, notes_settle}
use Rattle.model.proofs.TurnLaws.{ride_alike, ride_began}
use Rattle.model.proofs.PaidLaws.{paid_says, paid_alike}
use Rattle.model.proofs.Tasks.{Task, alone, job_at, phase_at, task_write, follows, phased_task, part, counts_for, phased_cond}
use Rattle.model.proofs.Invariant.{Has, Whole, Both, Clean, Frame, Safe, twice, once, Loaded, Starts, still, loaded_follows, follows_starts, Stage, resting, off, opened, to_a, to_b, mending, phased, job_phased, Inv, source_off_target, both_of, whole_near, frame_near, has_more, all_clean, frame_to, frame_saving, loaded_fine, part_loaded, resumed_starts}
use Rattle.model.specs.Groups.{write, last, padded, payload_of, write_at}
use Rattle.model.proofs.GroupLaws.{Grouped, group_says, group_alike, given_is, part_fine, last_lt, writes_more}

module _ (p : Plan) (ok : PlanOk p) (before : List ℕ) (l : Ledger) (o : Outcome) (inv : Inv p before l o) where
  abbrev d : Device
  d = o.device

  abbrev image : List ℕ
  image = o.image

  -- the unit last written, its width and its written bytes
  abbrev u : ℕ
  u = l.unit

  abbrev w : ℕ
  w = width p l.unit

  abbrev f : List ℕ
  f = l.written l.unit

  abbrev frame : Frame p before o.image l.written l.unit
  frame = inv.frame

  -- the ledger's marker of every unit is the image's
  marker_agrees : (v : ℕ) → v < p.count → get p image v marker ≡ marker_of l v
  unfolding marker_of
  marker_agrees v h =
      elim (same v u) [
        | equal e ↦ rw (eq-eqb v u e) (rw e inv.mark)
        | differ e ↦ rw (ne_eqb v u e) (frame.others v h e).mark
      ]

  -- ---- the next store, completed by a step or torn by a cut
  abbrev ended : End → Outcome
  ended completed =
      outcome 0 (step_from d (image_after completed d image)) (image_after completed d image)
  ended (torn_by bytes) = outcome 0 (as_cut d) (image_after (torn_by bytes) d image)

  abbrev Kept : End → Type 0
  Kept e = Inv p before (noted p l e) (ended e)

  -- a step from a phase, whose store left an image, goes on with job j, and the device then holds a payload
  record Goes (from : Phase) (left : List ℕ) (way : Direction) (j : Job) (held : List ℕ) : Type 0 where
    pub phase : phase_after p d.payload left from ≡ phased way j
    pub payload : payload_after p d.payload left from ≡ held

  -- after it: the ledger is at job j, or Cold, with unit v last written, its marker mk and the written bytes sv
  module _ (s : Store) (phase : Phase) (v : ℕ) (j : Job) {pay : End → List ℕ} (mk : End → ℕ)
      (sv : End → ℕ → List ℕ) {pr : End → ℕ → List ℕ} (is : d.phase ≡ phase) (comes : next p d.payload image phase ≡ some s)
      (notes : (e : End) → noted p l e ≡ at (then e j) (pay e) v (mk e) (sv e) (pr e)) where
    image_is : (e : End) → image_after e d image ≡ stored p image e (some s)
    unfolding image_after
    image_is e = rw (inv.plan, is, comes)

    step_is : ended completed
        ≡ outcome 0
        (as_stepped (phase_after p d.payload (stored p image completed (some s)) phase)
        (payload_after p d.payload (stored p image completed (some s)) phase) d)
        (stored p image completed (some s))
    step_is = rw (image_is completed, is, inv.plan)

    cut_is : (bytes : List ℕ) → ended (torn_by bytes) ≡ outcome 0 (as_cut d) (stored p image (torn_by bytes) (some s))
    cut_is bytes = rw (image_is (torn_by bytes))

    by_store : {held : List ℕ} → Goes phase (stored p image completed (some s)) (direction (mk completed)) j held
        → ((e : End) → Frame p before (stored p image e (some s)) (sv e) v)
        → ((e : End) → get p (stored p image e (some s)) v marker ≡ mk e)
        → Stage p (stored p image completed (some s)) (at j (pay completed) v (mk completed) (sv completed) (pr completed)) held
        → ((e : End) → Safe p (stored p image e (some s)) v (mk e) (sv e v))
        → (e : End) → Kept e
    by_store goes fr mark stage safe completed =
        subst₂ (λ (x : Ledger) (y : Outcome). Inv p before x y) (sym (notes completed)) (sym step_is)
        (record {
          plan = inv.plan;
          phase = goes.phase;
          frame = fr completed;
          mark = mark completed;
          stage = subst (Stage p (stored p image completed (some s)) (at j (pay completed) v (mk completed) (sv completed) (pr completed)))
              (sym goes.payload) stage;
        })
    by_store goes fr mark stage safe (torn_by bytes) =
        subst₂ (λ (x : Ledger) (y : Outcome). Inv p before x y) (sym (notes (torn_by bytes))) (sym (cut_is bytes))
        (record {
          plan = inv.plan;
          phase = refl;
          frame = fr (torn_by bytes);
          mark = mark (torn_by bytes);
          stage = off refl (safe (torn_by bytes));
        })

  phase_is : (j : Job) → l.job ≡ j → d.phase ≡ phased (direction l.marker) j
  phase_is j e = inv.phase ∙ ap (phased (direction l.marker)) e

  -- a store of unit u: its own marker is the ledger's
  own : {x : Ledger} (j : Job) (pay : List ℕ) (mk : ℕ → ℕ) (sv pr : ℕ → ℕ → List ℕ)
      → x ≡ at j pay u (mk (marker_of l u)) (sv (marker_of l u)) (pr (marker_of l u))
      → x ≡ at j pay u (mk l.marker) (sv l.marker) (pr l.marker)
  own j pay mk sv pr e = e ∙ ap (λ (m : ℕ). at j pay u (mk m) (sv m) (pr m)) (own_marker l)

  -- a store that leaves marker and written bytes be
  same_own : {x : Ledger} (j : Job) → x ≡ at j l.payload u (marker_of l u) l.written l.saved
      → x ≡ at j l.payload u l.marker l.written l.saved
  same_own j e = own j l.payload (λ m. m) (λ m. l.written) (λ m. l.saved) e

  -- ---- a write, a begin's or a group's
  module _ (t : Task) (v : ℕ) (bs : List ℕ) (loaded : Loaded p l.payload d.payload t v bs) where
    task_is : (n : ℕ) → l.job ≡ job_at t n → d.phase ≡ phase_at t n
    task_is n e = phase_is (job_at t n) e ∙ phased_task (direction l.marker) t n

    -- its next store is that of a write of unit v
    task_comes : (n : ℕ) (s : Store) → next p (task_write p d.payload t).bytes image (Writing v n) ≡ some s
        → next p d.payload image (phase_at t n) ≡ some s
    task_comes n s e =
        next_task p d.payload image t n
        ∙ ap (λ (y : ℕ). next p (task_write p d.payload t).bytes image (Writing y n)) loaded.same ∙ e

    task_more : (after : List ℕ) (n : ℕ) (way : Direction) → ¬ (suc n ≡ write_total (width p v))
        → Goes (phase_at t n) after way (job_at t (suc n)) d.payload
    task_more after n way h =
        record {
          phase = task_goes_on p d.payload after t n (λ e. h (e ∙ ap (λ (y : ℕ). write_total (width p y)) loaded.same))
              ∙ sym (phased_task way t (suc n));
          payload = task_holds p d.payload after t n;
        }

    task_over : (after : List ℕ) (n : ℕ) (way : Direction) → suc n ≡ write_total (width p v)
        → Goes (phase_at t n) after way (follows p l.payload t) d.payload
    task_over after n way h =
        record {
          phase = task_ends p d.payload after t n way (h ∙ ap (λ (y : ℕ). write_total (width p y)) (sym loaded.same))
              ∙ ap (phased way) (loaded_follows t loaded);
          payload = task_holds p d.payload after t n;
        }

  -- the marker's store of unit u leaves what the ledger notes
  own_mark : (e : End) (code : ℕ)
      → get p (stored p image e (some (store u marker code))) u marker ≡ marker_left e l.marker code
  own_mark e code =
      stored_marker p ok image e u code frame.unit frame.long ∙ ap (λ (m : ℕ). marker_left e m code) inv.mark

  -- 1: marker A
  store_a : (t : Task) (v : ℕ) (bs : List ℕ) → l.job ≡ job_at t 0 → l.marker ≡ OK → Both p image u f
      → Loaded p l.payload d.payload t v bs → (e : End) → Kept e
  store_a t v bs job mk both loaded =
      by_store (store v marker A) (phase_at t 0) v (job_at t 1) (λ e. marker_left e (marker_of l v) A) (λ e. l.written)
      (task_is t v bs loaded 0 job) (task_comes t v bs loaded 0 _ (next_a p _ image v))
      (notes_a p l t 0 (write v bs) job loaded.says refl)
      (task_more t v bs loaded _ 0 _ (omega arith))
      (λ e. frame_near (near e) before l.written (frame_to frame clean v hv))
      (λ e. stored_marker p ok image e v A hv frame.long ∙ ap (λ (m : ℕ). marker_left e m A) (marker_agrees v hv))
      (to_a t bs 0 (omega arith) refl refl (stays completed copy_b) (λ i q. absurd (omega arith)) loaded)
      (λ e. twice (stays e))
    where
      hv : v < p.count
      hv = loaded.unit

      clean : Clean p image l.written u
      clean = record { mark = inv.mark ∙ mk; both = both }

      near : (e : End) → Near p image (stored p image e (some (store v marker A))) v marker
      near e = stored_near p ok image e v A hv marker tt

      stays : (e : End) → Both p (stored p image e (some (store v marker A))) v (l.written v)
      stays e c = whole_near (near e) c (l.written v) tt ((all_clean frame clean v hv).both c)

  -- 2: the bytes of copy A
  store_to_a : (t : Task) (bs : List ℕ) (j : ℕ) → j < w → l.job ≡ job_at t (suc j) → l.marker ≡ A → Whole p image u copy_b f
      → Has p image u copy_a bs j → Loaded p l.payload d.payload t u bs → (e : End) → Kept e
  store_to_a t bs j h job mk hb ha loaded =
      by_store s (phase_at t (suc j)) u (job_at t (suc (suc j))) (λ e. l.marker) (λ e. l.written)
      (task_is t u bs loaded (suc j) job) (task_comes t u bs loaded (suc j) s (next_to_a p _ image u j h))
      (λ e. same_own _
      (notes_byte p l t (suc j) (write u bs) job loaded.says (omega arith) (omega arith) (omega arith) e))
      (task_more t u bs loaded _ (suc j) _ (omega arith))
      (λ e. frame_near (near e) before l.written frame)
      (λ e. (near e).own marker tt tt ∙ inv.mark)
      (to_a t bs (suc j) h refl mk (still completed)
      (has_more p ok image u _ copy_a bs j frame.unit frame.long h (loaded.bytes j h) ha) loaded)
      (λ e. once (omega arith) (rw (direction_a l.marker mk) (still e)))
    where
      s : Store
      s = store u (byte copy_a j) (get_or (task_write p d.payload t).bytes j 0)

      near : (e : End) → Near p image (stored p image e (some s)) u (byte copy_a j)
      near e = stored_near p ok image e u _ frame.unit (byte copy_a j) h

      still : (e : End) → Whole p (stored p image e (some s)) u copy_b f
      still e = whole_near (near e) copy_b f tt hb

  -- 3: marker B, the store that decides: the write passes unless it leaves A
  store_b : (t : Task) (bs : List ℕ) → l.job ≡ job_at t (suc w) → l.marker ≡ A → Whole p image u copy_b f → Whole p image u copy_a bs
      → Loaded p l.payload d.payload t u bs → (e : End) → Kept e
  store_b t bs job mk hb ha loaded =
      by_store (store u marker B) (phase_at t (suc w)) u (job_at t (suc (suc w))) left (λ e. kept e (left e))
      (task_is t u bs loaded (suc w) job) (task_comes t u bs loaded (suc w) _ (next_b p _ image u))
      (λ e. own _ l.payload (λ m. marker_left e m B) (λ m. kept e (marker_left e m B)) (λ m. counted e (marker_left e m B))
      (notes_b p l t (suc w) (write u bs) job loaded.says (omega arith) e))
      (task_more t u bs loaded _ (suc w) _ (omega arith))
      (λ e. frame_near (near e) before (kept e (left e)) (frame_saving frame (decides e (left e)) bs loaded.size))
      (λ e. own_mark e B)
      (to_b t bs 0 (omega arith) (ap (job_at t) (omega arith)) refl (saving_same u bs l.written)
      (new completed) (λ i q. absurd (omega arith)) loaded)
      decided
    where
      left : End → ℕ
      left e = marker_left e l.marker B

      kept : End → ℕ → ℕ → List ℕ
      kept e x = cond (decides e x) (saving u bs l.written) l.written

      counted : End → ℕ → ℕ → List ℕ
      counted e x = cond (decides e x) (saving_all (counts_for p l.payload t) l.saved) l.saved

      near : (e : End) → Near p image (stored p image e (some (store u marker B))) u marker
      near e = stored_near p ok image e u B frame.unit marker tt

      old : (e : End) → Whole p (stored p image e (some (store u marker B))) u copy_b f
      old e = whole_near (near e) copy_b f tt hb

      new : (e : End) → Whole p (stored p image e (some (store u marker B))) u copy_a bs
      new e = whole_near (near e) copy_a bs tt ha

      After : End → Type 0
      After e = Safe p (stored p image e (some (store u marker B))) u (left e) (kept e (left e) u)

      passed : (e : End) → ¬ (left e ≡ OK) → ¬ (left e ≡ A) → decides e (left e) ≡ true → After e
      passed e h q z =
          rw (z, saving_same u bs l.written) (once h (rw (direction_other (left e) q) (new e)))

      tore : (bytes : List ℕ) → ¬ (left (torn_by bytes) ≡ OK) → Same (left (torn_by bytes)) A → After (torn_by bytes)
      tore bytes h (equal q) =
          rw (eq-eqb (left (torn_by bytes)) A q) (once h (rw (direction_a (left (torn_by bytes)) q) (old (torn_by bytes))))
      tore bytes h (differ q) = passed (torn_by bytes) h q (rw (ne_eqb (left (torn_by bytes)) A q))

      decided : (e : End) → After e
      decided completed = passed completed (omega arith) (omega arith) refl
      decided (torn_by bytes) = tore bytes (rw mk (torn_a_to_b (get_or bytes 0 0))) (same (left (torn_by bytes)) A)

  -- 4: the bytes of copy B
  store_to_b : (t : Task) (bs : List ℕ) (j : ℕ) → j < w → l.job ≡ job_at t (suc (w + suc j)) → l.marker ≡ B → f ≡ bs
      → Whole p image u copy_a bs → Has p image u copy_b bs j → Loaded p l.payload d.payload t u bs
      → (e : End) → Kept e
  store_to_b t bs j h job mk sv ha hb loaded =
      by_store s (phase_at t made) u (job_at t (suc made)) (λ e. l.marker) (λ e. l.written)
      (task_is t u bs loaded made job) (task_comes t u bs loaded made s (next_to_b p _ image u j h))
      (λ e. same_own _
      (notes_byte p l t made (write u bs) job loaded.says (omega arith) (omega arith) (omega arith) e))
      (task_more t u bs loaded _ made _ (omega arith))
      (λ e. frame_near (near e) before l.written frame)
      (λ e. (near e).own marker tt tt ∙ inv.mark)
      (to_b t bs (suc j) h (ap (job_at t) (omega arith)) mk sv (still completed)
      (has_more p ok image u _ copy_b bs j frame.unit frame.long h (loaded.bytes j h) hb) loaded)
      (λ e. once (omega arith) (rw (direction_other l.marker (omega arith), sv) (still e)))
    where
      made : ℕ
      made = suc (w + suc j)

      s : Store
      s = store u (byte copy_b j) (get_or (task_write p d.payload t).bytes j 0)

      near : (e : End) → Near p image (stored p image e (some s)) u (byte copy_b j)
      near e = stored_near p ok image e u _ frame.unit (byte copy_b j) h

      still : (e : End) → Whole p (stored p image e (some s)) u copy_a bs
      still e = whole_near (near e) copy_a bs tt ha

  -- both copies stay whole under a store of the marker
  both_stay : (e : End) (code : ℕ) → Both p image u f → Both p (stored p image e (some (store u marker code))) u f
  both_stay e code h c = whole_near (stored_near p ok image e u code frame.unit marker tt) c f tt (h c)

  -- 5, and 7 below: marker OK, with both copies whole
  store_ok : (phase : Phase) (j : Job) {pay : End → List ℕ} {held : List ℕ} → d.phase ≡ phase
      → next p d.payload image phase ≡ some (store u marker OK)
      → ((e : End) → noted p l e ≡ at (then e j) (pay e) u (marker_left e (marker_of l u) OK) l.written l.saved)
      → Goes phase (stored p image completed (some (store u marker OK))) (direction OK) j held
      → Starts p (pay completed) held j
      → Both p image u f → (e : End) → Kept e
  store_ok phase j {pay} is comes notes goes starting both =
      by_store (store u marker OK) phase u j (λ e. marker_left e l.marker OK) (λ e. l.written)
      is comes (λ e. own _ (pay e) (λ m. marker_left e m OK) (λ m. l.written) (λ m. l.saved) (notes e)) goes
      (λ e. frame_near (stored_near p ok image e u OK frame.unit marker tt) before l.written frame)
      (λ e. own_mark e OK)
      (still starting refl (both_stay completed OK both))
      (λ e. twice (both_stay e OK both))

  write_done : (t : Task) (bs : List ℕ) → l.job ≡ job_at t (suc (w + suc w)) → f ≡ bs → Whole p image u copy_a bs
      → Whole p image u copy_b bs → Loaded p l.payload d.payload t u bs → (e : End) → Kept e
  write_done t bs job sv ha hb loaded =
      store_ok (phase_at t made) (follows p l.payload t)
      (task_is t u bs loaded made job) (task_comes t u bs loaded made _ (next_ok p _ image u))
      (notes_ok p l t made (write u bs) job loaded.says (omega arith))
      (task_over t u bs loaded _ made _ (omega arith)) (follows_starts p ok t loaded)
      (rw sv (both_of AToB (λ c. Whole p image u c bs) ha hb))
    where
      made : ℕ
      made = suc (w + suc w)

  -- ---- a cleanup, by the direction of the ledger's marker
  abbrev way : Direction
  way = direction l.marker

  -- 6: the bytes of the copy that isn't trusted
  store_copy : (j : ℕ) → j < w → l.job ≡ refusals.recovering u j → ¬ (l.marker ≡ OK) → Whole p image u (source way) f
      → Has p image u (target way) f j → (e : End) → Kept e
  store_copy j h job mk hs ht =
      by_store s (Recovering u j way) u (refusals.recovering u (suc j)) (λ e. l.marker) (λ e. l.written)
      (phase_is _ job) (next_copy p d.payload image u way j h)
      (λ e. same_own _ (notes_copy p l u j job h e))
      (record {
        phase = cleanup_goes_on p d.payload _ u j way (omega arith);
        payload = cleanup_holds p d.payload _ u j way (omega arith);
      })
      (λ e. frame_near (near e) before l.written frame)
      (λ e. (near e).own marker tt tt ∙ inv.mark)
      (mending (suc j) h refl mk (still completed)
      (has_more p ok image u _ (target way) f j frame.unit frame.long h (hs j h) ht))
      (λ e. once mk (still e))
    where
      s : Store
      s = store u (byte (target way) j) (get p image u (byte (source way) j))

      near : (e : End) → Near p image (stored p image e (some s)) u (byte (target way) j)
      near e = stored_near p ok image e u _ frame.unit (byte (target way) j) h

      still : (e : End) → Whole p (stored p image e (some s)) u (source way) f
      still e = whole_near (near e) (source way) f (source_off_target way j) hs

  -- ---- where every marker is OK: on to a standing record, or Ready
  module _ (after : List ℕ) (all : (v : ℕ) → v < p.count → Clean p after l.written v) (long : total p ≤ length after) (found : Phase)
      (none : found ≡ Ready) where
    record_is : record_in p after ≡ l.written (last p)
    record_is =
        copy_is p ok after (last p) copy_a (l.written (last p)) (last_lt p ok) long (frame.lengths (last p) (last_lt p ok))
        ((all (last p) (last_lt p ok)).both copy_a)

    resumes_is : resumes p after found ≡ ledger.standing p l
    unfolding resumes
    resumes_is = rw (none, record_is)

    resumed_is : (dir : Direction) → resumed p after found ≡ phased dir (ledger.resumed p l)
    resumed_is dir =
        ap₂ (λ (b : Bool) (x : Phase). cond b (Grouping 1 0) x) resumes_is none
        ∙ phased_cond dir (ledger.standing p l) (refusals.grouping 1 0) refusals.ready

    reloaded_is : reloaded p after found d.payload ≡ cond (ledger.standing p l) (padded (l.written (last p))) d.payload
    reloaded_is = ap₂ (λ (b : Bool) (x : List ℕ). cond b (padded x) d.payload) resumes_is record_is

  abbrev held_on : List ℕ
  held_on = cond (ledger.standing p l) (padded (l.written (last p))) d.payload

  starts_on : Starts p (ledger.reloaded p l) (cond (ledger.standing p l) (padded (l.written (last p))) d.payload) (ledger.resumed p l)
  starts_on = resumed_starts p ok (l.written (last p)) l.payload d.payload (ledger.standing p l) refl

  -- 7: no higher unit needs a cleanup
  cleanup_done : l.job ≡ refusals.recovering u w → Whole p image u (source way) f → Whole p image u (target way) f
      → (e : End) → Kept e
  cleanup_done job hs ht =
      store_ok (Recovering u w way) (ledger.resumed p l)
      (phase_is _ job) (next_settle p d.payload image u way) (notes_settle p l u w job refl)
      (record {
        phase = cleanup_ends p d.payload done u w way (omega arith) ∙ resumed_is done all long _ none (direction OK);
        payload = cleanup_loads p d.payload done u w way (omega arith) ∙ reloaded_is done all long _ none;
      })
      starts_on both
    where
      done : List ℕ
      done = stored p image completed (some (store u marker OK))

      near : Near p image (stored p image completed (some (store u marker OK))) u marker
      near = stored_near p ok image completed u OK frame.unit marker tt

      both : Both p image u f
      both = both_of way (λ c. Whole p image u c f) hs ht

      all : (v : ℕ) → v < p.count → Clean p (stored p image completed (some (store u marker OK))) l.written v
      all =
          all_clean (frame_near near before l.written frame)
          (record { mark = own_mark completed OK; both = both_stay completed OK both })

      long : total p ≤ length (stored p image completed (some (store u marker OK)))
      long = omega (arith, near.size, frame.long)

      none : cleanup_from p (stored p image completed (some (store u marker OK))) (suc u) ≡ Ready
      none = none_found p _ (p.count - suc u) (suc u) (λ v i q. (all v (omega (arith, frame.unit))).mark)

  -- ---- whatever is under way; in Ready and Cold there is no store
  module _ (e : End) (in-ready : l.job ≡ refusals.ready → l.marker ≡ OK → Both p image u f → Kept e)
      (in-cold : l.job ≡ refusals.cold → Safe p image u l.marker f → Kept e) where
    by_stage : Stage p image l d.payload → Kept e
    by_stage (resting job mk both) = in-ready job mk both
    by_stage (off job safe) = in-cold job safe
    by_stage (opened t v bs job mk both loaded) = store_a t v bs job mk both loaded e
    by_stage (to_a t bs j hj job mk hb ha loaded) =
        elim (order j w) [
          | below h ↦ store_to_a t bs j h job mk hb ha loaded e
          | above h ↦
              let q : j ≡ w = omega arith in
              store_b t bs (job ∙ ap (λ (n : ℕ). job_at t (suc n)) q) mk hb (rw q at ha) loaded e
        ]
    by_stage (to_b t bs j hj job mk sv ha hb loaded) =
        elim (order j w) [
          | below h ↦ store_to_b t bs j h job mk sv ha hb loaded e
          | above h ↦
              let q : j ≡ w = omega arith in
              write_done t bs (job ∙ ap (λ (n : ℕ). job_at t (suc (w + suc n))) q) sv ha (rw q at hb) loaded e
        ]
    by_stage (mending j hj job mk hs ht) =
        elim (order j w) [
          | below h ↦ store_copy j h job mk hs ht e
          | above h ↦
              let q : j ≡ w = omega arith in
              cleanup_done (job ∙ ap (refusals.recovering u) q) hs (rw q at ht) e
        ]

  -- ---- step
  refused_not : {X : Type 0} (n : ℕ) → n ≡ 0 → n ≡ 5 → X
  refused_not n e f = absurd (omega arith)

  step_kept : step_number (judged p l) ≡ 0 → Kept completed
  step_kept e =
      by_stage completed
      (λ job mk both. refused_not (step_number (judged p l)) e (step_ready (judged p l) ok refl job))
      (λ job safe. refused_not (step_number (judged p l)) e (step_cold (judged p l) ok refl job))
      inv.stage

  -- ---- cut
  cut_kept : (bytes : List ℕ) → Kept (torn_by bytes)
  unfolding accepted image_after stored next
  cut_kept bytes =
      by_stage (torn_by bytes)
      (λ job mk both. idle refusals.ready job refl refl (twice both))
      (λ job safe. idle refusals.cold job refl refl safe)
      inv.stage
    where
      idle : (j : Job) → l.job ≡ j → stored p image (torn_by bytes) (next p d.payload image (phased way j)) ≡ image
          → ledger.was_cut p l bytes j ≡ ledger.noted l refusals.cold l.payload
          → Safe p image u l.marker f → Kept (torn_by bytes)
      idle j job nothing then-cold safe =
          let notes : noted p l (torn_by bytes) ≡ ledger.noted l refusals.cold l.payload =
          ap (ledger.was_cut p l bytes) job ∙ then-cold in
          let stays : image_after (torn_by bytes) d image ≡ image = rw (inv.plan, phase_is j job) nothing in
          subst₂ (λ (x : Ledger) (y : List ℕ). Inv p before x (outcome 0 (as_cut d) y)) (sym notes) (sym stays)
          (record { plan = inv.plan; phase = refl; frame = frame; mark = inv.mark; stage = off refl safe })

  -- ---- wake
  abbrev Woken : Type 0
  Woken = Inv p before (accepted p l wake) (outcome 0 (wake_from d image (cleanup_from d.plan image 0)) image)

  -- the ledger is at job j with the payload pay, and the device is at its phase with the payload held
  woken_as : (j : Job) (pay held : List ℕ) → accepted p l wake ≡ ledger.noted l j pay
      → resumed p image (cleanup_from p image 0) ≡ phased way j → reloaded p image (cleanup_from p image 0) d.payload ≡ held
      → Stage p image (ledger.noted l j pay) held → Woken
  woken_as j pay held e goes holds stage =
      subst₂
      (λ (x : Ledger) (y : Plan).
      Inv p before x
      (outcome 0 (as_woken (resumed y image (cleanup_from y image 0)) (reloaded y image (cleanup_from y image 0) d.payload) d) image))
      (sym e) (sym inv.plan)
      (record {
        plan = inv.plan;
        phase = goes;
        frame = frame;
        mark = inv.mark;
        stage = subst (Stage p image (ledger.noted l j pay)) (sym holds) stage;
      })

  wake_off : Safe p image u l.marker f → Same l.marker OK → Woken
  unfolding accepted resumes
  wake_off safe (equal q) =
      woken_as (ledger.resumed p l) (ledger.reloaded p l) held_on (rw (eq-eqb l.marker OK q))
      (resumed_is image all frame.long _ none way) (reloaded_is image all frame.long _ none)
      (still starts_on q (whole safe))
    where
      whole : Safe p image u l.marker f → Both p image u f
      whole (twice h) = h
      whole (once ne h) = absurd (ne q)

      all : (v : ℕ) → v < p.count → Clean p image l.written v
      all = all_clean frame (record { mark = inv.mark ∙ q; both = whole safe })

      none : cleanup_from p image 0 ≡ Ready
      none = none_found p image (p.count - 0) 0 (λ v i h. (all v (omega arith)).mark)
  wake_off safe (differ q) =
      woken_as (refusals.recovering u 0) l.payload d.payload (rw (ne_eqb l.marker OK q))
      (rw found) (rw found)
      (mending 0 (omega arith) refl q (trusted safe) (λ i h. absurd (omega arith)))
    where
      trusted : Safe p image u l.marker f → Whole p image u (source way) f
      trusted (twice h) = h (source way)
      trusted (once ne h) = h

      found : cleanup_from p image 0 ≡ Recovering u 0 way
      found =
          lowest_found p image (p.count - 0) 0 u (omega arith) (omega (arith, frame.unit))
          (λ v i h. (frame.others v (omega (arith, frame.unit)) (omega arith)).mark) (rw inv.mark q)
          ∙ ap (λ (m : ℕ). Recovering u 0 (direction m)) inv.mark

  -- a stage of another job than the ledger's
  other_job : {X : Type 0} (test : Job → Bool) (j k : Job) → l.job ≡ j → l.job ≡ k → test j ≡ true → test k ≡ false → X
  other_job test j k e f t s = absurd (true≢false (sym t ∙ ap test (sym e ∙ f) ∙ s))

  busy : (t : Task) (n : ℕ) → (is_cold (job_at t n) ≡ false) × (is_ready (job_at t n) ≡ false)
  busy (alone v) n = (refl, refl)
  busy (part i) n = (refl, refl)

  wake_kept : l.job ≡ refusals.cold → Woken
  wake_kept e = go inv.stage
    where
      go : Stage p image l d.payload → Woken
      go (resting job mk both) = other_job is_cold _ _ e job refl refl
      go (off job safe) = wake_off safe (same l.marker OK)
      go (opened t v bs job mk both loaded) = other_job is_cold _ _ e job refl (busy t 0).0
      go (to_a t bs j hj job mk hb ha loaded) = other_job is_cold _ _ e job refl (busy t _).0
      go (to_b t bs j hj job mk sv ha hb loaded) = other_job is_cold _ _ e job refl (busy t _).0
      go (mending j hj job mk hs ht) = other_job is_cold _ _ e job refl refl

  -- ---- begin
  -- in Ready unit u is whole
  at_rest : l.job ≡ refusals.ready → (l.marker ≡ OK) × Both p image u f
  at_rest r = go inv.stage
    where
      go : Stage p image l d.payload → (l.marker ≡ OK) × Both p image u f
      go (resting job mk both) = (mk, both)
      go (off job safe) = other_job is_ready _ _ r job refl refl
      go (opened t v bs job mk both ld) = other_job is_ready _ _ r job refl (busy t 0).1
      go (to_a t bs j hj job mk hb ha ld) = other_job is_ready _ _ r job refl (busy t _).1
      go (to_b t bs j hj job mk sv ha hb ld) = other_job is_ready _ _ r job refl (busy t _).1
      go (mending j hj job mk hs ht) = other_job is_ready _ _ r job refl refl

  begin_kept : (v : ℕ) (payload : List ℕ) → Began (judged p l) v (length payload)
      → Inv p before (ledger.noted l (refusals.writing v 0) payload) (outcome 0 (as_begun v (padded payload) d) image)
  begin_kept v payload began =
      record {
        plan = inv.plan;
        phase = refl;
        frame = frame;
        mark = inv.mark;
        stage = opened (alone v) v payload refl (at_rest began.job).0 (at_rest began.job).1 loaded;
      }
    where
      loaded : Loaded p payload (padded payload) (alone v) v payload
      loaded =
          record {
            unit = began.unit;
            size = began.size;
            says = refl;
            same = refl;
            bytes = λ i h. get_or-append payload (replicate (256 - length payload) 0) 0 i (omega (arith, began.size));
            matched = tt;
          }

  -- ---- ride: a begin of unit 0
  -- in Ready copy A of every unit is what the ledger has as written
  held_is : (v : ℕ) → v < p.count → l.job ≡ refusals.ready → held_in d image v ≡ l.written v
  held_is v hv r =
      rw inv.plan
      (copy_is p ok image v copy_a (l.written v) hv frame.long (frame.lengths v hv)
      ((all_clean frame (record { mark = inv.mark ∙ (at_rest r).0; both = (at_rest r).1 }) v hv).both copy_a))

  ride_kept : (turns : ℕ) → told p l (ride turns) ≡ 0
      → Inv p before (accepted p l (ride turns)) (outcome 0 (as_begun 0 (padded (plus (held_in d image 0) turns)) d) image)
  unfolding told accepted
  ride_kept turns h =
      let began = ride_began (judged p l) (l.written 0) turns h in
      subst (λ (bs : List ℕ). Inv p before (accepted p l (ride turns)) (outcome 0 (as_begun 0 (padded (plus bs turns)) d) image))
      (sym (held_is 0 (count_bounds p ok).0 began.job))
      (begin_kept 0 (plus (l.written 0) turns) began)

  -- ---- group
  group_kept : (g : List ℕ) → Grouped (judged p l) g
      → Inv p before (ledger.noted l (refusals.grouping 0 0) (payload_of p g)) (outcome 0 (as_grouped (payload_of d.plan g) d) image)
  group_kept g grouped =
      record {
        plan = inv.plan;
        phase = refl;
        frame = frame;
        mark = inv.mark;
        stage = rw inv.plan (opened (part 0) _ _ refl (at_rest grouped.job).0 (at_rest grouped.job).1 loaded);
      }
    where
      loaded : Loaded p (payload_of p g) (payload_of p g) (part 0) (write_at p (payload_of p g) 0).unit (write_at p (payload_of p g) 0).bytes
      loaded =
          part_loaded p ok (payload_of p g) 0
          (part_fine p ok (payload_of p g) 0 (given_is (judged p l) g grouped) (omega (arith, writes_more p ok (payload_of p g))))

  -- ---- paid ride: a group of units 0 and 1
  paid_kept : (turns : ℕ) → told p l (paid turns) ≡ 0
      → Inv p before (accepted p l (paid turns)) (outcome 0 (as_grouped (payload_of d.plan (paid_in d image turns)) d) image)
  unfolding told accepted
  paid_kept turns h =
      let fare = paid_says (judged p l) (l.written 0) (l.written 1) turns h in
      subst₂ (λ (a b : List ℕ). Inv p before (accepted p l (paid turns)) (outcome 0 (as_grouped (payload_of d.plan (paid_group a b turns)) d) image))
      (sym (held_is 0 (omega (arith, fare.two)) fare.group.job))
      (sym (held_is 1 fare.two fare.group.job))
      (group_kept (paid_group (l.written 0) (l.written 1) turns) fare.group)

  -- ---- the answers: device and ledger are judged alike
  job_is : job_of d.phase ≡ l.job
  job_is = ap job_of inv.phase ∙ job_phased way l.job

  bad_is : Stage p image l d.payload → bad_job p d.payload l.job ≡ bad_job p l.payload l.job
  unfolding bad_job
  bad_is (resting job mk both) = rw job
  bad_is (off job safe) = rw job
  bad_is (opened t v bs job mk both ld) = rw job (loaded_fine t ld 0 (omega arith)).1
  bad_is (to_a t bs j hj job mk hb ha ld) = rw job (loaded_fine t ld (suc j) (omega arith)).1
  bad_is (to_b t bs j hj job mk sv ha hb ld) = rw job (loaded_fine t ld (suc (w + suc j)) (omega arith)).1
  bad_is (mending j hj job mk hs ht) = rw job

  alike : Alike (view d image) (judged p l)
  alike =
      record {
        plan = inv.plan;
        short = rw inv.plan (le-ltb (length image) (total p) frame.long);
        job = job_is;
        bad = ap₂ (λ (x : Plan) (j : Job). bad_job x d.payload j) inv.plan job_is ∙ bad_is inv.stage;
        marker = λ v h. rw inv.plan (marker_agrees v h);
      }

  -- a call answers n, and then the ledger is at next
  pub record Agrees (n : ℕ) (next : Ledger) (r : Outcome) : Type 0 where
    pub answer : r.number ≡ n
    pub kept : Inv p before (ledger.unless_refused n l next) r

  settle : (n n' : ℕ) (next : Ledger) (done : Outcome) → n ≡ n' → done.number ≡ 0
      → (n' ≡ 0 → Inv p before next done) → Agrees n' next (calls.unless_refused n d image done)
  settle n n' next done e z h = rw e (go n' h)
    where
      go : (n' : ℕ) → (n' ≡ 0 → Inv p before next done) → Agrees n' next (calls.unless_refused n' d image done)
      go zero h = record { answer = z; kept = h refl }
      go (suc n') h =
          record {
            answer = refl;
            kept = record { plan = inv.plan; phase = inv.phase; frame = frame; mark = inv.mark; stage = inv.stage };
          }

  pub keeps : (c : Call) → Agrees (told p l c) (accepted p l c) (call c o)
  unfolding call calls.begin calls.ride calls.group calls.paid_ride calls.step calls.cut calls.wake told accepted
  keeps (begin role v payload) =
      settle _ _ _ _ (begin_alike alike role v (length payload)) refl
      (λ h. begin_kept v payload (begin_says (judged p l) role v (length payload) h))
  keeps (ride turns) =
      settle _ _ _ _ (ride_alike alike turns (λ fine long. held_is 0 (count_bounds p ok).0)) refl (ride_kept turns)
  keeps (group g) =
      settle _ _ _ _ (group_alike alike g) refl (λ h. group_kept g (group_says (judged p l) g h))
  keeps (paid turns) =
      settle _ _ _ _
      (paid_alike alike turns (λ fine long job two. (held_is 0 (count_bounds p ok).0 job, held_is 1 two job))) refl (paid_kept turns)
  keeps step = settle _ _ _ _ (step_alike alike) refl step_kept
  keeps (cut bytes) = settle _ _ _ _ (cut_alike alike (length bytes)) refl (λ h. cut_kept bytes)
  keeps wake = settle _ _ _ _ (wake_alike alike) refl (λ h. wake_kept (wake_says (judged p l) h))
