-- What the ledger notes of each store: by the store's number, the unit's marker and whether the write passes.
use Prim.Native.Nat.{ℕ, zero, suc, ◌+◌, ◌*◌, ◌≤◌, ◌<◌}
use mathlib.Core.Path.{◌≡◌, refl, ap, ◌∙◌}
use mathlib.Core.List.{List, [], ◌∷◌}
use mathlib.Core.Bool.{Bool, true, false, cond, not}
use native.Mathlib.Omega.{arith}
use lib.Dec.{eqb}
use lib.ListN.{get_or}
use borrow.Author.Tests.{eq-eqb, ne_eqb}
use Rattle.model.specs.declared.Plan.{Plan}
use Rattle.model.specs.Marker.{OK, A, B, End, completed, torn_by, marker_left}
use Rattle.model.specs.Layout.{width}
use Rattle.model.specs.Refusals.{Job, cold, ready, writing, recovering, any_foreign, grouping}
use Rattle.model.specs.Ledger.{Ledger, Call, begin, ride, group, paid, step, cut, wake, opening, marker_of, told, write_marker, cleanup_marker, passes, saving, stepped, was_cut, accepted, unless_refused, fed, after, saving_all, wrote, resumed, reloaded}
use Rattle.model.proofs.MarkerLaws.{not_foreign, torn_small}
use Rattle.model.proofs.Tasks.{Task, alone, job_at, task_write, follows, part, counts_for}
use Rattle.model.specs.Groups.{Write, write_at}

-- the ledger at job j with unit u last written, its marker m
abbrev pub at : Job → List ℕ → ℕ → ℕ → (ℕ → List ℕ) → (ℕ → List ℕ) → Ledger
at j payload u m written saved =
    record { job = j; payload = payload; unit = u; marker = m; written = written; saved = saved }

-- what the ledger notes of the next store, completed by a step or torn by a cut
abbrev pub noted : Plan → Ledger → End → Ledger
noted p l completed = accepted p l step
noted p l (torn_by bytes) = accepted p l (cut bytes)

-- the job after a store after which a step goes on with j
abbrev pub then : End → Job → Job
then completed j = j
then (torn_by bytes) j = cold

-- and the payload
abbrev pub then_held : End → List ℕ → List ℕ → List ℕ
then_held completed held old = held
then_held (torn_by m) held old = old

-- whether a write passes at its store w + 2, which leaves x
abbrev pub decides : End → ℕ → Bool
decides completed x = true
decides (torn_by bytes) x = not (eqb x A)

-- and at no other store
passes_not : (w n : ℕ) (e : End) (x : ℕ) → ¬ (n ≡ w + 2) → passes w n e x ≡ false
passes_not w n completed x h = ne_eqb n (w + 2) h
passes_not w n (torn_by bytes) x h = rw (ne_eqb n (w + 2) h)

passes_here : (w n : ℕ) (e : End) (x : ℕ) → n ≡ w + 2 → passes w n e x ≡ decides e x
passes_here w n completed x h = eq-eqb n (w + 2) h
passes_here w n (torn_by bytes) x h = rw (eq-eqb n (w + 2) h)

pub own_marker : (l : Ledger) → marker_of l l.unit ≡ l.marker
unfolding marker_of
own_marker l = rw (eq-eqb l.unit l.unit refl, marker_of)

pub saving_same : (u : ℕ) (payload : List ℕ) (written : ℕ → List ℕ) → saving u payload written u ≡ payload
unfolding saving
saving_same u payload written = rw (eq-eqb u u refl, saving)

pub saving_other : (u v : ℕ) (payload : List ℕ) (written : ℕ → List ℕ) → ¬ (v ≡ u) → saving u payload written v ≡ written v
unfolding saving
saving_other u v payload written h = rw (ne_eqb v u h, saving)

-- the write x of the task t
module _ (p : Plan) (l : Ledger) (t : Task) (made : ℕ) (x : Write) (is : l.job ≡ job_at t made)
    (says : task_write p l.payload t ≡ x) where
  abbrev u : ℕ
  u = x.unit

  abbrev w : ℕ
  w = width p x.unit

  abbrev counts : List Write
  counts = counts_for p l.payload t

  -- the job after one more store
  abbrev onward : Write → Job
  onward y = cond (eqb (suc made) (2 * width p y.unit + 3)) (follows p l.payload t) (job_at t (suc made))

  -- a write's store, the job after it not yet told
  pub store_writes : (e : End) → noted p l e ≡ wrote p l (task_write p l.payload t) counts (suc made) e (then e (onward (task_write p l.payload t)))
  unfolding accepted
  store_writes completed = ap (stepped p l) is ∙ go t
    where
      go : (t : Task) → stepped p l (job_at t made)
          ≡ wrote p l (task_write p l.payload t) (counts_for p l.payload t) (suc made) completed
          (cond (eqb (suc made) (2 * width p (task_write p l.payload t).unit + 3)) (follows p l.payload t) (job_at t (suc made)))
      go (alone v) = refl
      go (part i) = refl
  store_writes (torn_by bytes) = ap (was_cut p l bytes) is ∙ go t
    where
      go : (t : Task) → was_cut p l bytes (job_at t made)
          ≡ wrote p l (task_write p l.payload t) (counts_for p l.payload t) (suc made) (torn_by bytes) cold
      go (alone v) = refl
      go (part i) = refl

  step_writes : (j : Job) → onward x ≡ j → (e : End) → noted p l e ≡ wrote p l x counts (suc made) e (then e j)
  step_writes j h e =
      store_writes e
      ∙ ap (λ (y : Write). wrote p l y counts (suc made) e (then e (onward y))) says
      ∙ ap (λ (k : Job). wrote p l x counts (suc made) e (then e k)) h

  goes_on_lem : ¬ (suc made ≡ 2 * w + 3) → onward x ≡ job_at t (suc made)
  goes_on_lem h = rw (ne_eqb (suc made) (2 * w + 3) h)

  pub notes_a : made ≡ 0 → (e : End)
      → noted p l e ≡ at (then e (job_at t 1)) l.payload u (marker_left e (marker_of l u) A) l.written l.saved
  unfolding write_marker
  notes_a h e =
      step_writes (job_at t 1) (goes_on_lem (omega arith) ∙ ap (λ (n : ℕ). job_at t (suc n)) h) e
      ∙ rw (passes_not w (suc made) e _ (omega arith), eq-eqb (suc made) 1 (omega arith))

  pub notes_byte : ¬ (made ≡ 0) → ¬ (made ≡ w + 1) → made < 2 * w + 2 → (e : End)
      → noted p l e ≡ at (then e (job_at t (suc made))) l.payload u (marker_of l u) l.written l.saved
  unfolding write_marker
  notes_byte h₁ h₂ h₃ e =
      step_writes (job_at t (suc made)) (goes_on_lem (omega arith)) e
      ∙ rw (
        passes_not w (suc made) e _ (omega arith),
        ne_eqb (suc made) 1 (omega arith),
        ne_eqb (suc made) (w + 2) (omega arith),
        ne_eqb (suc made) (2 * w + 3) (omega arith),
      )

  pub notes_b : made ≡ w + 1 → (e : End)
      → noted p l e
      ≡ at (then e (job_at t (suc made))) l.payload u (marker_left e (marker_of l u) B)
      (cond (decides e (marker_left e (marker_of l u) B)) (saving u x.bytes l.written) l.written)
      (cond (decides e (marker_left e (marker_of l u) B)) (saving_all counts l.saved) l.saved)
  unfolding write_marker
  notes_b h e =
      step_writes (job_at t (suc made)) (goes_on_lem (omega arith)) e
      ∙ rw (
        passes_here w (suc made) e _ (omega arith),
        ne_eqb (suc made) 1 (omega arith),
        eq-eqb (suc made) (w + 2) (omega arith),
      )

  pub notes_ok : made ≡ 2 * w + 2 → (e : End)
      → noted p l e
      ≡ at (then e (follows p l.payload t)) l.payload u (marker_left e (marker_of l u) OK) l.written l.saved
  unfolding write_marker
  notes_ok h e =
      step_writes (follows p l.payload t) (rw (eq-eqb (suc made) (2 * w + 3) (omega arith))) e
      ∙ rw (
        passes_not w (suc made) e _ (omega arith),
        ne_eqb (suc made) 1 (omega arith),
        ne_eqb (suc made) (w + 2) (omega arith),
        eq-eqb (suc made) (2 * w + 3) (omega arith),
      )

-- a cleanup's store
module _ (p : Plan) (l : Ledger) (u made : ℕ) (is : l.job ≡ recovering u made) where
  pub notes_copy : made < width p u → (e : End)
      → noted p l e ≡ at (then e (recovering u (suc made))) l.payload u (marker_of l u) l.written l.saved
  unfolding accepted cleanup_marker
  notes_copy h completed = rw (is, ne_eqb (suc made) (width p u + 1) (omega arith))
  notes_copy h (torn_by bytes) = rw (is, ne_eqb (suc made) (width p u + 1) (omega arith))

  pub notes_settle : made ≡ width p u → (e : End)
      → noted p l e
      ≡ at (then e (resumed p l)) (then_held e (reloaded p l) l.payload) u (marker_left e (marker_of l u) OK) l.written
      l.saved
  unfolding accepted cleanup_marker
  notes_settle h completed = rw (is, eq-eqb (suc made) (width p u + 1) (omega arith))
  notes_settle h (torn_by bytes) = rw (is, eq-eqb (suc made) (width p u + 1) (omega arith))

-- ---- Ticket 4: the ledger's marker never exceeds 7
left_small : (e : End) (old code : ℕ) → old ≤ 7 → code ≤ 7 → marker_left e old code ≤ 7
left_small completed old code h k = k
left_small (torn_by bytes) old code h k = torn_small old code (get_or bytes 0 0) h k

write_small : (w n : ℕ) (e : End) (old : ℕ) → old ≤ 7 → write_marker w n e old ≤ 7
unfolding write_marker
write_small w n e old h = go (eqb n 1) (eqb n (w + 2)) (eqb n (2 * w + 3))
  where
    go : (x y z : Bool) → cond x (marker_left e old A) (cond y (marker_left e old B) (cond z (marker_left e old OK) old)) ≤ 7
    go true y z = left_small e old A h (omega arith)
    go false true z = left_small e old B h (omega arith)
    go false false true = left_small e old OK h (omega arith)
    go false false false = h

cleanup_small : (w n : ℕ) (e : End) (old : ℕ) → old ≤ 7 → cleanup_marker w n e old ≤ 7
unfolding cleanup_marker
cleanup_small w n e old h = go (eqb n (w + 1))
  where
    go : (x : Bool) → cond x (marker_left e old OK) old ≤ 7
    go true = left_small e old OK h (omega arith)
    go false = h

module _ (p : Plan) (l : Ledger) (h : l.marker ≤ 7) where
  marker_small : (u : ℕ) → marker_of l u ≤ 7
  unfolding marker_of
  marker_small u = go (eqb u l.unit)
    where
      go : (t : Bool) → cond t l.marker OK ≤ 7
      go true = h
      go false = omega arith

  pub none_foreign : (k : ℕ) → any_foreign (marker_of l) k ≡ false
  unfolding any_foreign
  none_foreign zero = refl
  none_foreign (suc k) = rw (not_foreign (marker_of l k) (marker_small k)) (none_foreign k)

  step_small : (j : Job) → (stepped p l j).marker ≤ 7
  step_small cold = h
  step_small ready = h
  step_small (writing u made) = write_small (width p u) (suc made) completed (marker_of l u) (marker_small u)
  step_small (recovering u made) = cleanup_small (width p u) (suc made) completed (marker_of l u) (marker_small u)
  step_small (grouping i made) =
      write_small (width p (write_at p l.payload i).unit) (suc made) completed _ (marker_small (write_at p l.payload i).unit)

  cut_small : (bytes : List ℕ) (j : Job) → (was_cut p l bytes j).marker ≤ 7
  cut_small bytes cold = h
  cut_small bytes ready = h
  cut_small bytes (writing u made) = write_small (width p u) (suc made) (torn_by bytes) (marker_of l u) (marker_small u)
  cut_small bytes (recovering u made) = cleanup_small (width p u) (suc made) (torn_by bytes) (marker_of l u) (marker_small u)
  cut_small bytes (grouping i made) =
      write_small (width p (write_at p l.payload i).unit) (suc made) (torn_by bytes) _ (marker_small (write_at p l.payload i).unit)

  accepted_small : (c : Call) → (accepted p l c).marker ≤ 7
  unfolding accepted
  accepted_small (begin role u payload) = h
  accepted_small (ride turns) = h
  accepted_small (group g) = h
  accepted_small (paid turns) = h
  accepted_small step = step_small l.job
  accepted_small (cut bytes) = cut_small bytes l.job
  accepted_small wake = h

  fed_small : (c : Call) → (fed p l c).marker ≤ 7
  unfolding fed
  fed_small c = go (told p l c)
    where
      go : (n : ℕ) → (unless_refused n l (accepted p l c)).marker ≤ 7
      go zero = accepted_small c
      go (suc n) = h

after_small : (p : Plan) (cs : List Call) (l : Ledger) → l.marker ≤ 7 → (after p l cs).marker ≤ 7
unfolding after
after_small p [] l h = h
after_small p (c ∷ cs) l h = after_small p cs (fed p l c) (fed_small p l h c)

pub ledger_small : (p : Plan) (cs : List Call) → (after p (opening p) cs).marker ≤ 7
unfolding opening
ledger_small p cs = after_small p cs (opening p) (omega arith)
