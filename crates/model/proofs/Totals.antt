-- THE TURNS ADD UP, proved: along a list what the ledger saved for unit 0 grows by the turns of the rides that passed.
use Prim.Native.Nat.{ℕ, zero, suc, ◌+◌, ◌*◌, ◌≤◌, ◌<◌}
use mathlib.Core.Path.{◌≡◌, refl, ap, ap₂, sym, ◌∙◌, subst}
use mathlib.Core.List.{List, [], ◌∷◌, ◌++◌, map}
use mathlib.Core.Bool.{Bool, true, false, cond, true≢false, false≢true}
use native.Mathlib.Omega.{arith}
use lib.Dec.{eqb}
use lib.ListN.{length, replicate}
use borrow.Author.Tests.{eqb-true, eqb-false, ne_eqb, le-ltb}
use Rattle.model.specs.declared.Plan.{Plan}
use Rattle.model.specs.declared.Role.{Role}
use Rattle.model.specs.declared.Phase.{Phase}
use Rattle.model.specs.declared.Phase.TheVariants.{Ready}
use Rattle.model.specs.Plans.{width}
use Rattle.model.specs.Marker.{OK, End, completed, torn_by}
use Rattle.model.specs.Turns.{amount, plus}
use Rattle.model.specs.Prices.{price, paid_group}
use Rattle.model.specs.Groups.{Write, write, last, unsplit, among, members, payload_of, write_at, is_last_write}
use Rattle.model.specs.Refusals.{Job, cold, ready, writing, recovering, grouping, View, total_number}
use Rattle.model.specs.Layout.{Copy, copy_a, total, copy_of}
use Rattle.model.specs.Calls.{Outcome, view_of, total_unless_refused, AllMarkersOk}
use Rattle.model.specs.Calls as calls
use Rattle.model.specs.Ledger.{Ledger, Call, begin, ride, group, paid, step, cut, wake, opening, judged, told, saving, saving_all, count_with, passes_at, wrote, standing, resumed, reloaded, stepped, was_cut, accepted, fed, after}
use Rattle.model.specs.PowerCut.{call, run, closed_by, repair}
use Rattle.model.specs.Demands.{MaySee}
use Rattle.model.specs.Totals.{passes_next, due_after, counts, when_accepted, passed, sum, turns_over, OnlyRides, TurnsAddUp}
use Rattle.model.proofs.RightLaws.{may_see_lem}
use Rattle.model.proofs.Compare.{equal, differ, same}
use Rattle.model.proofs.RefusalLaws.{PlanOk, count_bounds, total_ready}
use Rattle.model.proofs.Tasks.{Task, alone, part, job_at, task_write, counts_for}
use Rattle.model.proofs.LedgerLaws.{saving_same, saving_other}
use Rattle.model.proofs.TurnLaws.{ride_says, plus_amount, zeros_amount}
use Rattle.model.proofs.GroupLaws.{wide_of, group_says, remaining_of}
use Rattle.model.proofs.PaidLaws.{Fare, paid_says, paid_members}
use Rattle.model.proofs.Invariant.{Inv}
use Rattle.model.proofs.Keeps.{keeps}
use Rattle.model.proofs.Promise.{Promised, resaved, promise_opens, ready_same, not_written, saving_snoc}
use Rattle.model.proofs.Theorem.{saved_fed, fed_accepted, along, format_opens, power_cut}

-- ---- What a list of calls adds to a unit v, where a ride of so many turns is worth so much to it.
module _ (p : Plan) (v : ℕ) (worth : ℕ → ℕ) where
  unfoldable pub total_worth : List ℕ → ℕ
  total_worth [] = 0
  total_worth (n ∷ ns) = worth n + total_worth ns

  worth_append : (xs ys : List ℕ) → total_worth (xs ++ ys) ≡ total_worth xs + total_worth ys
  unfolding total_worth
  worth_append [] ys = omega arith
  worth_append (x ∷ xs) ys = omega (arith, worth_append xs ys)

  pub worth_sum : (xs : List ℕ) → total_worth xs ≡ sum (map worth xs)
  unfolding total_worth sum
  worth_sum [] = refl
  worth_sum (x ∷ xs) = ap (λ (n : ℕ). worth x + n) (worth_sum xs)

  -- no store of this job, with this payload, saves other bytes: the members of a record are saved with its first write, not with their own
  abbrev Over : List ℕ → Job → Type 0
  Over payload cold = Unit
  Over payload ready = Unit
  Over payload (writing u n) = suc (width p u) < n
  Over payload (recovering u n) = Unit
  Over payload (grouping zero n) = suc (width p (write_at p payload 0).unit) < n
  Over payload (grouping (suc i) n) = Unit

  over_cond : (payload : List ℕ) (t : Bool) (j k : Job) → Over payload j → Over payload k → Over payload (cond t j k)
  over_cond payload true j k h g = h
  over_cond payload false j k h g = g

  resumed_over : (l : Ledger) (payload : List ℕ) → Over payload (resumed p l)
  resumed_over l payload = over_cond payload (standing p l) (grouping 1 0) ready tt tt

  -- a write that was asked for: a begin's, or that of a group's record
  abbrev Asked : Task → Type 0
  Asked (alone u) = Unit
  Asked (part zero) = Unit
  Asked (part (suc i)) = ⊥

  -- if the write under way passes, the unit gains what is due; or it gains nothing more
  pub data State (l : Ledger) (due : List ℕ) : Type 0 where
    writes : (t : Task) (n : ℕ) → Asked t → l.job ≡ job_at t n → n ≤ suc (width p (task_write p l.payload t).unit)
        → amount (saving_all (counts_for p l.payload t) l.saved v) ≡ amount (l.saved v) + total_worth due → State l due
    over : Over l.payload l.job → State l due

  -- what a store comes to: t says whether the write passes at it
  record Stored (l l' : Ledger) (t : Bool) (due : List ℕ) : Type 0 where
    pub gains : amount (l'.saved v) ≡ amount (l.saved v) + total_worth (cond t due [])
    pub state : State l' due

  module _ (l : Ledger) (due : List ℕ) where
    abbrev After : End → Job → Type 0
    After completed j = Stored l (stepped p l j) (passes_next p l completed j) due
    After (torn_by bytes) j = Stored l (was_cut p l bytes j) (passes_next p l (torn_by bytes) j) due

    none_counted : (t : Bool) → t ≡ false → total_worth (cond t due []) ≡ 0
    unfolding total_worth
    none_counted true e = absurd (true≢false e)
    none_counted false e = refl

    all_counted : (t : Bool) → t ≡ true → total_worth (cond t due []) ≡ total_worth due
    all_counted true e = refl
    all_counted false e = absurd (false≢true e)

    goes_by : (l' : Ledger) (t : Bool) → t ≡ false → l'.saved v ≡ l.saved v → State l' due → Stored l l' t due
    goes_by l' t f e s = record { gains = omega (arith, none_counted t f, ap amount e); state = s }

    passes_at_lem : (l' : Ledger) (t : Bool) → t ≡ true → amount (l'.saved v) ≡ amount (l.saved v) + total_worth due → State l' due
        → Stored l l' t due
    passes_at_lem l' t f e s = record { gains = omega (arith, all_counted t f, e); state = s }

    -- ---- a store of the write x, with which xs count as passed
    module _ (x : Write) (xs : List Write) (n : ℕ) where
      abbrev saved_if : Bool → ℕ → List ℕ
      saved_if t = cond t (saving_all xs l.saved) l.saved

      fails_store : (e : End) (j : Job) → passes_at p l x (suc n) e ≡ false → State (wrote p l x xs (suc n) e j) due
          → Stored l (wrote p l x xs (suc n) e j) (passes_at p l x (suc n) e) due
      fails_store e j f st = goes_by (wrote p l x xs (suc n) e j) (passes_at p l x (suc n) e) f (ap (λ (t : Bool). saved_if t v) f) st

      passes_store : amount (saving_all xs l.saved v) ≡ amount (l.saved v) + total_worth due
          → (e : End) (j : Job) → passes_at p l x (suc n) e ≡ true → Over l.payload j
          → Stored l (wrote p l x xs (suc n) e j) (passes_at p l x (suc n) e) due
      passes_store eq e j f h =
          passes_at_lem (wrote p l x xs (suc n) e j) (passes_at p l x (suc n) e) f (ap (λ (t : Bool). amount (saved_if t v)) f ∙ eq) (over h)

      past_pass : suc (width p x.unit) < n → (e : End) → passes_at p l x (suc n) e ≡ false
      past_pass h completed = ne_eqb (suc n) (width p x.unit + 2) (omega arith)
      past_pass h (torn_by bytes) = rw (ne_eqb (suc n) (width p x.unit + 2) (omega arith))

      -- a write that has not passed goes on with the same to gain
      still : (e : End) (j : Job) → passes_at p l x (suc n) e ≡ false → amount (saving_all xs l.saved v) ≡ amount (l.saved v) + total_worth due
          → amount (saving_all xs (wrote p l x xs (suc n) e j).saved v) ≡ amount ((wrote p l x xs (suc n) e j).saved v) + total_worth due
      still e j f eq =
          subst (λ (g : ℕ → List ℕ). amount (saving_all xs g v) ≡ amount (g v) + total_worth due) (sym (ap saved_if f)) eq

    store_over : (e : End) (j : Job) → l.job ≡ j → Over l.payload j → After e j
    unfolding count_with saving_all
    store_over completed cold is h = goes_by l false refl refl (over (subst (Over l.payload) (sym is) tt))
    store_over completed ready is h = goes_by l false refl refl (over (subst (Over l.payload) (sym is) tt))
    store_over completed (writing u n) is h =
        fails_store (write u l.payload) (write u l.payload ∷ []) n completed (cond (eqb (suc n) (2 * width p u + 3)) ready (writing u (suc n)))
        (past_pass (write u l.payload) (write u l.payload ∷ []) n h completed)
        (over (over_cond l.payload (eqb (suc n) (2 * width p u + 3)) ready (writing u (suc n)) tt (omega arith)))
    store_over completed (recovering u n) is h =
        let payload : List ℕ = cond (eqb (suc n) (width p u + 1)) (reloaded p l) l.payload in
        goes_by (stepped p l (recovering u n)) false refl refl
        (over (over_cond payload (eqb (suc n) (width p u + 1)) (resumed p l) (recovering u (suc n)) (resumed_over l payload) tt))
    store_over completed (grouping zero n) is h =
        let x : Write = write_at p l.payload 0 in
        let next : Job = cond (is_last_write p l.payload 0) ready (grouping 1 0) in
        fails_store x (count_with p l.payload 0) n completed (cond (eqb (suc n) (2 * width p x.unit + 3)) next (grouping 0 (suc n)))
        (past_pass x (count_with p l.payload 0) n h completed)
        (over (over_cond l.payload (eqb (suc n) (2 * width p x.unit + 3)) next (grouping 0 (suc n))
        (over_cond l.payload (is_last_write p l.payload 0) ready (grouping 1 0) tt tt) (omega arith)))
    store_over completed (grouping (suc i) n) is h =
        let next : Job = cond (is_last_write p l.payload (suc i)) ready (grouping (suc (suc i)) 0) in
        goes_by (stepped p l (grouping (suc i) n)) false refl (one_same (passes_at p l (write_at p l.payload (suc i)) (suc n) completed))
        (over (over_cond l.payload (eqb (suc n) (2 * width p (write_at p l.payload (suc i)).unit + 3)) next (grouping (suc i) (suc n))
        (over_cond l.payload (is_last_write p l.payload (suc i)) ready (grouping (suc (suc i)) 0) tt tt) tt))
      where
        one_same : (t : Bool) → cond t l.saved l.saved v ≡ l.saved v
        one_same true = refl
        one_same false = refl
    store_over (torn_by bytes) cold is h = goes_by (was_cut p l bytes cold) false refl refl (over tt)
    store_over (torn_by bytes) ready is h = goes_by (was_cut p l bytes ready) false refl refl (over tt)
    store_over (torn_by bytes) (writing u n) is h =
        fails_store (write u l.payload) (write u l.payload ∷ []) n (torn_by bytes) cold
        (past_pass (write u l.payload) (write u l.payload ∷ []) n h (torn_by bytes)) (over tt)
    store_over (torn_by bytes) (recovering u n) is h = goes_by (was_cut p l bytes (recovering u n)) false refl refl (over tt)
    store_over (torn_by bytes) (grouping zero n) is h =
        let x : Write = write_at p l.payload 0 in
        fails_store x (count_with p l.payload 0) n (torn_by bytes) cold (past_pass x (count_with p l.payload 0) n h (torn_by bytes)) (over tt)
    store_over (torn_by bytes) (grouping (suc i) n) is h =
        goes_by (was_cut p l bytes (grouping (suc i) n)) false refl
        (one_same (passes_at p l (write_at p l.payload (suc i)) (suc n) (torn_by bytes))) (over tt)
      where
        one_same : (t : Bool) → cond t l.saved l.saved v ≡ l.saved v
        one_same true = refl
        one_same false = refl

    store_task : (t : Task) → Asked t → (n : ℕ) → n ≤ suc (width p (task_write p l.payload t).unit)
        → amount (saving_all (counts_for p l.payload t) l.saved v) ≡ amount (l.saved v) + total_worth due
        → (e : End) (b : Bool) → passes_at p l (task_write p l.payload t) (suc n) e ≡ b → After e (job_at t n)
    store_task (alone u) asked n le eq completed true f =
        passes_store (write u l.payload) (write u l.payload ∷ []) n eq completed (cond (eqb (suc n) (2 * width p u + 3)) ready (writing u (suc n))) f
        (over_cond l.payload (eqb (suc n) (2 * width p u + 3)) ready (writing u (suc n)) tt (omega (arith, eqb-true (suc n) (width p u + 2) f)))
    store_task (alone u) asked n le eq completed false f =
        let j : Job = cond (eqb (suc n) (2 * width p u + 3)) ready (writing u (suc n)) in
        let on : j ≡ writing u (suc n) = rw (ne_eqb (suc n) (2 * width p u + 3) (omega arith)) in
        fails_store (write u l.payload) (write u l.payload ∷ []) n completed j f
        (writes (alone u) (suc n) tt on (omega (arith, eqb-false (suc n) (width p u + 2) f))
        (still (write u l.payload) (write u l.payload ∷ []) n completed j f eq))
    store_task (alone u) asked n le eq (torn_by bytes) true f =
        passes_store (write u l.payload) (write u l.payload ∷ []) n eq (torn_by bytes) cold f tt
    store_task (alone u) asked n le eq (torn_by bytes) false f =
        fails_store (write u l.payload) (write u l.payload ∷ []) n (torn_by bytes) cold f (over tt)
    store_task (part zero) asked n le eq completed true f =
        let x : Write = write_at p l.payload 0 in
        let next : Job = cond (is_last_write p l.payload 0) ready (grouping 1 0) in
        passes_store x (count_with p l.payload 0) n eq completed (cond (eqb (suc n) (2 * width p x.unit + 3)) next (grouping 0 (suc n))) f
        (over_cond l.payload (eqb (suc n) (2 * width p x.unit + 3)) next (grouping 0 (suc n))
        (over_cond l.payload (is_last_write p l.payload 0) ready (grouping 1 0) tt tt)
        (omega (arith, eqb-true (suc n) (width p x.unit + 2) f)))
    store_task (part zero) asked n le eq completed false f =
        let x : Write = write_at p l.payload 0 in
        let next : Job = cond (is_last_write p l.payload 0) ready (grouping 1 0) in
        let j : Job = cond (eqb (suc n) (2 * width p x.unit + 3)) next (grouping 0 (suc n)) in
        let on : j ≡ grouping 0 (suc n) = rw (ne_eqb (suc n) (2 * width p x.unit + 3) (omega arith)) in
        fails_store x (count_with p l.payload 0) n completed j f
        (writes (part zero) (suc n) tt on (omega (arith, eqb-false (suc n) (width p x.unit + 2) f))
        (still x (count_with p l.payload 0) n completed j f eq))
    store_task (part zero) asked n le eq (torn_by bytes) true f =
        passes_store (write_at p l.payload 0) (count_with p l.payload 0) n eq (torn_by bytes) cold f tt
    store_task (part zero) asked n le eq (torn_by bytes) false f =
        fails_store (write_at p l.payload 0) (count_with p l.payload 0) n (torn_by bytes) cold f (over tt)
    store_task (part (suc i)) asked n le eq e b f = absurd asked

    store_any : (e : End) → State l due → After e l.job
    store_any e (over h) = store_over e l.job refl h
    store_any e (writes t n asked is le eq) =
        subst (After e) (sym is) (store_task t asked n le eq e (passes_at p l (task_write p l.payload t) (suc n) e) refl)

  -- ---- a call that is accepted
  pub record Called (l l' : Ledger) (c : Call) (due : List ℕ) : Type 0 where
    pub gains : amount (l'.saved v) ≡ amount (l.saved v) + total_worth (counts p l due c)
    pub state : State l' (due_after c due)

  abbrev pub Accepts : Call → Type 0
  Accepts c = (l : Ledger) (due : List ℕ) → Promised p l → told p l c ≡ 0 → State l due → Called l (accepted p l c) c due

  pub begin_called : (role : Role) (u : ℕ) (payload : List ℕ) → ¬ (u ≡ v) → Accepts (begin role u payload)
  unfolding accepted total_worth saving_all
  begin_called role u payload h l due pr e st =
      record {
        gains = omega arith;
        state = writes (alone u) 0 tt refl (omega arith)
            (omega (arith, ap amount (saving_other u v payload l.saved (λ z. h (sym z)))));
      }

  -- a group whose members leave the unit alone; if it is the record, that is zeros, and becomes zeros
  left_alone : (g : List ℕ) → unsplit p g ≡ false → among v (members p g) ≡ false → p.grouped ≡ true → (f : ℕ → List ℕ)
      → f (last p) ≡ replicate (width p (last p)) 0 → amount (saving_all (count_with p (payload_of p g) 0) f v) ≡ amount (f v)
  unfolding count_with
  left_alone g parts h grouped f zeros =
      ap (λ (xs : List Write). amount (saving_all xs f v)) (remaining_of p g parts)
      ∙ ap (λ (k : ℕ → List ℕ). amount (k v)) (saving_snoc (members p g) f (write (last p) (replicate (width p (last p)) 0)))
      ∙ elim (same v (last p)) [
        | equal q ↦
            ap amount (ap (resaved (saving_all (members p g) f) (write (last p) (replicate (width p (last p)) 0))) q
            ∙ saving_same (last p) (replicate (width p (last p)) 0) (saving_all (members p g) f)
            ∙ sym zeros
            ∙ ap f (sym q))
        | differ q ↦
            ap amount (saving_other (last p) v (replicate (width p (last p)) 0) (saving_all (members p g) f) q
            ∙ not_written (members p g) f v h)
      ]

  pub group_called : (g : List ℕ) → among v (members p g) ≡ false → Accepts (group g)
  unfolding accepted told total_worth
  group_called g h l due pr e st =
      let a = group_says (judged p l) g e in
      let grouped = (wide_of p g a.wide).0 in
      record {
        gains = omega arith;
        state = writes (part 0) 0 tt refl (omega arith) (omega (arith, left_alone g a.parts h grouped l.saved (pr.zeros grouped)));
      }

  step_called : Accepts step
  unfolding accepted
  step_called l due pr e st =
      let s = store_any l due completed st in
      record { gains = s.gains; state = s.state }

  cut_called : (bytes : List ℕ) → Accepts (cut bytes)
  unfolding accepted
  cut_called bytes l due pr e st =
      let s = store_any l due (torn_by bytes) st in
      record { gains = s.gains; state = s.state }

  wake_called : Accepts wake
  unfolding accepted total_worth
  wake_called l due pr e st =
      let payload : List ℕ = cond (eqb l.marker OK) (reloaded p l) l.payload in
      record {
        gains = omega arith;
        state = over (over_cond payload (eqb l.marker OK) (resumed p l) (recovering l.unit 0) (resumed_over l payload) tt);
      }

  -- ---- along a list
  module _ (ok : PlanOk p) (before : List ℕ) where
    abbrev pub Adds : List Call → Type 0
    Adds cs =
        (l : Ledger) (o : Outcome) (due : List ℕ) → Inv p before l o → Promised p l → State l due
        → amount ((after p l cs).saved v) ≡ amount (l.saved v) + total_worth (passed p l due cs)

    fed_refused : (l : Ledger) (c : Call) (n : ℕ) → told p l c ≡ suc n → fed p l c ≡ l
    unfolding fed
    fed_refused l c n e = rw e

    pub adds_none : Adds []
    unfolding after passed total_worth
    adds_none l o due inv pr st = omega arith

    pub adds_call : (c : Call) (cs : List Call) → Accepts c → Adds cs → Adds (c ∷ cs)
    unfolding after passed fed told
    adds_call c cs accepts rest l o due inv pr st = go (told p l c) refl
      where
        next : (due' : List ℕ) → State (fed p l c) due'
            → amount ((after p (fed p l c) cs).saved v) ≡ amount ((fed p l c).saved v) + total_worth (passed p (fed p l c) due' cs)
        next due' s = rest (fed p l c) (call c o) due' (keeps p ok before l o inv c).kept (saved_fed p ok before l o inv pr c) s

        go : (n : ℕ) → told p l c ≡ n
            → amount ((after p (fed p l c) cs).saved v)
            ≡ amount (l.saved v)
            + total_worth (when_accepted n (counts p l due c) [] ++ passed p (fed p l c) (when_accepted n (due_after c due) due) cs)
        go zero e =
            let s = accepts l due pr e st in
            let is : fed p l c ≡ accepted p l c = fed_accepted p ok before l c e in
            let later : List ℕ = passed p (fed p l c) (due_after c due) cs in
            omega (
              arith,
              s.gains,
              ap (λ (x : Ledger). amount (x.saved v)) is,
              next (due_after c due) (subst (λ (x : Ledger). State x (due_after c due)) (sym is) s.state),
              worth_append (counts p l due c) later,
            )
        go (suc n) e =
            let is : fed p l c ≡ l = fed_refused l c n e in
            next due (subst (λ (x : Ledger). State x due) (sym is) st)
            ∙ ap (λ (x : Ledger). amount (x.saved v) + total_worth (passed p (fed p l c) due cs)) is

    pub adds_step : (cs : List Call) → Adds cs → Adds (step ∷ cs)
    adds_step cs rest = adds_call step cs step_called rest

    pub adds_cut : (bytes : List ℕ) (cs : List Call) → Adds cs → Adds (cut bytes ∷ cs)
    adds_cut bytes cs rest = adds_call (cut bytes) cs (cut_called bytes) rest

    pub adds_wake : (cs : List Call) → Adds cs → Adds (wake ∷ cs)
    adds_wake cs rest = adds_call wake cs wake_called rest

    pub all_saved : (f : Outcome) → Inv p before (opening p) f → (cs : List Call) → Adds cs
        → amount ((after p (opening p) cs).saved v) ≡ sum (map worth (passed p (opening p) [] cs))
    unfolding opening total_worth
    all_saved f inv cs adds =
        omega (
          arith,
          adds (opening p) f [] inv (promise_opens p ok) (over tt),
          zeros_amount (width p v),
          worth_sum (passed p (opening p) [] cs),
        )

-- ---- What a paid ride saves: unit 0 and unit 1, neither of which is the record.
pub paid_saved : (p : Plan) (l : Ledger) {a b : List ℕ} {turns : ℕ} → Fare (judged p l) a b turns → (f : ℕ → List ℕ)
    → (saving_all (count_with p (payload_of p (paid_group a b turns)) 0) f 0 ≡ plus a turns)
    × (saving_all (count_with p (payload_of p (paid_group a b turns)) 0) f 1 ≡ plus b (price turns))
unfolding count_with saving_all
paid_saved p l {a} {b} {turns} fare f =
    let g : List ℕ = paid_group a b turns in
    let zeros : List ℕ = replicate (width p (last p)) 0 in
    let both = paid_members p fare.two fare.wide₀ fare.wide₁ a b turns in
    let all : (v : ℕ) → saving_all (count_with p (payload_of p g) 0) f v ≡ resaved (saving_all (members p g) f) (write (last p) zeros) v =
    λ v. ap (λ (xs : List Write). saving_all xs f v) (remaining_of p g fare.group.parts)
    ∙ ap (λ (k : ℕ → List ℕ). k v) (saving_snoc (members p g) f (write (last p) zeros)) in
    let first : ℕ → List ℕ = saving 0 (plus a turns) f in (
      all 0
          ∙ saving_other (last p) 0 zeros (saving_all (members p g) f) (λ z. absurd (omega (arith, fare.two)))
          ∙ ap (λ (xs : List Write). saving_all xs f 0) both
          ∙ saving_other 1 0 (plus b (price turns)) first (λ z. absurd (omega arith))
          ∙ saving_same 0 (plus a turns) f,
      all 1
          ∙ saving_other (last p) 1 zeros (saving_all (members p g) f) fare.other
          ∙ ap (λ (xs : List Write). saving_all xs f 1) both
          ∙ saving_same 1 (plus b (price turns)) first,
    )

-- ---- The turns.
module _ (p : Plan) where
  abbrev turn : ℕ → ℕ
  turn n = n

  turns_same : (xs : List ℕ) → map turn xs ≡ xs
  turns_same [] = refl
  turns_same (x ∷ xs) = ap (λ (ys : List ℕ). x ∷ ys) (turns_same xs)

  ride_called : (turns : ℕ) → Accepts p 0 turn (ride turns)
  unfolding accepted told total_worth saving_all
  ride_called turns l due pr e st =
      let r = ride_says (judged p l) (l.written 0) turns e in
      record {
        gains = omega arith;
        state = writes (alone 0) 0 tt refl (omega arith)
            (omega (
              arith,
              ap amount (saving_same 0 (plus (l.written 0) turns) l.saved),
              plus_amount (l.written 0) turns r.room,
              ap (λ (f : ℕ → List ℕ). amount (f 0)) (ready_same p l pr r.job),
            ));
      }

  paid_called : (turns : ℕ) → Accepts p 0 turn (paid turns)
  unfolding accepted told total_worth count_with
  paid_called turns l due pr e st =
      let fare = paid_says (judged p l) (l.written 0) (l.written 1) turns e in
      record {
        gains = omega arith;
        state = writes (part 0) 0 tt refl (omega arith)
            (omega (
              arith,
              ap amount (paid_saved p l fare l.saved).0,
              plus_amount (l.written 0) turns fare.room₀,
              ap (λ (f : ℕ → List ℕ). amount (f 0)) (ready_same p l pr fare.group.job),
            ));
      }

  module _ (ok : PlanOk p) (before : List ℕ) where
    adds : (cs : List Call) → OnlyRides p 0 cs → Adds p 0 turn ok before cs
    adds [] h = adds_none p 0 turn ok before
    adds (begin role u payload ∷ cs) h = adds_call p 0 turn ok before (begin role u payload) cs (begin_called p 0 turn role u payload h.0) (adds cs h.1)
    adds (ride turns ∷ cs) h = adds_call p 0 turn ok before (ride turns) cs (ride_called turns) (adds cs h)
    adds (group g ∷ cs) h = adds_call p 0 turn ok before (group g) cs (group_called p 0 turn g h.0) (adds cs h.1)
    adds (paid turns ∷ cs) h = adds_call p 0 turn ok before (paid turns) cs (paid_called turns) (adds cs h)
    adds (step ∷ cs) h = adds_step p 0 turn ok before cs (adds cs h)
    adds (cut bytes ∷ cs) h = adds_cut p 0 turn ok before bytes cs (adds cs h)
    adds (wake ∷ cs) h = adds_wake p 0 turn ok before cs (adds cs h)

    pub turns_saved : (f : Outcome) → Inv p before (opening p) f → (cs : List Call) → OnlyRides p 0 cs
        → amount ((after p (opening p) cs).saved 0) ≡ turns_over p cs
    turns_saved f inv cs h =
        all_saved p 0 turn ok before f inv cs (adds cs h) ∙ ap sum (turns_same (passed p (opening p) [] cs))

  pub closed : (u : ℕ) (bytes : List ℕ) (cs : List Call) → OnlyRides p u cs → OnlyRides p u (closed_by bytes cs)
  closed u bytes [] h = tt
  closed u bytes (begin role v payload ∷ cs) h = (h.0, closed u bytes cs h.1)
  closed u bytes (ride turns ∷ cs) h = closed u bytes cs h
  closed u bytes (group g ∷ cs) h = (h.0, closed u bytes cs h.1)
  closed u bytes (paid turns ∷ cs) h = closed u bytes cs h
  closed u bytes (step ∷ cs) h = closed u bytes cs h
  closed u bytes (cut other ∷ cs) h = closed u bytes cs h
  closed u bytes (wake ∷ cs) h = closed u bytes cs h

-- what the console shows of a Ready device whose markers are OK
pub shown : (p : Plan) → PlanOk p → (o : Outcome) → o.device.plan ≡ p → o.device.phase ≡ Ready → total p ≤ length o.image
    → AllMarkersOk p o.image → (u : ℕ) → u < p.count → width p u ≡ 8 → (role : Role) → MaySee p.rights role u
    → (n : ℕ) → amount (copy_of p o.image u copy_a) ≡ n
    → calls.total_of o.device o.image role u ≡ record { number = 0; amount = n }
unfolding calls.total_of
shown p ok o plan phase long markers u h w role right n holds =
    let v : View = view_of p o.device.payload Ready o.image in
    let fine : total_number v role u ≡ 0 = total_ready v ok (le-ltb (length o.image) (total p) long) refl role u h (may_see_lem p.rights role u right) (markers u h) w in
    ap₂ (λ (q : Plan) (x : Phase). total_unless_refused (total_number (view_of q o.device.payload x o.image) role u) (amount (copy_of q o.image u copy_a))) plan phase
    ∙ ap₂ total_unless_refused fine holds

pub turns_add_up : TurnsAddUp
turns_add_up d image e cs bytes closes h =
    let p : Plan = d.plan in
    let f : Outcome = calls.format d image in
    let opens = format_opens d image e in
    let first : 0 < p.count = (count_bounds p opens.0).0 in
    let s = (power_cut d image e cs bytes closes).repaired in
    let i = (along p opens.0 image (repair s.steps) _ _ (along p opens.0 image (closed_by bytes cs) (opening p) f opens.1).inv).inv in
    let holds : (c : Copy) → amount (copy_of p (run (repair s.steps) (run (closed_by bytes cs) f)).image 0 c) ≡ turns_over p (closed_by bytes cs) =
    λ c. ap amount (s.copies 0 first c) ∙ turns_saved p opens.0 image f opens.1 (closed_by bytes cs) (closed p 0 bytes cs h) in
    record {
      steps = s.steps;
      needed = s.needed;
      accepted = s.accepted;
      holds = holds;
      shows = λ w role right. shown p opens.0 (run (repair s.steps) (run (closed_by bytes cs) f)) i.plan s.ready i.frame.long s.markers 0 first w role right _ (holds copy_a);
    }
