-- Ticket 11: no role finds out about a unit that it may not see, and none changes a unit that it may not write.
use Prim.Native.Nat.{ℕ, zero, suc, ◌+◌, ◌-◌, ◌<◌, min}
use mathlib.Core.Path.{◌≡◌, refl, ap, ap₂, sym, ◌∙◌, subst}
use mathlib.Core.List.{List, [], ◌∷◌, ◌++◌}
use mathlib.Core.Option.{Option, none, some}
use mathlib.Core.Bool.{Bool, true, false, cond, not, true≢false}
use native.Mathlib.Omega.{arith}
use lib.Dec.{eqb, ltb, leb}
use lib.ListN.{length, get_or, get_elem?, take, drop, length-take, length-drop}
use lib.Seq.{get_or-take, get_or-drop, ext_get_or}
use borrow.Author.Tests.{leb-false, not-false}
use Rattle.model.specs.declared.Plan.{Plan}
use Rattle.model.specs.declared.Rights.{Rights}
use Rattle.model.specs.declared.Role.{Role}
use Rattle.model.specs.declared.Phase.{Phase}
use Rattle.model.specs.declared.Phase.TheVariants.{Cold, Ready, Writing, Recovering, Grouping}
use Rattle.model.specs.Marker.{OK, completed}
use Rattle.model.specs.Rights.{may_see, may_write}
use Rattle.model.specs.Layout.{copy_a, Cell, marker, byte, InUnit, width, unit_length, base, total, place, get, put, copy_of, unit_of}
use Rattle.model.specs.Groups.{is_record}
use Rattle.model.specs.Turns.{amount}
use Rattle.model.specs.Refusals.{Refusal, ◌when◌, first, first_four, device_row, is_ready, write_total, read_number, total_number, begin_number, step_number}
use Rattle.model.specs.Stores.{Store, write_stores, stored}
use Rattle.model.specs.Calls.{Device, Outcome, outcome, as_stepped, view, job_of, held_in, next, image_after, phase_after, payload_after, step_from, unless_refused, part_unless_refused, total_unless_refused}
use Rattle.model.specs.Calls as calls
use Rattle.model.specs.Demands.{WriteStore, NextStore}
use Rattle.model.specs.Demands as demands
use Rattle.model.specs.Roles.{Ask, read, begin, step, ask, shown, amounts, replies, leaves, Unseen, Untouched}
use Rattle.model.specs.Roles as roles
use Rattle.model.proofs.Compare.{below, above, order}
use Rattle.model.proofs.RefusalLaws.{PlanOk, first_past, first_from, past, begin_right}
use Rattle.model.proofs.LayoutLaws.{offset_bound, unit_some, copy_bound, base_bound, length_stored}
use Rattle.model.proofs.Demands.{steps}
use Rattle.model.proofs.RightLaws.{see_may, write_sees, not_written}
use Rattle.model.proofs.Filler.{set_same, unrefused_same}

-- ---- Two lists of one length, alike in n bytes from q on: byte by byte, and as parts.
abbrev Same : List ℕ → List ℕ → ℕ → ℕ → Type 0
Same a b q n = (i : ℕ) → i < n → get_or a (q + i) 0 ≡ get_or b (q + i) 0

part_same : (a b : List ℕ) (q n : ℕ) → length a ≡ length b → Same a b q n → take n (drop q a) ≡ take n (drop q b)
part_same a b q n size h =
    let la : length (take n (drop q a)) ≡ min n (length a - q) = simp (length-take, length-drop) in
    let lb : length (take n (drop q b)) ≡ min n (length b - q) = simp (length-take, length-drop) in
    ext_get_or 0 (take n (drop q a)) (take n (drop q b)) (omega (arith, la, lb))
    (λ i l.
    let k : i < n = omega (arith, la) in
    get_or-take n (drop q a) i 0 k ∙ get_or-drop q a i 0 ∙ h i k ∙ sym (get_or-drop q b i 0) ∙ sym (get_or-take n (drop q b) i 0 k))

same_part : (a b : List ℕ) (q n : ℕ) → take n (drop q a) ≡ take n (drop q b) → Same a b q n
same_part a b q n e i k =
    sym (get_or-drop q a i 0) ∙ sym (get_or-take n (drop q a) i 0 k) ∙ ap (λ (l : List ℕ). get_or l i 0) e
    ∙ get_or-take n (drop q b) i 0 k ∙ get_or-drop q b i 0

-- the same completed store in both
stored_same : (p : Plan) (a b : List ℕ) (o : Option Store) (j : ℕ) → length a ≡ length b → get_or a j 0 ≡ get_or b j 0
    → get_or (stored p a completed o) j 0 ≡ get_or (stored p b completed o) j 0
unfolding stored put
stored_same p a b none j size h = h
stored_same p a b (some s) j size h = set_same a b (place p s.unit s.cell) j s.value size h

module _ (role : Role) where
  -- From Ready a role's calls come to a write that the role may make, and to no other job.
  abbrev Allowed : Rights → Phase → Type 0
  Allowed rights Cold = ⊥
  Allowed rights Ready = Unit
  Allowed rights (Writing u made) = may_write rights role u ≡ true
  Allowed rights (Recovering u made way) = ⊥
  Allowed rights (Grouping i made) = ⊥

  written_on : (rights : Rights) (u made : ℕ) (t : Bool) → may_write rights role u ≡ true → Allowed rights (cond t Ready (Writing u (suc made)))
  written_on rights u made true h = tt
  written_on rights u made false h = h

  -- ---- What a role finds out. The images are of one length, and alike in what the role may see.
  pub record Seen (p : Plan) (a b : List ℕ) : Type 0 where
    pub size : length a ≡ length b
    pub units : (u : ℕ) → u < p.count → may_see p.rights role u ≡ true → Same a b (base p u) (unit_length p u)

  -- the same number and device, and images that the role cannot tell apart
  pub record Next (x y : Outcome) : Type 0 where
    pub number : x.number ≡ y.number
    pub device : x.device ≡ y.device
    pub seen : Seen x.device.plan x.image y.image
    pub allowed : Allowed x.device.plan.rights x.device.phase

  module _ (d : Device) (a b : List ℕ) (allowed : Allowed d.plan.rights d.phase) (seen : Seen d.plan a b) where
    abbrev p : Plan
    p = d.plan

    abbrev Sees : ℕ → Type 0
    Sees u = (u < p.count) × (may_see p.rights role u ≡ true)

    marker_seen : PlanOk p → (u : ℕ) → Sees u → get p a u marker ≡ get p b u marker
    unfolding get
    marker_seen ok u h = seen.units u h.0 h.1 0 (unit_some p ok u)

    held_seen : PlanOk p → (u : ℕ) → Sees u → copy_of p a u copy_a ≡ copy_of p b u copy_a
    unfolding copy_of
    held_seen ok u h =
        part_same a b (place p u (byte copy_a 0)) (width p u) seen.size
        (λ i l.
        let e : base p u + (p.page + 0) + i ≡ base p u + (p.page + 0 + i) = omega arith in
        rw e (seen.units u h.0 h.1 (p.page + 0 + i) (omega (arith, copy_bound p ok u copy_a))))

    -- the tests of plan, length and phase see no byte; a marker is looked at behind tests that say that the role may see the unit
    row_same : (pre : List Refusal) (tail : ℕ → List Refusal) (u : ℕ) → (first pre ≡ 0 → Sees u)
        → first (device_row (view d a) ++ (pre ++ tail (get p a u marker))) ≡ first (device_row (view d b) ++ (pre ++ tail (get p b u marker)))
    row_same pre tail u says =
        ap (λ (n : ℕ). first (first_four p (ltb n (total p)) d.payload (job_of d.phase) ++ (pre ++ tail (get p a u marker)))) seen.size
        ∙ first_from (device_row (view d b)) (pre ++ tail (get p a u marker)) (pre ++ tail (get p b u marker))
        (λ e.
        let ok : PlanOk p = (past (view d b) [] e).plan in
        first_from pre (tail (get p a u marker)) (tail (get p b u marker)) (λ e'. ap (λ (m : ℕ). first (tail m)) (marker_seen ok u (says e'))))

    abbrev read_row : ℕ → List Refusal
    read_row u = 5 when not (is_ready (job_of d.phase)) ∷ 6 when leb p.count u ∷ 22 when not (may_see p.rights role u) ∷ []

    read_says : (u : ℕ) (rest : List Refusal) → first (read_row u ++ rest) ≡ 0 → Sees u
    read_says u rest e =
        let h₅ = first_past 4 (not (is_ready (job_of d.phase))) _ e in
        let h₆ = first_past 5 (leb p.count u) _ h₅.1 in
        let h₂₂ = first_past 21 (not (may_see p.rights role u)) _ h₆.1 in
        (leb-false p.count u h₆.0, not-false _ h₂₂.0)

    abbrev begin_row : ℕ → List Refusal
    begin_row u =
        5 when not (is_ready (job_of d.phase)) ∷ 6 when leb p.count u ∷ 20 when is_record p u ∷ 22 when not (may_write p.rights role u) ∷ []

    begin_sees : (u : ℕ) → first (begin_row u) ≡ 0 → Sees u
    begin_sees u e =
        let h₅ = first_past 4 (not (is_ready (job_of d.phase))) _ e in
        let h₆ = first_past 5 (leb p.count u) _ h₅.1 in
        let h₂₀ = first_past 19 (is_record p u) _ h₆.1 in
        let h₂₂ = first_past 21 (not (may_write p.rights role u)) _ h₂₀.1 in
        (leb-false p.count u h₆.0, write_sees p.rights role u (not-false _ h₂₂.0))

    read_same : (u : ℕ) → read_number (view d a) role u ≡ read_number (view d b) role u
    unfolding read_number
    read_same u = row_same (read_row u) (λ m. 8 when not (eqb m OK) ∷ []) u (read_says u [])

    total_same : (u : ℕ) → total_number (view d a) role u ≡ total_number (view d b) role u
    unfolding total_number
    total_same u = row_same (read_row u) (λ m. 8 when not (eqb m OK) ∷ 16 when not (eqb (width p u) 8) ∷ []) u (read_says u [])

    begin_same : (u n : ℕ) → begin_number (view d a) role u n ≡ begin_number (view d b) role u n
    unfolding begin_number
    begin_same u n = row_same (begin_row u) (λ m. 7 when not (eqb n (width p u)) ∷ 8 when not (eqb m OK) ∷ []) u (begin_sees u)

    step_same : step_number (view d a) ≡ step_number (view d b)
    unfolding step_number
    step_same = rw seen.size

    -- ---- what is shown, unless it is refused
    read_held : (u : ℕ) (rest : List Refusal) → first (device_row (view d a) ++ (read_row u ++ rest)) ≡ 0 → held_in d a u ≡ held_in d b u
    read_held u rest e =
        let h = past (view d a) (read_row u ++ rest) e in
        held_seen h.plan u (read_says u rest h.more)

    part_shown : (u : ℕ) → calls.read d a role u ≡ calls.read d b role u
    unfolding calls.read read_number
    part_shown u =
        unrefused_same part_unless_refused [] (λ n x. refl) (read_number (view d a) role u) (read_number (view d b) role u) (read_same u)
        (read_held u _)

    total_shown : (u : ℕ) → calls.total_of d a role u ≡ calls.total_of d b role u
    unfolding calls.total_of total_number
    total_shown u =
        unrefused_same total_unless_refused 0 (λ n x. refl) (total_number (view d a) role u) (total_number (view d b) role u) (total_same u)
        (λ z. ap amount (read_held u _ z))

    shown_same : (x : Ask) → shown role x d a ≡ shown role x d b
    unfolding shown
    shown_same (read u) = part_shown u
    shown_same (roles.total u) = refl
    shown_same (begin u payload) = refl
    shown_same step = refl

    amounts_same : (x : Ask) → amounts role x d a ≡ amounts role x d b
    unfolding amounts
    amounts_same (read u) = refl
    amounts_same (roles.total u) = ap (λ (t : calls.Total). t.amount) (total_shown u)
    amounts_same (begin u payload) = refl
    amounts_same step = refl

    -- ---- what comes next
    settled : (n n' : ℕ) (x y : Outcome) → n ≡ n' → (n ≡ 0 → Next x y) → Next (unless_refused n d a x) (unless_refused n' d b y)
    settled zero zero x y e h = h refl
    settled zero (suc n') x y e h = absurd (omega arith)
    settled (suc n) zero x y e h = absurd (omega arith)
    settled (suc n) (suc n') x y e h = record { number = e; device = refl; seen = seen; allowed = allowed }

    stored_seen : (o : Option Store) → Seen p (stored p a completed o) (stored p b completed o)
    stored_seen o =
        record {
          size = length_stored p a completed o ∙ seen.size ∙ sym (length_stored p b completed o);
          units = λ u h m i l. stored_same p a b o (base p u + i) seen.size (seen.units u h m i l);
        }

    abbrev step_to : Phase → List ℕ → Outcome
    step_to phase image =
        let left : List ℕ = stored p image completed (next p d.payload image phase) in
        outcome 0 (as_stepped (phase_after p d.payload left phase) (payload_after p d.payload left phase) d) left

    -- a store of a write looks at no byte of the image
    step_next : (phase : Phase) → Allowed p.rights phase → Next (step_to phase a) (step_to phase b)
    unfolding next phase_after payload_after
    step_next Cold h = absurd h
    step_next Ready h = record { number = refl; device = refl; seen = stored_seen none; allowed = tt }
    step_next (Writing u made) h =
        record {
          number = refl;
          device = refl;
          seen = stored_seen (get_elem? (write_stores p u d.payload) made);
          allowed = written_on p.rights u made (eqb (suc made) (write_total (width p u))) h;
        }
    step_next (Recovering u made way) h = absurd h
    step_next (Grouping i made) h = absurd h

    ask_next : (x : Ask) → Next (ask role x d a) (ask role x d b)
    unfolding ask calls.begin calls.step image_after
    ask_next (read u) = record { number = read_same u; device = refl; seen = seen; allowed = allowed }
    ask_next (roles.total u) =
        record { number = ap (λ (t : calls.Total). t.number) (total_shown u); device = refl; seen = seen; allowed = allowed }
    ask_next (begin u payload) =
        settled _ _ _ _ (begin_same u (length payload))
        (λ e. record { number = refl; device = refl; seen = seen; allowed = begin_right (view d a) role u (length payload) e })
    ask_next step = settled _ _ _ _ step_same (λ e. step_next d.phase allowed)

  replies_same : (asks : List Ask) (d : Device) (a b : List ℕ) → Allowed d.plan.rights d.phase → Seen d.plan a b
      → replies role asks d a ≡ replies role asks d b
  unfolding replies
  replies_same [] d a b allowed seen = refl
  replies_same (x ∷ asks) d a b allowed seen =
      let n = ask_next d a b allowed seen x in
      let rest = replies_same asks (ask role x d a).device (ask role x d a).image (ask role x d b).image n.allowed n.seen in
      ap₂ ◌∷◌
      (λ i. record {
        number = n.number i;
        part = shown_same d a b allowed seen x i;
        amount = amounts_same d a b allowed seen x i;
        device = n.device i;
      })
      (rest ∙ ap (λ (y : Device). replies role asks y (ask role x d b).image) n.device)

pub unseen : Unseen
unseen role d d' image image' ready ready' plan stores payload size alike asks =
    let e : d ≡ d' = λ i. record { plan = plan i; payload = payload i; phase = (ready ∙ sym ready') i; stores = stores i } in
    replies_same role asks d image image' (rw ready tt)
    (record { size = size; units = λ u h m. same_part image image' _ _ (alike u h (see_may d.plan.rights role u m)) })
    ∙ ap (λ (x : Device). replies role asks x image') e

-- ---- What a role changes. A store of a write is in a cell of its unit,
in_unit : {w : ℕ} {payload : List ℕ} {made : ℕ} {c : Cell} {x : ℕ} → WriteStore w payload made c x → InUnit w c
in_unit (demands.WriteStore.marker_a e) = tt
in_unit (demands.WriteStore.to_a i h e) = h
in_unit (demands.WriteStore.marker_b e) = tt
in_unit (demands.WriteStore.to_b i h e) = h
in_unit (demands.WriteStore.marker_ok e) = tt

-- and leaves every other unit as it was
apart : (p : Plan) → PlanOk p → (image image' : List ℕ) (u v : ℕ) (c : Cell) → length image' ≡ length image → ¬ (v ≡ u) → InUnit (width p v) c
    → ((i : ℕ) → ¬ (i ≡ place p v c) → get_or image' i 0 ≡ get_or image i 0)
    → unit_of p image' u ≡ unit_of p image u
apart p ok image image' u v c size other h others =
    part_same image' image (base p u) (unit_length p u) size
    (λ i l. others (base p u + i)
    (λ e.
    elim (order u v) [
      | below q ↦ omega (arith, base_bound p ok u v q, offset_bound p ok v c h)
      | above q ↦ omega (arith, base_bound p ok v u (omega arith), offset_bound p ok v c h)
    ]))

module _ (role : Role) (u : ℕ) where
  -- the plan stays, and so do the role's jobs and the unit that it may not write
  pub record Kept (d : Device) (image : List ℕ) (o : Outcome) : Type 0 where
    pub plan : o.device.plan ≡ d.plan
    pub allowed : Allowed role d.plan.rights o.device.phase
    pub unit : unit_of d.plan o.image u ≡ unit_of d.plan image u

  module _ (d : Device) (image : List ℕ) (allowed : Allowed role d.plan.rights d.phase) (barred : may_write d.plan.rights role u ≡ false) where
    goes : (n : ℕ) (o : Outcome) → (n ≡ 0 → Kept d image o) → Kept d image (unless_refused n d image o)
    goes zero o h = h refl
    goes (suc n) o h = record { plan = refl; allowed = allowed; unit = refl }

    -- the next store is of a write, hence of a unit that the role may write
    stored_there : {phase : Phase} {v : ℕ} {c : Cell} {x : ℕ} → NextStore d.plan d.payload image phase v c x
        → Allowed role d.plan.rights phase → ¬ (v ≡ u) × InUnit (width d.plan v) c
    stored_there (demands.NextStore.of_write v made c x s) h =
        (λ e. true≢false (sym h ∙ ap (may_write d.plan.rights role) e ∙ barred), in_unit s)
    stored_there (demands.NextStore.of_cleanup v made way c x s) h = absurd h
    stored_there (demands.NextStore.of_group g bytes ms i made v c x gives of s) h = absurd h

    phase_kept : (image' : List ℕ) (phase : Phase) → Allowed role d.plan.rights phase
        → Allowed role d.plan.rights (phase_after d.plan d.payload image' phase)
    unfolding phase_after
    phase_kept image' Cold h = h
    phase_kept image' Ready h = h
    phase_kept image' (Writing v made) h = written_on role d.plan.rights v made (eqb (suc made) (write_total (width d.plan v))) h
    phase_kept image' (Recovering v made way) h = absurd h
    phase_kept image' (Grouping i made) h = absurd h

    step_kept : step_number (view d image) ≡ 0 → Kept d image (outcome 0 (step_from d (image_after completed d image)) (image_after completed d image))
    unfolding step_number
    step_kept e =
        let s = steps d image e in
        let t = stored_there s.store allowed in
        record {
          plan = refl;
          allowed = phase_kept (image_after completed d image) d.phase allowed;
          unit = apart d.plan (past (view d image) _ e).plan image _ u s.unit s.cell s.image'.size t.0 t.1 s.image'.others;
        }

    ask_kept : (x : Ask) → Kept d image (ask role x d image)
    unfolding ask calls.begin calls.step
    ask_kept (read v) = record { plan = refl; allowed = allowed; unit = refl }
    ask_kept (roles.total v) = record { plan = refl; allowed = allowed; unit = refl }
    ask_kept (begin v payload) =
        goes (begin_number (view d image) role v (length payload)) _
        (λ e. record { plan = refl; allowed = begin_right (view d image) role v (length payload) e; unit = refl })
    ask_kept step = goes (step_number (view d image)) _ step_kept

  leaves_unit : (asks : List Ask) (d : Device) (image : List ℕ) → Allowed role d.plan.rights d.phase
      → may_write d.plan.rights role u ≡ false → unit_of d.plan (leaves role asks d image) u ≡ unit_of d.plan image u
  unfolding leaves
  leaves_unit [] d image allowed barred = refl
  leaves_unit (x ∷ asks) d image allowed barred =
      let k = ask_kept d image allowed barred x in
      let d' : Device = (ask role x d image).device in
      let image' : List ℕ = (ask role x d image).image in
      let rest = leaves_unit asks d' image' (subst (λ (q : Plan). Allowed role q.rights d'.phase) (sym k.plan) k.allowed)
      (ap (λ (q : Plan). may_write q.rights role u) k.plan ∙ barred) in
      subst (λ (q : Plan). unit_of q (leaves role asks d' image') u ≡ unit_of q image' u) k.plan rest ∙ k.unit

pub untouched : Untouched
untouched role d image ready asks u h barred = leaves_unit role u asks d image (rw ready tt) (not_written d.plan.rights role u barred)
