-- A step on the parts of a device against its definition: refused, or made.
use Prim.Native.Nat.{ℕ, zero, suc, ◌+◌, ◌<◌, ◌≤◌, min}
use mathlib.Core.Path.{◌≡◌, refl, ap, ap₂, sym, ◌∙◌, subst}
use mathlib.Core.List.{List, [], ◌∷◌, ◌++◌}
use mathlib.Core.Option.{Option}
use mathlib.Core.Bool.{Bool, true, false, ◌||◌}
use native.Mathlib.Omega.{arith}
use native.Mathlib.Numerals.{add-one}
use lib.Dec.{ltb, leb}
use lib.ListN.{length, get_elem?, set, drop}
use borrow.Author.Tests.{lt-ltb, le-ltb, lt-leb, le-leb}
use Rattle.model.proofs.Compare.{below, above, order}
use Rattle.choice.specs.declared.Choice.{Choice}
use Rattle.choice.specs.Picked.{Picked}
use Rattle.lookup.specs.declared.Span.{Span}
use Rattle.lookup.specs.Spans.{job_row, Spans}
use Rattle.model.specs.declared.Plan.{Plan}
use Rattle.model.specs.declared.Phase.{Phase}
use Rattle.model.specs.declared.Direction.{Direction}
use Rattle.model.specs.declared.Direction.TheVariants.{AToB}
use Rattle.model.specs.declared.Phase.TheVariants.{Cold, Ready, Writing, Recovering, Grouping}
use Rattle.model.specs.Marker.{completed}
use Rattle.model.specs.Layout.{width, offset, base, total, put}
use Rattle.model.specs.Refusals.{SHORT-IMAGE, BAD-JOB, is_cold, is_ready, bad_write, bad_job, write_total, cleanup_total, ◌when◌, first, plan_row, device_row, start_number, step_number}
use Rattle.model.specs.Groups.{write_at}
use Rattle.model.specs.Stores.{Store, write_stores, cleanup_stores, stored}
use Rattle.model.specs.Calls.{most_stores, counted, job_of, view_of, outcome, next, image_after, cleanup_from, resumed, reloaded, phase_after, payload_after, step}
use Rattle.model.proofs.RefusalLaws.{PlanOk, start_says, start_fine, count_bounds, plan_passed, first_skip, first_stop, first_none, first_refused, first_from, step_cold, step_ready}
use Rattle.model.proofs.StoreLaws.{write_goes_on, write_ends, cleanup_goes_on, cleanup_ends, cleanup_holds, cleanup_loads, task_goes_on, task_ends}
use Rattle.model.proofs.Tasks.{part}
use Rattle.group.specs.declared.Part.{Part}
use Rattle.group.specs.Parts.{PartOf}
use Rattle.group.proofs.Next.{part_stores}
use Rattle.advance.specs.declared.Progress.{Progress}
use Rattle.advance.specs.Advances.{parts, StepsTo, Stored, Full, Advances, unit_of}
use Rattle.std.specs.Prelude.{Result, Ok, Err}
use Rattle.model.specs.declared.refusals.Refusal.{Refusal}
use Rattle.model.specs.declared.refusals.Refusal.TheVariants.{WrongPhase}
use Rattle.model.specs.Numbers.{number_of}
use Rattle.model.proofs.Numbered.{number_some}
use mathlib.Core.Logic.{◌⊎◌, inl, inr}

module _ (p : Plan) (payload : List ℕ) (phase : Phase) (image : List ℕ) where
  abbrev idle : Bool
  idle = is_cold (job_of phase) || is_ready (job_of phase)

  abbrev late : Bool
  late = bad_job p payload (job_of phase)

  refused_step : (k earlier : ℕ) → k ≡ step_number (view_of p payload phase image) → ¬ (k ≡ 0)
      → outcome k (parts p payload phase earlier) image ≡ step (parts p payload phase earlier) image
  unfolding step
  refused_step zero earlier e h = absurd (h refl)
  refused_step (suc k) earlier e h = rw (sym e)

  -- e is the code's refusal
  refused : (e : Refusal) → number_of e ≡ step_number (view_of p payload phase image) → StepsTo p payload payload phase image image (Err e)
  refused e is earlier = refused_step (number_of e) earlier is (number_some e)

  -- the plan and the image are fine, and t is what 4 says of the job
  module _ (ok : PlanOk p) (long : total p ≤ length image) (t : Bool) (job : late ≡ t) where
    from_job : step_number (view_of p payload phase image) ≡ first (4 when t ∷ 5 when idle ∷ [])
    unfolding step_number
    from_job =
        plan_passed p _ (start_fine p ok)
        ∙ first_skip 3 _ _ (le-ltb (length image) (total p) long)
        ∙ ap (λ (b : Bool). first (4 when b ∷ 5 when idle ∷ [])) job

  -- the step's definition, where it is not refused
  made : step_number (view_of p payload phase image) ≡ 0 → (after : List ℕ) → after ≡ stored p image completed (next p payload image phase)
      → (phase' : Phase) (held : List ℕ) → phase' ≡ phase_after p payload after phase → held ≡ payload_after p payload after phase
      → StepsTo p payload held phase image after (Ok phase')
  unfolding step image_after
  made passed after is phase' held follows loads earlier = rw (passed, follows, loads, is)

-- ---- The lookup refuses, whatever the phase: Cold, Ready and a group were looked up at unit 0, and every plan that is not refused
-- has one.
unit_first : (p : Plan) (n : ℕ) (late : Bool)
    → first (plan_row p ++ (SHORT-IMAGE when ltb n (total p) ∷ BAD-JOB when (leb p.count 0 || late) ∷ []))
    ≡ first (plan_row p ++ (SHORT-IMAGE when ltb n (total p) ∷ BAD-JOB when late ∷ []))
unfolding start_number
unit_first p n late =
    first_from (plan_row p) _ _ (λ e. rw (lt-leb p.count 0 (count_bounds p (start_says p e)).0))

module _ (p : Plan) (payload : List ℕ) (image : List ℕ) where
  looked : (e : Refusal) (phase : Phase) → ((late : Bool) → number_of e ≡ job_row p (unit_of phase) (length image) late)
      → number_of e ≡ first (device_row (view_of p payload phase image))
  unfolding bad_job
  looked e Cold s = s false ∙ unit_first p (length image) false
  looked e Ready s = s false ∙ unit_first p (length image) false
  looked e (Writing u n) s = s (leb (write_total (width p u)) n)
  looked e (Recovering u n d) s = s (leb (cleanup_total (width p u)) n)
  looked e (Grouping i n) s =
      let late : Bool = bad_write p payload i || leb (write_total (width p (write_at p payload i).unit)) n in
      s late ∙ unit_first p (length image) late

  pub look_refused : (e : Refusal) (from : Progress) (u : ℕ) → u ≡ unit_of from.phase
      → ((late : Bool) → number_of e ≡ job_row p u (length image) late) → Advances p payload payload from image image (Err e)
  unfolding step_number
  look_refused e from u is s =
      let q = looked e from.phase (subst (λ (v : ℕ). (late : Bool) → number_of e ≡ job_row p v (length image) late) is s) in
      refused p payload from.phase image e (q ∙ sym (first_refused _ _ (λ z. number_some e (q ∙ z)))) from.stores

  -- it doesn't, and the phase has no store to make
  pub idle_refused : (phase : Phase) {u : ℕ} (span : Span) → Spans p u (length image) span → (phase ≡ Cold) ⊎ (phase ≡ Ready)
      → StepsTo p payload payload phase image image (Err WrongPhase)
  idle_refused phase span s (inl e) =
      refused p payload phase image WrongPhase
      (sym (step_cold (view_of p payload phase image) s.plan (le-ltb (length image) (total p) s.long) (rw e)))
  idle_refused phase span s (inr e) =
      refused p payload phase image WrongPhase
      (sym (step_ready (view_of p payload phase image) s.plan (le-ltb (length image) (total p) s.long) (rw e)))

-- ---- A job of unit u, which was looked up as span: refused by the stores made, or the picked store is made.
module _ (p : Plan) (u : ℕ) (payload : List ℕ) (phase : Phase) (f : ℕ → ℕ) (n : ℕ) (image : List ℕ) (span : Span)
    (s : Spans p u (length image) span)
    (row : bad_job p payload (job_of phase) ≡ (leb p.count u || leb (f (width p u)) n)) where
  wide : span.width ≡ width p u
  wide = ap (λ (t : Span). t.width) s.is

  job : (t : Bool) → leb (f (width p u)) n ≡ t → bad_job p payload (job_of phase) ≡ t
  job t q = row ∙ rw (lt-leb p.count u s.unit) q

  late_refused : (e : Refusal) → number_of e ≡ 4 → f span.width ≤ n → StepsTo p payload payload phase image image (Err e)
  late_refused e four h =
      refused p payload phase image e
      (four
      ∙ sym (from_job p payload phase image s.plan s.long true (job true (le-leb _ n (rw wide at h)))
      ∙ first_stop 4 true _ refl))

  module _ (o : Plan → ℕ → Option Store) (c : Choice) (h : Picked span f n o c) (busy : (is_cold (job_of phase) || is_ready (job_of phase)) ≡ false) where
    last : c.last ≡ true → n + 1 ≡ f (width p u)
    last l = rw wide at (h.left.last l)

    more : c.last ≡ false → n + 1 < f (width p u)
    more l = rw wide at (h.left.more l)

    early : n < f (width p u)
    early = go c.last refl
      where
        go : (t : Bool) → c.last ≡ t → n < f (width p u)
        go true l = omega (arith, last l)
        go false l = omega (arith, more l)

    passed : step_number (view_of p payload phase image) ≡ 0
    passed =
        from_job p payload phase image s.plan s.long false (job false (lt-leb _ n early))
        ∙ first_skip 4 false _ refl ∙ first_skip 5 _ [] busy ∙ first_none

    job_made : (after : List ℕ) → next p payload image phase ≡ o p u → after ≡ set image (span.base + c.at) c.byte
        → (phase' : Phase) (held : List ℕ) → phase' ≡ phase_after p payload after phase → held ≡ payload_after p payload after phase
        → StepsTo p payload held phase image after (Ok phase')
    unfolding stored put
    job_made after comes is =
        let a = h.store p u s.is in
        let there : span.base + c.at ≡ base p u + offset p u a.cell = omega (arith, a.at, ap (λ (t : Span). t.base) s.is) in
        made p payload phase image passed after
        (is ∙ ap (λ (k : ℕ). set image k c.byte) there ∙ ap (stored p image completed) (sym (comes ∙ a.is)))

-- ---- the phase after a store, by the code's count
module _ (p : Plan) (payload image : List ℕ) (u n : ℕ) where
  write_last : n + 1 ≡ write_total (width p u) → Ready ≡ phase_after p payload image (Writing u n)
  write_last e = sym (write_ends p payload image u n (omega arith))

  write_more : n + 1 < write_total (width p u) → Writing u (n + 1) ≡ phase_after p payload image (Writing u n)
  write_more h = sym (write_goes_on p payload image u n (λ e. absurd (omega arith)) ∙ ap (Writing u) (sym (add-one n)))

  cleanup_last : (d : Direction) → n + 1 ≡ cleanup_total (width p u)
      → resumed p image (cleanup_from p image (u + 1)) ≡ phase_after p payload image (Recovering u n d)
  cleanup_last d e =
      sym (cleanup_ends p payload image u n d (omega arith) ∙ ap (λ (k : ℕ). resumed p image (cleanup_from p image k)) (sym (add-one u)))

  cleanup_held : (d : Direction) → n + 1 ≡ cleanup_total (width p u)
      → reloaded p image (cleanup_from p image (u + 1)) payload ≡ payload_after p payload image (Recovering u n d)
  cleanup_held d e =
      sym (cleanup_loads p payload image u n d (omega arith)
      ∙ ap (λ (k : ℕ). reloaded p image (cleanup_from p image k) payload) (sym (add-one u)))

  cleanup_more : (d : Direction) → n + 1 < cleanup_total (width p u)
      → Recovering u (n + 1) d ≡ phase_after p payload image (Recovering u n d)
  cleanup_more d h =
      sym (cleanup_goes_on p payload image u n d (λ e. absurd (omega arith)) ∙ ap (λ (k : ℕ). Recovering u k d) (sym (add-one n)))

  cleanup_same : (d : Direction) → n + 1 < cleanup_total (width p u) → payload ≡ payload_after p payload image (Recovering u n d)
  cleanup_same d h = sym (cleanup_holds p payload image u n d (λ e. absurd (omega arith)))

-- ---- Write and cleanup of a unit that was looked up.
module _ (p : Plan) (u n : ℕ) (image : List ℕ) (span : Span) (s : Spans p u (length image) span) where
  module _ (payload after : List ℕ) where
    writing_row : bad_job p payload (job_of (Writing u n)) ≡ (leb p.count u || leb (write_total (width p u)) n)
    unfolding bad_job
    writing_row = refl

    pub write_refused : (e : Refusal) → Full span n image after e → StepsTo p payload payload (Writing u n) image after (Err e)
    write_refused e m =
        subst (λ (i : List ℕ). StepsTo p payload payload (Writing u n) image i (Err e)) (sym m.same)
        (late_refused p u payload (Writing u n) write_total n image span s writing_row e m.four m.all)

    module _ (t : Bool) (m : Stored span payload n image after t) where
      pub write_over : t ≡ true → StepsTo p payload payload (Writing u n) image after (Ok Ready)
      unfolding next payload_after
      write_over l =
          job_made p u payload (Writing u n) write_total n image span s writing_row _ m.choice m.picked refl after refl m.made
          Ready payload
          (write_last p payload after u n
          (last p u payload (Writing u n) write_total n image span s writing_row _ m.choice m.picked refl (sym m.is ∙ l)))
          refl

      pub write_on : t ≡ false → StepsTo p payload payload (Writing u n) image after (Ok (Writing u (n + 1)))
      unfolding next payload_after
      write_on l =
          job_made p u payload (Writing u n) write_total n image span s writing_row _ m.choice m.picked refl after refl m.made
          (Writing u (n + 1)) payload
          (write_more p payload after u n
          (more p u payload (Writing u n) write_total n image span s writing_row _ m.choice m.picked refl (sym m.is ∙ l)))
          refl

  module _ (d : Direction) (payload : List ℕ) where
    cleaning_row : bad_job p payload (job_of (Recovering u n d)) ≡ (leb p.count u || leb (cleanup_total (width p u)) n)
    unfolding bad_job
    cleaning_row = refl

    pub clean_refused : (e : Refusal) → number_of e ≡ 4 → cleanup_total span.width ≤ n → StepsTo p payload payload (Recovering u n d) image image (Err e)
    clean_refused = late_refused p u payload (Recovering u n d) cleanup_total n image span s cleaning_row

    module _ (c : Choice) (h : Picked span cleanup_total n (λ p u. get_elem? (cleanup_stores p image u d) n) c) (after : List ℕ)
        (is : after ≡ set image (span.base + c.at) c.byte) where
      -- e: what the search found; r, t: where the repair goes on from there
      pub clean_over : c.last ≡ true → {found phase : Phase} {held : List ℕ} → found ≡ cleanup_from p after (u + 1)
          → phase ≡ resumed p after found → held ≡ reloaded p after found payload
          → StepsTo p payload held (Recovering u n d) image after (Ok phase)
      unfolding next
      clean_over l {found} {phase} {held} e r t =
          let end = last p u payload (Recovering u n d) cleanup_total n image span s cleaning_row _ c h refl l in
          job_made p u payload (Recovering u n d) cleanup_total n image span s cleaning_row _ c h refl after refl is phase held
          (r ∙ ap (resumed p after) e ∙ cleanup_last p payload after u n d end)
          (t ∙ ap (λ (x : Phase). reloaded p after x payload) e ∙ cleanup_held p payload after u n d end)

      pub clean_on : c.last ≡ false → StepsTo p payload payload (Recovering u n d) image after (Ok (Recovering u (n + 1) d))
      unfolding next
      clean_on l =
          let on = more p u payload (Recovering u n d) cleanup_total n image span s cleaning_row _ c h refl l in
          job_made p u payload (Recovering u n d) cleanup_total n image span s cleaning_row _ c h refl after refl is
          (Recovering u (n + 1) d) payload (cleanup_more p payload after u n d on) (cleanup_same p payload after u n d on)

-- ---- A group's write: there is no such write,
pub part_refused : (p : Plan) (payload : List ℕ) (i n : ℕ) (image : List ℕ) → PlanOk p → total p ≤ length image → (e : Refusal)
    → number_of e ≡ first (4 when bad_write p payload i ∷ []) → StepsTo p payload payload (Grouping i n) image image (Err e)
unfolding bad_job
part_refused p payload i n image ok long e is = go (bad_write p payload i) refl
  where
    go : (t : Bool) → bad_write p payload i ≡ t → StepsTo p payload payload (Grouping i n) image image (Err e)
    go true h =
        refused p payload (Grouping i n) image e
        (is ∙ first_stop 4 _ [] h ∙ sym (from_job p payload (Grouping i n) image ok long true (rw h) ∙ first_stop 4 true _ refl))
    go false h = absurd (number_some e (is ∙ first_skip 4 _ [] h ∙ first_none))

-- or it was found in the payload
module _ (p : Plan) (payload : List ℕ) (i n : ℕ) (image : List ℕ) {r : Part} (found : PartOf p payload i r)
    (span : Span) (s : Spans p r.unit (length image) span) where
  wide_is : width p (write_at p payload i).unit ≡ width p r.unit
  wide_is = ap (width p) (sym found.unit)

  group_row : bad_job p payload (job_of (Grouping i n)) ≡ (leb p.count r.unit || leb (write_total (width p r.unit)) n)
  unfolding bad_job
  group_row =
      ap₂ (λ (x : Bool) (w : ℕ). x || leb (write_total w) n) found.good wide_is
      ∙ sym (ap (λ (x : Bool). x || leb (write_total (width p r.unit)) n) (lt-leb p.count r.unit s.unit))

  pub group_refused : (after : List ℕ) (e : Refusal) → Full span n image after e → StepsTo p payload payload (Grouping i n) image after (Err e)
  group_refused after e m =
      subst (λ (x : List ℕ). StepsTo p payload payload (Grouping i n) image x (Err e)) (sym m.same)
      (late_refused p r.unit payload (Grouping i n) write_total n image span s group_row e m.four m.all)

  module _ (bytes : List ℕ) (eb : bytes ≡ drop r.from payload) (after : List ℕ) (t : Bool) (m : Stored span bytes n image after t) where
    comes : next p payload image (Grouping i n) ≡ get_elem? (write_stores p r.unit bytes) n
    unfolding next
    comes =
        sym (ap (λ (xs : List ℕ). get_elem? (write_stores p r.unit xs) n) eb ∙ ap (λ (xs : List Store). get_elem? xs n) (part_stores found))

    group_made : (phase : Phase) → phase ≡ phase_after p payload after (Grouping i n)
        → StepsTo p payload payload (Grouping i n) image after (Ok phase)
    unfolding payload_after
    group_made phase e =
        job_made p r.unit payload (Grouping i n) write_total n image span s group_row _ m.choice m.picked refl after
        comes m.made phase payload e refl

    pub group_on : t ≡ false → StepsTo p payload payload (Grouping i n) image after (Ok (Grouping i (n + 1)))
    group_on l =
        let on = more p r.unit payload (Grouping i n) write_total n image span s group_row _ m.choice m.picked refl (sym m.is ∙ l) in
        group_made (Grouping i (n + 1))
        (sym (task_goes_on p payload after (part i) n (λ e. absurd (omega (arith, on, wide_is, e))) ∙ ap (Grouping i) (sym (add-one n))))

    ends : t ≡ true → suc n ≡ write_total (width p (write_at p payload i).unit)
    ends l =
        let end = last p r.unit payload (Grouping i n) write_total n image span s group_row _ m.choice m.picked refl (sym m.is ∙ l) in
        omega (arith, end, wide_is)

    pub group_over : t ≡ true → r.last ≡ true → StepsTo p payload payload (Grouping i n) image after (Ok Ready)
    group_over l h =
        group_made Ready
        (sym (task_ends p payload after (part i) n AToB (ends l) ∙ (rw (sym found.last ∙ h))))

    pub group_next : t ≡ true → r.last ≡ false → StepsTo p payload payload (Grouping i n) image after (Ok (Grouping (i + 1) 0))
    group_next l h =
        group_made (Grouping (i + 1) 0)
        (sym (task_ends p payload after (part i) n AToB (ends l) ∙ (rw (sym found.last ∙ h))
        ∙ ap (λ (k : ℕ). Grouping k 0) (sym (add-one i))))

pub by_case : (p : Plan) (payload held : List ℕ) (phase phase' : Phase) (image after : List ℕ) (r : Result Phase Refusal) → phase ≡ phase'
    → StepsTo p payload held phase' image after r → StepsTo p payload held phase image after r
by_case p payload held phase phase' image after r e h = rw e h

-- the unit that was looked up is the phase's
pub of_phase : (p : Plan) (n : ℕ) (span : Span) (phase phase' : Phase) → phase ≡ phase' → Spans p (unit_of phase) n span
    → Spans p (unit_of phase') n span
of_phase p n span phase phase' is s = subst (λ (f : Phase). Spans p (unit_of f) n span) is s

count_is : (n s : ℕ) → n ≡ min (s + 1) most_stores → s ≤ most_stores → n ≡ counted s
unfolding counted
count_is n s e l =
    elim (order s most_stores) [
      | below b ↦ rw (lt-ltb s most_stores b) (omega (arith, e, b))
      | above b ↦ rw (le-ltb s most_stores b) (omega (arith, e, b, l))
    ]

-- a step's phase and the count make the progress
pub advanced : (p : Plan) (payload held : List ℕ) (from : Progress) (phase : Phase) (n : ℕ) (image after : List ℕ)
    → StepsTo p payload held from.phase image after (Ok phase) → n ≡ min (from.stores + 1) most_stores → from.stores ≤ most_stores
    → Advances p payload held from image after (Ok (record { phase = phase; stores = n }))
advanced p payload held from phase n image after h e l =
    ap (λ (k : ℕ). outcome 0 (parts p held phase k) after) (count_is n from.stores e l) ∙ h from.stores

-- a refusal that ends a step ends the advance
pub stopped : (p : Plan) (payload held : List ℕ) (from : Progress) (e : Refusal) (image after : List ℕ)
    → StepsTo p payload held from.phase image after (Err e) → Advances p payload held from image after (Err e)
stopped p payload held from e image after h = h from.stores
