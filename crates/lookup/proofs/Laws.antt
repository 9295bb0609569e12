-- Refusals 3 and 4 behind a plan that is fine, and what a unit that was looked up has.
use Prim.Native.Nat.{ℕ, zero, suc, ◌+◌, ◌-◌, ◌*◌, ◌<◌, ◌≤◌}
use mathlib.Core.Path.{◌≡◌, refl, ap, ap₂, sym, ◌∙◌, subst}
use mathlib.Core.List.{List, [], ◌∷◌}
use mathlib.Core.Bool.{Bool, true, false, ◌||◌}
use native.Mathlib.Omega.{arith}
use lib.Dec.{leb}
use lib.ListN.{length, take, drop}
use borrow.Author.Tests.{lt-ltb, le-ltb, le-leb, lt-leb, ltb-false}
use Rattle.model.specs.declared.Plan.{Plan}
use Rattle.model.specs.declared.Direction.{Direction}
use Rattle.model.specs.declared.Phase.{Phase}
use Rattle.model.specs.declared.Phase.TheVariants.{Writing, Recovering, Grouping}
use Rattle.model.specs.Layout.{copy_a, copy_b, byte, width, unit_length, offset, base, total, copy_of}
use Rattle.model.specs.Groups.{write_at}
use Rattle.model.specs.Calls.{job_of, view_of}
use Rattle.model.specs.Refusals.{grouping, SHORT-IMAGE, BAD-JOB, bad_write, bad_job, ◌when◌, first, start_number}
use Rattle.model.proofs.LayoutLaws.{copy_room, base_bound}
use Rattle.model.proofs.RefusalLaws.{first_skip, first_stop, first_none, first_refused, plan_passed, PlanOk, page_some, page_fits, past, start_says, start_fine, count_bounds, width_bounds}
use Rattle.model.specs.Plans.{PageSize}
use Rattle.group.specs.declared.Part.{Part}
use Rattle.group.specs.Parts.{PartOf}
use Rattle.std.specs.Prelude.{Result, Ok, Err, MatchResult}
use Rattle.std.specs.Result.{IsOk}
use Rattle.model.specs.declared.refusals.Refusal.{Refusal}
use Rattle.model.specs.Numbers.{number_of}
use Rattle.model.proofs.Numbered.{number_some}
use Rattle.layout.proofs.Laws.{size_bounds, rounded_most}
use Rattle.lookup.specs.declared.Span.{Span}
use Rattle.lookup.specs.Spans.{image_row, Live, span_of, job_row, Spans, Sound}

module _ (p : Plan) where
  -- eight units of 528 bytes are the most: 16 for the marker's page, and 256 a copy
  pub unit_small : PlanOk p → (u : ℕ) → u < p.count → unit_length p u ≤ 528
  unit_small ok u h =
      let size = page_fits p ok.page in
      omega (arith, (size_bounds p.page size).1, rounded_most p.page (width p u) size (width_bounds p ok u h).1)

  pub base_small : PlanOk p → (u : ℕ) → u ≤ p.count → base p u ≤ u * 528
  unfolding base
  base_small ok zero h = omega arith
  base_small ok (suc u) h = omega (arith, base_small ok u (omega arith), unit_small ok u (omega arith))

-- where plan and image are fine, refusal 4 is left: b is the total that was measured, k what is said of the job
module _ (p : Plan) (payload : List ℕ) (phase : Phase) (length b : ℕ) (fine : start_number p ≡ 0) (t : b ≡ total p) (l : b ≤ length) where
  before_job : first (image_row p payload phase length) ≡ first (4 when bad_job p payload (job_of phase) ∷ [])
  before_job = plan_passed p _ fine ∙ first_skip 3 _ _ (le-ltb length (total p) (rw t at l))

  pub no_job : bad_job p payload (job_of phase) ≡ false → 0 ≡ first (image_row p payload phase length)
  no_job h = sym (before_job ∙ first_skip 4 _ [] h ∙ first_none)

  module _ (u made w k : ℕ) (ew : w ≡ width p u) where
    pub writing_job : phase ≡ Writing u made → k ≡ first (4 when (leb p.count u || leb (2 * w + 3) made) ∷ [])
        → k ≡ first (image_row p payload phase length)
    unfolding bad_job
    writing_job is ek = ek ∙ sym (before_job ∙ rw (is, ← ew))

    pub cleaning_job : (d : Direction) → phase ≡ Recovering u made d
        → k ≡ first (4 when (leb p.count u || leb (w + 1) made) ∷ []) → k ≡ first (image_row p payload phase length)
    unfolding bad_job
    cleaning_job d is ek = ek ∙ sym (before_job ∙ rw (is, ← ew))

  pub grouping_job : (i made k : ℕ) → phase ≡ Grouping i made → k ≡ first (4 when bad_job p payload (grouping i made) ∷ [])
      → k ≡ first (image_row p payload phase length)
  grouping_job i made k is ek = ek ∙ sym (before_job ∙ rw is)

-- a write of a group that there is not
pub no_part : (p : Plan) (payload : List ℕ) (i made : ℕ) (e : Refusal) → number_of e ≡ first (4 when bad_write p payload i ∷ [])
    → number_of e ≡ first (4 when bad_job p payload (grouping i made) ∷ [])
unfolding bad_job first
no_part p payload i made e is = go (bad_write p payload i) refl
  where
    go : (t : Bool) → bad_write p payload i ≡ t → number_of e ≡ first (4 when bad_job p payload (grouping i made) ∷ [])
    go true h = is ∙ rw h
    go false h = absurd (number_some e (is ∙ rw h))

-- a write of a group that 4 may refuse for its stores: r is what was found
module _ {p : Plan} {payload : List ℕ} {i : ℕ} {r : Part} (found : PartOf p payload i r) (made : ℕ) where
  abbrev at_job : ℕ
  at_job = first (4 when bad_job p payload (grouping i made) ∷ [])

  module _ (w : ℕ) (ew : w ≡ width p r.unit) where
    wide : width p (write_at p payload i).unit ≡ w
    wide = ap (width p) (sym found.unit) ∙ sym ew

    pub all_made_lem : 2 * w + 3 ≤ made → 4 ≡ at_job
    unfolding bad_job
    all_made_lem h = sym (first_stop 4 _ [] (rw (found.good, wide) (le-leb (2 * w + 3) made h)))

    pub not_made : made < 2 * w + 3 → 0 ≡ at_job
    unfolding bad_job
    not_made h = sym (first_skip 4 _ [] (rw (found.good, wide) (lt-leb (2 * w + 3) made h)) ∙ first_none)

-- ---- a unit looked up: r is the code's, part by part
pub spanned : (p : Plan) (u : ℕ) (r : Span) → r.base ≡ base p u → r.end ≡ base p u + unit_length p u
    → r.a ≡ offset p u (byte copy_a 0) → r.b ≡ offset p u (byte copy_b 0) → r.width ≡ width p u → r ≡ span_of p u
spanned p u r begins ends first second wide =
    λ i. record { base = begins i; end = ends i; a = first i; b = second i; width = wide i }

module _ (p : Plan) (u length : ℕ) where
  pub no_plan_lem : (e : Refusal) → number_of e ≡ start_number p → (late : Bool) → number_of e ≡ job_row p u length late
  unfolding start_number
  no_plan_lem e is late = is ∙ sym (first_refused _ _ (λ z. number_some e (is ∙ z)))

  -- b is the total that was measured
  module _ (b : ℕ) (fine : start_number p ≡ 0) (t : b ≡ total p) where
    pub no_room_lem : length < b → (late : Bool) → SHORT-IMAGE ≡ job_row p u length late
    no_room_lem h late = sym (plan_passed p _ fine ∙ first_stop 3 _ _ (lt-ltb length (total p) (rw t at h)))

    pub no_unit_lem : b ≤ length → p.count ≤ u → (late : Bool) → BAD-JOB ≡ job_row p u length late
    no_unit_lem l h late =
        sym (plan_passed p _ fine ∙ first_skip 3 _ _ (le-ltb length (total p) (rw t at l))
        ∙ first_stop 4 _ _ (rw (le-leb p.count u h)))

    pub spans : (r : Span) → b ≤ length → u < p.count → r ≡ span_of p u → Spans p u length r
    spans r l h e = record { plan = start_says p fine; long = rw t at l; unit = h; is = e }

-- ---- what a unit that was looked up has
module _ (p : Plan) (ok : PlanOk p) (u : ℕ) (h : u < p.count) where
  pub span_sound : (r : Span) → r ≡ span_of p u → Sound r
  span_sound r is =
      rw is
      (record {
        narrow = (width_bounds p ok u h).1;
        page = subst PageSize (omega arith) (page_fits p ok.page);
        marker = omega (arith, page_some p ok);
        copies = omega (arith, copy_room p ok u);
        ends = omega (arith, copy_room p ok u);
        most = omega (arith, base_small p ok u (omega arith), unit_small p ok u h, (count_bounds p ok).1);
      })

  pub span_inside : (n : ℕ) (r : Span) → total p ≤ n → r ≡ span_of p u → r.end ≤ n
  span_inside n r l is = rw is (omega (arith, base_bound p ok u p.count h))

  -- the lookup doesn't refuse what the row lets pass
  pub looked_up : (n : ℕ) → total p ≤ n → (e : Refusal) → ((late : Bool) → number_of e ≡ job_row p u n late) → ⊥
  looked_up n l e is =
      number_some e
      (is false
      ∙ plan_passed p _ (start_fine p ok) ∙ first_skip 3 _ _ (le-ltb n (total p) l)
      ∙ first_skip 4 _ _ (rw (lt-leb p.count u h)) ∙ first_none)

  pub found : (n : ℕ) → total p ≤ n → (r : Result Span Refusal)
      → MatchResult r (Spans p u n) (λ e. (late : Bool) → number_of e ≡ job_row p u n late) → IsOk r
  found n l (Ok span) s = refl
  found n l (Err e) s = absurd (looked_up n l e s)

-- ---- what a device that refusals 1 to 4 let pass has
pub record Room (p : Plan) (payload : List ℕ) (phase : Phase) (image : List ℕ) : Type 0 where
  pub ok : PlanOk p
  pub long : total p ≤ length image
  pub job : bad_job p payload (job_of phase) ≡ false

pub room : (p : Plan) (payload : List ℕ) (phase : Phase) (image : List ℕ) → Live p payload phase image → Room p payload phase image
room p payload phase image e =
    let h = past (view_of p payload phase image) [] e in
    record { ok = h.plan; long = ltb-false (length image) (total p) h.long; job = h.job }

-- the part of the image that is copy A of a unit that was looked up
pub copy_part : (p : Plan) (image : List ℕ) (u : ℕ) (q : Span) → q ≡ span_of p u
    → take ((q.base + q.a + q.width) - (q.base + q.a)) (drop (q.base + q.a) image) ≡ copy_of p image u copy_a
unfolding copy_of
copy_part p image u q is =
    let size : (q.base + q.a + q.width) - (q.base + q.a) ≡ width p u = omega (arith, ap (λ (t : Span). t.width) is) in
    ap₂ (λ (n i : ℕ). take n (drop i image)) size (ap (λ (t : Span). t.base + t.a) is)
