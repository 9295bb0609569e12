-- A torn page of a unit that was looked up is the model's.
use Prim.Native.Nat.{ℕ, ◌+◌, ◌*◌, ◌/◌, ◌<◌, ◌≤◌}
use mathlib.Core.Path.{◌≡◌, refl, ap, ap₂, sym, ◌∙◌}
use mathlib.Core.List.{List, [], ◌∷◌}
use mathlib.Core.Option.{Option, none, some}
use mathlib.Core.Bool.{false, ◌||◌}
use native.Mathlib.Omega.{arith}
use native.Mathlib.Nat.{div-mul-le_self}
use lib.Dec.{leb}
use lib.ListN.{length, get_or, get_elem?, take, drop, length-drop}
use lib.Seq.{sets, take_all}
use borrow.Author.Tests.{ne_eqb, leb-false, ltb-false}
use Rattle.group.specs.declared.Part.{Part}
use Rattle.group.specs.Parts.{PartOf}
use Rattle.group.proofs.Next.{part_stores, part_there, part_made, good_write}
use Rattle.choice.specs.declared.Choice.{Choice}
use Rattle.choice.specs.Picked.{Picked, Next, Writes, Cleans}
use Rattle.lookup.specs.declared.Span.{Span}
use Rattle.lookup.specs.Spans.{Spans, Sound}
use Rattle.lookup.proofs.Laws.{span_sound, span_inside}
use Rattle.std.specs.Prelude as prelude
use Rattle.std.specs.Prelude.{Some, None, IsSome, Result, Ok, Err, IsOk, MatchResult}
use Rattle.model.specs.declared.refusals.Refusal.{Refusal}
use Rattle.model.specs.Numbers.{number_of}
use Rattle.model.proofs.Numbered.{number_some}
use Rattle.model.specs.declared.Plan.{Plan}
use Rattle.model.specs.declared.Direction.{Direction}
use Rattle.model.specs.declared.Phase.{Phase}
use Rattle.model.specs.declared.Phase.TheVariants.{Writing, Recovering, Grouping}
use Rattle.model.specs.Layout.{copy_a, copy_b, Cell, marker, byte, width, unit_length, offset, base, total, place, get, put_page}
use Rattle.model.specs.Marker.{torn, torn_by}
use Rattle.model.specs.Refusals.{grouping, write_total, cleanup_total, bad_write, bad_job, cut_number, ◌when◌, first}
use Rattle.model.specs.Stores.{Store, store, write_stores, cleanup_stores, page_left, stored}
use Rattle.model.specs.Calls.{job_of, view_of, next}
use Rattle.model.proofs.RefusalLaws.{PlanOk, page_some, false_or, CutPassed, cut_says, first_skip, first_none}
use Rattle.model.proofs.LayoutLaws.{cell_page, unit_pages}
use Rattle.model.proofs.PageLaws.{no_page, page_within}
use Rattle.mirror.specs.Tears.{first_left, page_from, torn_from, torn_in}

-- a list that has a first
head_on : (xs : List ℕ) → 0 < length xs → get_or xs 0 0 ∷ drop 1 xs ≡ xs
head_on [] h = absurd (omega arith)
head_on (x ∷ xs) h = refl

module _ (p : Plan) (ok : PlanOk p) (u : ℕ) (image page : List ℕ) (full : length page ≡ p.page) where
  abbrev from : Cell → ℕ
  from c = base p u + offset p u c / p.page * p.page

  left_cell : (c : Cell) (new : ℕ)
      → first_left (offset p u c) (get_or image (from c) 0) new (get_or page 0 0) ∷ drop 1 page ≡ page_left c (get_or image (place p u c) 0) new page
  left_cell marker new =
      let z : 0 / p.page * p.page ≡ 0 = omega (arith, div-mul-le_self 0 p.page) in
      ap (λ (q : ℕ). torn (get_or image (base p u + q) 0) new (get_or page 0 0) ∷ drop 1 page) z
  left_cell (byte copy_a i) new =
      rw (ne_eqb (offset p u (byte copy_a i)) 0 (omega (arith, page_some p ok))) (head_on page (omega (arith, page_some p ok, full)))
  left_cell (byte copy_b i) new =
      rw (ne_eqb (offset p u (byte copy_b i)) 0 (omega (arith, page_some p ok))) (head_on page (omega (arith, page_some p ok, full)))

  all_left : (c : Cell) (old new : ℕ) → length (page_left c old new page) ≤ p.page
  all_left marker old new = omega (arith, page_some p ok, full, length-drop 1 page)
  all_left (byte c i) old new = omega (arith, full)

  torn_cell : (c : Cell) (new : ℕ) → torn_from (from c) (offset p u c) new page image ≡ stored p image (torn_by page) (some (store u c new))
  unfolding stored put_page get
  torn_cell c new =
      let old : ℕ = get_or image (place p u c) 0 in
      ap (sets image (from c)) (left_cell c new ∙ sym (take_all p.page (page_left c old new page) (all_left c old new)))
      ∙ ap (λ (q : ℕ). sets image q (take p.page (page_left c old new page))) (sym (cell_page p ok u c))

-- ---- A unit that was looked up for a cut that is not refused,
pub record Fitted (span : Span) (image page : List ℕ) : Type 0 where
  pub sound : Sound span
  pub ends : span.end ≤ length image
  pub size : length page ≡ span.a

-- and the store that was picked in it
pub record Tearing (p : Plan) (payload : List ℕ) (phase : Phase) (span : Span) (image page : List ℕ) (c : Choice) : Type 0 where
  pub inside : span.base + page_from span c.at + span.a ≤ span.end
  pub torn : (after : List ℕ) → after ≡ torn_in span c.at c.byte page image
      → after ≡ stored p image (torn_by page) (next p payload image phase)

module _ (p : Plan) (u : ℕ) (payload : List ℕ) (phase : Phase) (f : ℕ → ℕ) (made : ℕ) (image page : List ℕ)
    (fine : cut_number (view_of p payload phase image) (length page) ≡ 0)
    (job : PlanOk p → bad_job p payload (job_of phase) ≡ false → (u < p.count) × (made < f (width p u))) where
  says : CutPassed (view_of p payload phase image) (length page)
  says = cut_says (view_of p payload phase image) (length page) fine

  ok : PlanOk p
  ok = says.plan

  long : total p ≤ length image
  long = ltb-false (length image) (total p) says.long

  unit : u < p.count
  unit = (job ok says.job).0

  -- what the lookup asks
  lies : PlanOk p × (total p ≤ length image) × (u < p.count)
  lies = (ok, long, unit)

  module _ (span : Span) (s : Spans p u (length image) span) where
    sound : Sound span
    sound = span_sound p ok u unit span s.is

    ends : span.end ≤ length image
    ends = span_inside p ok u unit (length image) span long s.is

    begins : span.base ≡ base p u
    begins = ap (λ (t : Span). t.base) s.is

    paged : span.a ≡ p.page
    paged = omega (arith, ap (λ (t : Span). t.a) s.is)

    page_long : length page ≡ span.a
    page_long = says.size ∙ sym paged

    -- a job that is not refused has a store left
    left : ¬ (f span.width ≤ made)
    left h =
        let wide : span.width ≡ width p u = ap (λ (t : Span). t.width) s.is in
        absurd (omega (arith, rw wide at h, (job ok says.job).1))

    module _ (o : Plan → ℕ → Option Store) (c : Choice) (h : Picked span f made o c) where
      page_inside : span.base + page_from span c.at + span.a ≤ span.end
      page_inside =
          let past : span.end ≡ base p u + unit_length p u = ap (λ (t : Span). t.end) s.is in
          let t = (page_within p.page (page_some p ok) (no_page {page = p.page}) (unit_pages p ok u) c.at (omega arith)
          (omega (arith, h.inside, begins, past))).1 in
          let same : page_from span c.at ≡ c.at / p.page * p.page = ap (λ (n : ℕ). c.at / n * n) paged in
          omega (arith, t, begins, past, same, paged)

      page_torn : (after : List ℕ) → next p payload image phase ≡ o p u → after ≡ torn_in span c.at c.byte page image
          → after ≡ stored p image (torn_by page) (next p payload image phase)
      page_torn after comes Made-so =
          let a = h.store p u s.is in
          let there : span.base + page_from span c.at ≡ base p u + offset p u a.cell / p.page * p.page =
          ap₂ ◌+◌ begins (ap₂ (λ (n at : ℕ). at / n * n) paged a.at) in
          Made-so
          ∙ ap₂ (λ (from at : ℕ). torn_from from at c.byte page image) there a.at
          ∙ torn_cell p ok u image page says.size a.cell c.byte
          ∙ ap (stored p image (torn_by page)) (sym (comes ∙ a.is))

    -- what the code has to know before it tears, and what it has then done
    looked : Fitted span image page
    looked = record { sound = sound; ends = ends; size = page_long }

    picked : (o : Plan → ℕ → Option Store) (r : prelude.Option Choice) → Next span f made o r → IsSome r
    picked o None h = absurd (left h)
    picked o (Some c) h = refl

-- ---- Cold and Ready have no store
pub none_torn : (p : Plan) (payload : List ℕ) (phase : Phase) (image page : List ℕ) → next p payload image phase ≡ none
    → image ≡ stored p image (torn_by page) (next p payload image phase)
unfolding stored
none_torn p payload phase image page h = ap (stored p image (torn_by page)) (sym h)

-- ---- by the phase's case
in_job : (k u total made : ℕ) → leb k u || leb total made ≡ false → (u < k) × (made < total)
in_job k u total made h =
    let f = false_or (leb k u) _ h in
    (leb-false k u f.0, leb-false total made f.1)

module _ (p : Plan) (payload : List ℕ) (phase : Phase) (image page : List ℕ) (fine : cut_number (view_of p payload phase image) (length page) ≡ 0)
    (u made : ℕ) where
  module _ (e : phase ≡ Writing u made) where
    writing_row : PlanOk p → bad_job p payload (job_of phase) ≡ false → (u < p.count) × (made < write_total (width p u))
    unfolding bad_job
    writing_row _ h = in_job p.count u (write_total (width p u)) made (ap (λ (x : Phase). bad_job p payload (job_of x)) (sym e) ∙ h)

    writing_next : next p payload image phase ≡ get_elem? (write_stores p u payload) made
    unfolding next
    writing_next = rw e

    pub write_lies : PlanOk p × (total p ≤ length image) × (u < p.count)
    write_lies = lies p u payload phase write_total made image page fine writing_row

    module _ (span : Span) (s : Spans p u (length image) span) where
      pub write_looked : Fitted span image page
      write_looked = looked p u payload phase write_total made image page fine writing_row span s

      pub write_picked : (r : prelude.Option Choice) → Writes span payload made r → IsSome r
      write_picked = picked p u payload phase write_total made image page fine writing_row span s _

      pub write_torn : (c : Choice) → Writes span payload made (Some c) → Tearing p payload phase span image page c
      write_torn c h =
          record {
            inside = page_inside p u payload phase write_total made image page fine writing_row span s _ c h;
            torn = λ after. page_torn p u payload phase write_total made image page fine writing_row span s _ c h after writing_next;
          }

  module _ (d : Direction) (e : phase ≡ Recovering u made d) where
    cleaning_row : PlanOk p → bad_job p payload (job_of phase) ≡ false → (u < p.count) × (made < cleanup_total (width p u))
    unfolding bad_job
    cleaning_row _ h = in_job p.count u (cleanup_total (width p u)) made (ap (λ (x : Phase). bad_job p payload (job_of x)) (sym e) ∙ h)

    cleaning_next : next p payload image phase ≡ get_elem? (cleanup_stores p image u d) made
    unfolding next
    cleaning_next = rw e

    pub clean_lies : PlanOk p × (total p ≤ length image) × (u < p.count)
    clean_lies = lies p u payload phase cleanup_total made image page fine cleaning_row

    module _ (span : Span) (s : Spans p u (length image) span) where
      pub clean_looked : Fitted span image page
      clean_looked = looked p u payload phase cleanup_total made image page fine cleaning_row span s

      pub clean_picked : (r : prelude.Option Choice) → Cleans span image d made r → IsSome r
      clean_picked = picked p u payload phase cleanup_total made image page fine cleaning_row span s _

      pub clean_torn : (c : Choice) → Cleans span image d made (Some c) → Tearing p payload phase span image page c
      clean_torn c h =
          record {
            inside = page_inside p u payload phase cleanup_total made image page fine cleaning_row span s _ c h;
            torn = λ after. page_torn p u payload phase cleanup_total made image page fine cleaning_row span s _ c h after cleaning_next;
          }

-- ---- a group's write: it is there, and was found in the payload
module _ (p : Plan) (payload : List ℕ) (i made : ℕ) (image page : List ℕ)
    (fine : cut_number (view_of p payload (Grouping i made) image) (length page) ≡ 0) where
  group_says : CutPassed (view_of p payload (Grouping i made) image) (length page)
  group_says = cut_says (view_of p payload (Grouping i made) image) (length page) fine

  pub group_found : (r : Result Part Refusal) → MatchResult r (PartOf p payload i) (λ e. number_of e ≡ first (4 when bad_write p payload i ∷ [])) → IsOk r
  group_found (Ok part) h = refl
  group_found (Err e) h = absurd (number_some e (h ∙ first_skip 4 _ [] (good_write p payload i made group_says.job) ∙ first_none))

  module _ (r : Part) (found : PartOf p payload i r) where
    group_row : PlanOk p → bad_job p payload (grouping i made) ≡ false → (r.unit < p.count) × (made < write_total (width p r.unit))
    group_row ok h = (part_there found ok, part_made found made h)

    pub group_lies : PlanOk p × (total p ≤ length image) × (r.unit < p.count)
    group_lies = lies p r.unit payload (Grouping i made) write_total made image page fine group_row

    module _ (span : Span) (s : Spans p r.unit (length image) span) where
      pub group_looked : Fitted span image page
      group_looked = looked p r.unit payload (Grouping i made) write_total made image page fine group_row span s

      module _ (bytes : List ℕ) (e : bytes ≡ drop r.from payload) where
        pub group_picked : (o : prelude.Option Choice) → Writes span bytes made o → IsSome o
        group_picked = picked p r.unit payload (Grouping i made) write_total made image page fine group_row span s _

        pub group_torn : (c : Choice) → Writes span bytes made (Some c) → Tearing p payload (Grouping i made) span image page c
        unfolding next
        group_torn c h =
            let comes : next p payload image (Grouping i made) ≡ get_elem? (write_stores p r.unit bytes) made =
            sym (ap (λ (xs : List ℕ). get_elem? (write_stores p r.unit xs) made) e
            ∙ ap (λ (xs : List Store). get_elem? xs made) (part_stores found)) in
            record {
              inside = page_inside p r.unit payload (Grouping i made) write_total made image page fine group_row span s _ c h;
              torn = λ after. page_torn p r.unit payload (Grouping i made) write_total made image page fine group_row span s _ c h after comes;
            }
