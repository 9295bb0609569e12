-- Demands 1 and 2: every call does what specs/Demands.antt says.
use Prim.Native.Nat.{ℕ, zero, suc, ◌+◌, ◌-◌, ◌*◌, ◌/◌, ◌%◌, ◌≤◌, ◌<◌}
use mathlib.Core.Path.{◌≡◌, refl, ap, sym, ◌∙◌, subst}
use mathlib.Core.List.{List, []}
use mathlib.Core.Option.{Option, none, some}
use mathlib.Core.Bool.{Bool, true, false, cond, not, ◌||◌, true≢false}
use native.Mathlib.Omega.{arith}
use native.Mathlib.Nat.{div-add-mod', mod-lt, add-mul, div-mul-le_self}
use lib.Dec.{eqb, ltb, leb}
use lib.ListN.{length, get_or, take, drop, replicate, length-set, length-take, length-drop, length-append, length-replicate, get_or-append}
use lib.Seq.{length-sets, get_or-set_same, get_or-set_other, get_or-take, get_or-drop, get_or-append-add, take_all, ext_get_or}
use borrow.Author.Tests.{ne_eqb, lt-ltb, le-ltb, leb-false, ltb-false, lt-leb, le-leb}
use Rattle.model.specs.declared.Plan.{Plan}
use Rattle.model.specs.declared.Role.{Role}
use Rattle.model.specs.declared.Role.TheVariants.{Rider, Gym, Service}
use Rattle.model.specs.declared.Direction.{Direction}
use Rattle.model.specs.declared.Direction.TheVariants.{AToB, BToA}
use Rattle.model.specs.declared.Phase.{Phase}
use Rattle.model.specs.declared.Phase.TheVariants.{Cold, Ready, Writing, Recovering, Grouping}
use Rattle.model.specs.Marker.{A, direction, completed, torn_by, torn_bits, torn}
use Rattle.model.specs.Layout.{copy_a, copy_b, Cell, marker, byte, InUnit, width, base, total, place, page_at, get, put, put_page, copy_of, formatted}
use Rattle.model.specs.Groups.{Write, last, members, payload_of, given, stands, writes, write_at, is_last_write}
use Rattle.model.specs.Records.{Gives, WriteOf}
use Rattle.model.specs.Rights.{no_rights}
use Rattle.model.specs.Refusals.{bad_write, group_number, write_total, cleanup_total, bad_job, is_cold, is_ready, start_number, format_number, begin_number, step_number, wake_number, cut_number, read_number, inspect_number, ride_number, total_number, paid_number}
use Rattle.model.specs.Turns.{amount, plus}
use Rattle.model.specs.Prices.{price, paid_group}
use Rattle.model.specs.Stores.{Store, store, source, target, page_left, stored}
use Rattle.model.specs.Calls.{Device, Outcome, outcome, view, unless_refused, start_answer, job_of, next, image_after, phase_after, payload_after, record_in, resumes, resumed, reloaded, step_from, wake_from, as_grouped, paid_in, cleanup_of, cleanup_from, lowest_bad, inspection, counted, most_stores, padded, held_in, total_unless_refused, as_formatted, as_begun, as_cut, part_unless_refused}
use Rattle.model.specs.Calls as calls
use Rattle.model.specs.Drive.{drive_number, drive, drive_unless_refused}
use Rattle.model.specs.Demands.{Lies, at, granted, Does, Starts, OneByte, Formats, Begins, Rides, Groups, Pays, lowest_first, WriteStore, marker_a, to_a, marker_b, to_b, marker_ok, CleanupStore, NextStore, of_write, of_cleanup, of_group, Stands, Way, from_a, from_b, Cleans, PhaseAfter, writing, written, cleaning, cleaned, grouping, onward, grouped, Counts, more, most, Steps, Wakes, bit, Mixed, Torn, of_data, of_marker, by_marker, Tears, CutImage, Cuts, Reads, Totals, Inspects, EveryCall, Drives, EveryDrive}
use Rattle.model.specs.Demands as demands
use Rattle.model.proofs.Compare.{below, above, order, equal, differ, same}
use Rattle.model.proofs.MarkerLaws.{direction_a, direction_other, bits_more}
use Rattle.model.proofs.RefusalLaws.{first_past, first_skip, first_stop, first_none, or_false, false_or, PlanOk, page_some, past, cut_says, format_says, begin_says, Began, width_bounds}
use Rattle.model.proofs.LayoutLaws.{place_bound, page_inside, copy_length_lem, copy_byte, get_formatted, formatted_zero, length_formatted, rest_formatted}
use Rattle.model.proofs.PageLaws.{pages_room, rounded_pages}
use Rattle.model.proofs.Runs.{sets_below, sets_above, sets_at}
use Rattle.model.proofs.TurnLaws.{plus_size, plus_small, plus_amount, amount_first, held_amount, ride_says, ride_began}
use Rattle.model.proofs.PaidLaws.{paid_says}
use Rattle.model.proofs.StoreLaws.{next_a, next_to_a, next_b, next_to_b, next_ok, next_copy, next_settle, write_goes_on, write_ends, cleanup_goes_on, cleanup_ends, cleanup_holds, cleanup_loads, next_task, task_goes_on, task_ends}
use Rattle.model.proofs.Tasks.{Task, alone, part, phase_at, task_write}
use Rattle.model.proofs.GroupLaws.{Grouped, group_says, wide_of, last_lt, part_says, part_sized, padded_size, stands_given}
use Rattle.model.proofs.Records.{zero_past, last_is, is_last_lem, group_gives, given_told, gives_fits, told_given, write_told, writes_count}
use Rattle.model.proofs.InspectLaws.{Lowest, lowest_among, Names, names_lowest}

-- ---- Refused and accepted.
does : (P : Outcome → Type 0) (n : ℕ) (d : Device) (image : List ℕ) (o : Outcome) → o.number ≡ 0 → (n ≡ 0 → P o)
    → Does P d image (unless_refused n d image o)
does P zero d image o z h = record { accepted = λ _. h refl; refused = λ q. absurd (q z) }
does P (suc n) d image o z h = record { accepted = λ q. absurd (omega arith); refused = λ _. refl }

-- ---- Where things lie.
lies : (p : Plan) → Lies p
unfolding base
lies p =
    record {
      copies = λ some u.
          let pages = rounded_pages p.page (width p u) in
          let room = pages_room p.page (width p u) some in
          record { pages = pages.many; whole = pages.is; holds = room.0; least = room.1 };
      first = refl;
      next = λ u. refl;
      at_marker = λ u. omega arith;
      at_a = λ u i. refl;
      at_b = λ u i. refl;
      all = refl;
    }

-- ---- Start.
zeros_at : (n i : ℕ) → get_or {A = ℕ} (replicate n 0) i 0 ≡ 0
zeros_at zero i = refl
zeros_at (suc n) zero = refl
zeros_at (suc n) (suc i) = zeros_at n i

no_right : (role : Role) (u : ℕ) → granted no_rights role u ≡ 0
no_right Rider u = zeros_at 8 u
no_right Gym u = zeros_at 8 u
no_right Service u = zeros_at 8 u

started : (p : Plan) → Starts p (calls.start p)
unfolding calls.start
started p = go (start_number p)
  where
    go : (n : ℕ) → Starts p (start_answer n p)
    go zero =
        record {
          kept = λ z. refl;
          count = λ h. absurd (h refl);
          widths = λ h. absurd (h refl);
          page = λ h. absurd (h refl);
          ungrouped = λ h. absurd (h refl);
          rightless = λ h. absurd (h refl);
          phase = refl;
          payload = refl;
          stores = refl;
        }
    go (suc n) =
        record {
          kept = λ z. absurd (omega arith);
          count = λ h. refl;
          widths = λ h. refl;
          page = λ h. refl;
          ungrouped = λ h. refl;
          rightless = λ h role u. no_right role u;
          phase = refl;
          payload = refl;
          stores = refl;
        }

-- ---- One byte.
one_byte : (p : Plan) (image : List ℕ) (u : ℕ) (c : Cell) (x : ℕ) → PlanOk p → total p ≤ length image → u < p.count
    → InUnit (width p u) c → OneByte image (put p image u c x) (place p u c) x
unfolding put
one_byte p image u c x ok long hu hc =
    let inside : place p u c < length image = omega (arith, place_bound p ok u p.count c hu hc) in
    record {
      inside = inside;
      size = length-set image (place p u c) x;
      changed = get_or-set_same image (place p u c) x 0 inside;
      others = λ i h. get_or-set_other image (place p u c) i x 0 h;
    }

-- ---- Format.
formatted_rest : (p : Plan) (image : List ℕ) (ok : PlanOk p) (i : ℕ) → total p ≤ i → get_or (formatted p image) i 0 ≡ get_or image i 0
formatted_rest p image ok i h =
    let e : total p + (i - total p) ≡ i = omega arith in
    ap (λ (q : ℕ). get_or (formatted p image) q 0) (sym e)
    ∙ sym (get_or-drop (total p) (formatted p image) (i - total p) 0)
    ∙ ap (λ (xs : List ℕ). get_or xs (i - total p) 0) (rest_formatted p ok image)
    ∙ get_or-drop (total p) image (i - total p) 0
    ∙ ap (λ (q : ℕ). get_or image q 0) e

formats : (d : Device) (image : List ℕ) → format_number (view d image) ≡ 0
    → Formats d image (outcome 0 (as_formatted d) (formatted d.plan image))
unfolding get
formats d image e =
    let h = format_says (view d image) e in
    let long : total d.plan ≤ length image = ltb-false (length image) (total d.plan) h.1 in
    record {
      plan = refl;
      payload = refl;
      phase = refl;
      stores = refl;
      markers = λ u l. get_formatted d.plan h.0 image u marker l tt;
      zeros = formatted_zero d.plan h.0 image;
      others = formatted_rest d.plan image h.0;
      size = length_formatted d.plan h.0 image long;
    }

-- ---- Begin.
begins : (d : Device) (image : List ℕ) (u : ℕ) (payload : List ℕ) → PlanOk d.plan → Began (view d image) u (length payload)
    → Begins d image u payload (outcome 0 (as_begun u (padded payload) d) image)
begins d image u payload ok began =
    let narrow : length payload ≤ 256 = omega (arith, began.size, (width_bounds d.plan ok u began.unit).1) in
    record {
      plan = refl;
      phase = refl;
      stores = refl;
      size = simp (length-append, length-replicate) (omega arith);
      held = λ i h. get_or-append payload (replicate (256 - length payload) 0) 0 i h;
      zeros = λ i h.
          let q : length payload + (i - length payload) ≡ i = omega arith in
          ap (λ (k : ℕ). get_or (padded payload) k 0) (sym q)
          ∙ get_or-append-add payload (replicate (256 - length payload) 0) (i - length payload) 0
          ∙ zeros_at (256 - length payload) (i - length payload);
      image' = refl;
    }

begun_by : (d : Device) (image : List ℕ) (role : Role) (u : ℕ) (payload : List ℕ)
    → begin_number (view d image) role u (length payload) ≡ 0
    → Begins d image u payload (outcome 0 (as_begun u (padded payload) d) image)
unfolding begin_number
begun_by d image role u payload e =
    begins d image u payload (past (view d image) _ e).plan (begin_says (view d image) role u (length payload) e)

-- ---- Ride.
eight_first : (bytes : List ℕ) (extra : ℕ) → lowest_first 8 (λ i. get_or (plus bytes extra) i 0) ≡ amount (plus bytes extra)
eight_first bytes extra =
    sym (amount_first 8 (plus bytes extra)) ∙ ap amount (take_all 8 (plus bytes extra) (omega (arith, plus_size bytes extra)))

rides : (d : Device) (image : List ℕ) (turns : ℕ) → ride_number (view d image) (held_in d image 0) turns ≡ 0
    → Rides d image turns (outcome 0 (as_begun 0 (padded (plus (held_in d image 0) turns)) d) image)
rides d image turns e =
    let before : List ℕ = held_in d image 0 in
    let bytes : List ℕ = plus before turns in
    let size : length bytes ≡ 8 = plus_size before turns in
    record {
      bytes = bytes;
      begins = begins d image 0 bytes (ride_says (view d image) before turns e).plan (ride_began (view d image) before turns e);
      size = size;
      small = λ i h. plus_small before turns i;
      sum = eight_first before turns
          ∙ plus_amount before turns (ride_says (view d image) before turns e).room
          ∙ ap (λ (n : ℕ). n + turns) (held_amount d.plan image 0);
    }

-- ---- Group.
groups_by : (d : Device) (image g : List ℕ) → PlanOk d.plan → Grouped (view d image) g
    → Groups d image g (outcome 0 (as_grouped (payload_of d.plan g) d) image)
groups_by d image g ok a =
    let p : Plan = d.plan in
    let wide = wide_of p g a.wide in
    record {
      plan = refl;
      phase = refl;
      stores = refl;
      ms = members p g;
      gives = group_gives p ok g a.parts a.apart wide.0 wide.1;
      image' = refl;
    }

grouped_by : (d : Device) (image g : List ℕ) → group_number (view d image) g ≡ 0
    → Groups d image g (outcome 0 (as_grouped (payload_of d.plan g) d) image)
unfolding group_number
grouped_by d image g e = groups_by d image g (past (view d image) _ e).plan (group_says (view d image) g e)

-- ---- Paid ride.
pays : (d : Device) (image : List ℕ) (turns : ℕ) → paid_number (view d image) (held_in d image 0) (held_in d image 1) turns ≡ 0
    → Pays d image turns (outcome 0 (as_grouped (payload_of d.plan (paid_in d image turns)) d) image)
unfolding paid_group
pays d image turns e =
    let t : List ℕ = held_in d image 0 in
    let c : List ℕ = held_in d image 1 in
    let fare = paid_says (view d image) t c turns e in
    record {
      total = plus t turns;
      cents = plus c (price turns);
      groups = groups_by d image (paid_in d image turns) fare.plan fare.group;
      sizes = (plus_size t turns, plus_size c (price turns));
      small = λ i h. (plus_small t turns i, plus_small c (price turns) i);
      turns_sum = eight_first t turns ∙ plus_amount t turns fare.room₀ ∙ ap (λ (n : ℕ). n + turns) (held_amount d.plan image 0);
      cents_sum = eight_first c (price turns) ∙ plus_amount c (price turns) fare.room₁
          ∙ ap (λ (n : ℕ). n + price turns) (held_amount d.plan image 1);
    }

-- ---- The next store of a device that refusals 1 to 4 let pass.
pub record Found (d : Device) (image : List ℕ) : Type 0 where
  pub unit : ℕ
  pub cell : Cell
  pub value : ℕ
  pub is : next d.plan d.payload image d.phase ≡ some (store unit cell value)
  pub there : unit < d.plan.count
  pub inside : InUnit (width d.plan unit) cell
  pub rule : NextStore d.plan d.payload image d.phase unit cell value

module _ (d : Device) (image : List ℕ) where
  abbrev p : Plan
  p = d.plan

  abbrev comes : Phase → Option Store
  comes phase = next p d.payload image phase

  found : (phase : Phase) (u : ℕ) (c : Cell) (x : ℕ) → d.phase ≡ phase → u < p.count → comes phase ≡ some (store u c x)
      → InUnit (width p u) c → NextStore p d.payload image phase u c x → Found d image
  found phase u c x now hu is inside rule =
      record { unit = u; cell = c; value = x; is = rw now is; there = hu; inside = inside; rule = rw now rule }

  -- a write of a begin or of a group
  module _ (t : Task) (made : ℕ) (now : d.phase ≡ phase_at t made) (hu : (task_write p d.payload t).unit < p.count)
      (told : (c : Cell) (x : ℕ) → WriteStore (width p (task_write p d.payload t).unit) (task_write p d.payload t).bytes made c x
      → NextStore p d.payload image (phase_at t made) (task_write p d.payload t).unit c x) where
    abbrev u : ℕ
    u = (task_write p d.payload t).unit

    abbrev bytes : List ℕ
    bytes = (task_write p d.payload t).bytes

    abbrev w : ℕ
    w = width p u

    -- the store that a write makes after m, which are as many as it made
    makes : (m : ℕ) (c : Cell) (x : ℕ) → made ≡ m → next p bytes image (Writing u m) ≡ some (store u c x) → InUnit w c
        → WriteStore w bytes made c x → Found d image
    makes m c x e is inside rule =
        found (phase_at t made) u c x now hu (next_task p d.payload image t made ∙ rw e is) inside (told c x rule)

    find_write : made < write_total w → Found d image
    find_write h =
        elim (same made 0) [
          | equal e ↦ makes 0 marker 2 e (next_a p bytes image u) tt (marker_a e)
          | differ n ↦ elim (order made (suc w)) [
            | below l ↦ makes (suc (made - 1)) (byte copy_a (made - 1)) _ (omega arith)
                (next_to_a p bytes image u (made - 1) (omega arith)) (omega arith) (to_a (made - 1) (omega arith) (omega arith))
            | above l ↦ elim (same made (suc w)) [
              | equal e ↦ makes (suc w) marker 4 e (next_b p bytes image u) tt (marker_b (omega arith))
              | differ k ↦ elim (same made (suc (w + suc w))) [
                | equal e ↦ makes (suc (w + suc w)) marker 1 e (next_ok p bytes image u) tt (marker_ok (omega arith))
                | differ j ↦ makes (suc (w + suc (made - (w + 2)))) (byte copy_b (made - (w + 2))) _ (omega arith)
                    (next_to_b p bytes image u (made - (w + 2)) (omega arith)) (omega arith)
                    (to_b (made - (w + 2)) (omega arith) (omega arith))
              ]
            ]
          ]
        ]

  module _ (u made : ℕ) (way : Direction) (now : d.phase ≡ Recovering u made way) (hu : u < p.count) where
    cleans : (m : ℕ) (c : Cell) (x : ℕ) → made ≡ m → comes (Recovering u m way) ≡ some (store u c x) → InUnit (width p u) c
        → CleanupStore p image u made way c x → Found d image
    cleans m c x e is inside rule =
        found (Recovering u made way) u c x now hu (rw e is) inside (of_cleanup u made way c x rule)

    copies : (v : Direction) → made < width p u
        → CleanupStore p image u made v (byte (target v) made) (at p image u (byte (source v) made))
    copies AToB l = demands.CleanupStore.to_b l
    copies BToA l = demands.CleanupStore.to_a l

    find_cleanup : made < cleanup_total (width p u) → Found d image
    unfolding get
    find_cleanup h =
        elim (order made (width p u)) [
          | below l ↦ cleans made (byte (target way) made) _ refl (next_copy p d.payload image u way made l) l (copies way l)
          | above l ↦ cleans (width p u) marker 1 (omega arith) (next_settle p d.payload image u way) tt
              (demands.CleanupStore.marker_ok way (omega arith))
        ]

  -- 4 does not apply, and the phase has a store to make
  pub find : PlanOk p → (phase : Phase) → d.phase ≡ phase → bad_job p d.payload (job_of phase) ≡ false
      → is_cold (job_of phase) || is_ready (job_of phase) ≡ false → Found d image
  unfolding bad_job
  find ok Cold now fine busy = absurd (true≢false busy)
  find ok Ready now fine busy = absurd (true≢false busy)
  find ok (Writing u made) now fine busy =
      let h = false_or (leb p.count u) (leb (write_total (width p u)) made) fine in
      find_write (alone u) made now (leb-false p.count u h.0) (λ c x r. of_write u made c x r)
      (leb-false (write_total (width p u)) made h.1)
  find ok (Grouping i made) now fine busy =
      let h = false_or (bad_write p d.payload i) _ fine in
      let fits = part_says p ok d.payload i h.0 in
      let told = given_told p ok d.payload fits.valid in
      find_write (part i) made now (part_sized p ok d.payload i h.0).unit
      (λ c x r. of_group told.g _ told.ms i made _ c x told.gives (write_told p ok told.gives i fits.below) r)
      (leb-false _ made h.1)
  find ok (Recovering u made way) now fine busy =
      let h = false_or (leb p.count u) (leb (cleanup_total (width p u)) made) fine in
      find_cleanup u made way now (leb-false p.count u h.0) (leb-false (cleanup_total (width p u)) made h.1)

-- ---- The cleanup that begins.
way_of : (m : ℕ) → Way m (direction m)
way_of m =
    elim (same m A) [
      | equal e ↦ rw (direction_a m e) (from_b e)
      | differ h ↦ rw (direction_other m h) (from_a h)
    ]

-- a record stands exactly if the definition says so
padded_past : (bytes : List ℕ) (i : ℕ) → length bytes ≤ i → get_or (padded bytes) i 0 ≡ 0
padded_past bytes i h =
    ap (λ (q : ℕ). get_or (padded bytes) q 0) {x = i} {y = length bytes + (i - length bytes)} (omega arith)
    ∙ get_or-append-add bytes (replicate (256 - length bytes) 0) (i - length bytes) 0
    ∙ zero_past (256 - length bytes) (i - length bytes)

module _ (p : Plan) (ok : PlanOk p) (image : List ℕ) (long : total p ≤ length image) where
  abbrev r : ℕ
  r = last p

  record_size : length (record_in p image) ≡ width p (last p)
  record_size = copy_length_lem p ok image r copy_a (last_lt p ok) long

  record_byte : (i : ℕ) → i < width p (last p) → get_or (padded (record_in p image)) i 0 ≡ at p image (last p) (byte copy_a i)
  unfolding get
  record_byte i h =
      get_or-append (record_in p image) (replicate (256 - length (record_in p image)) 0) 0 i (omega (arith, record_size))
      ∙ copy_byte p ok image r copy_a i h

  stands_told : stands p (record_in p image) ≡ true → Stands p image (padded (record_in p image))
  stands_told e =
      let t = given_told p ok (padded (record_in p image)) (sym (stands_given p (record_in p image)) ∙ e) in
      record { g = t.g; ms = t.ms; gives = t.gives; r = last p; is_last = is_last_lem p; same = record_byte }

  told_stands : (held : List ℕ) → Stands p image held → stands p (record_in p image) ≡ true
  told_stands held s = stands_given p (record_in p image) ∙ ap (given p) same ∙ (told_given p ok s.gives).1
    where
      narrow : suc (length s.g) ≤ width p (last p)
      narrow = gives_fits p s.gives

      small : width p (last p) ≤ 256
      small = (width_bounds p ok (last p) (last_lt p ok)).1

      is : s.r ≡ last p
      is = last_is p s.r s.is_last

      same_byte : (i : ℕ) → get_or (padded (record_in p image)) i 0 ≡ get_or held i 0
      same_byte i =
          elim (order i (width p (last p))) [
            | below l ↦
                record_byte i l ∙ ap (λ (q : ℕ). at p image q (byte copy_a i)) (sym is)
                ∙ sym (s.same i (omega (arith, ap (width p) is)))
            | above l ↦
                padded_past (record_in p image) i (omega (arith, record_size))
                ∙ sym (s.gives.zeros i (omega (arith, narrow)))
          ]

      same : padded (record_in p image) ≡ held
      same =
          ext_get_or 0 (padded (record_in p image)) held
          (padded_size p ok (record_in p image) (omega (arith, record_size, small)) ∙ sym s.gives.size) (λ i l. same_byte i)

  cleans_from : (payload : List ℕ) (n u : ℕ) → u + n ≡ p.count
      → Cleans p image payload u (resumed p image (cleanup_of p image (lowest_bad p image n u)))
      (reloaded p image (cleanup_of p image (lowest_bad p image n u)) payload)
  unfolding get resumes
  cleans_from payload n u e = go (lowest_bad p image n u) (lowest_among p image n u)
    where
      all_good : ((v : ℕ) → u ≤ v → v < p.count → at p image v marker ≡ 1) → (t : Bool) → stands p (record_in p image) ≡ t
          → Cleans p image payload u (cond t (Grouping 1 0) Ready) (cond t (padded (record_in p image)) payload)
      all_good h true q = demands.Cleans.goes_on (padded (record_in p image)) h (stands_told q)
      all_good h false q = demands.Cleans.none h (λ held s. true≢false (sym (told_stands held s) ∙ q))

      go : (found : Option ℕ) → Lowest p image u n found
          → Cleans p image payload u (resumed p image (cleanup_of p image found)) (reloaded p image (cleanup_of p image found) payload)
      go none h = all_good (λ v l k. h v l (omega arith)) (stands p (record_in p image)) refl
      go (some t) h = demands.Cleans.lowest t _ h.0 (omega (arith, h.1)) h.2 h.3 (way_of (get p image t marker))

-- ---- Step.
phase_after_lem : (p : Plan) → PlanOk p → (image' payload : List ℕ) → total p ≤ length image' → (phase : Phase)
    → bad_job p payload (job_of phase) ≡ false → is_cold (job_of phase) || is_ready (job_of phase) ≡ false
    → PhaseAfter p image' payload phase (phase_after p payload image' phase) (payload_after p payload image' phase)
unfolding bad_job payload_after is_last_write
phase_after_lem p ok image' payload long Cold fine busy = absurd (true≢false busy)
phase_after_lem p ok image' payload long Ready fine busy = absurd (true≢false busy)
phase_after_lem p ok image' payload long (Writing u made) fine busy =
    let l = leb-false (write_total (width p u)) made (false_or (leb p.count u) _ fine).1 in
    elim (same (suc made) (write_total (width p u))) [
      | equal e ↦ rw (write_ends p payload image' u made e) (written u made e)
      | differ h ↦ rw (write_goes_on p payload image' u made h) (writing u made (omega arith))
    ]
phase_after_lem p ok image' payload long (Recovering u made way) fine busy =
    let h = false_or (leb p.count u) _ fine in
    let l = leb-false (cleanup_total (width p u)) made h.1 in
    let hu = leb-false p.count u h.0 in
    elim (same (suc made) (cleanup_total (width p u))) [
      | equal e ↦ rw (cleanup_ends p payload image' u made way e, cleanup_loads p payload image' u made way e)
          (cleaned u made way _ _ e (cleans_from p ok image' long payload (p.count - suc u) (suc u) (omega arith)))
      | differ n ↦ rw (cleanup_goes_on p payload image' u made way n, cleanup_holds p payload image' u made way n)
          (cleaning u made way (omega arith))
    ]
phase_after_lem p ok image' payload long (Grouping i made) fine busy =
    let w : ℕ = width p (write_at p payload i).unit in
    let h = false_or (bad_write p payload i) _ fine in
    let l = leb-false (write_total w) made h.1 in
    let fits = part_says p ok payload i h.0 in
    let told = given_told p ok payload fits.valid in
    let at-write = write_told p ok told.gives i fits.below in
    elim (same (suc made) (write_total w)) [
      | equal e ↦ rw (task_ends p payload image' (part i) made AToB e)
          (elim (order (suc i) (length (writes p payload))) [
            | below k ↦ rw (lt-leb (length (writes p payload)) (suc i) k)
                (onward told.g _ told.ms i made _ told.gives at-write e (omega (arith, writes_count p ok told.gives)))
            | above k ↦
                let is : i ≡ suc (length told.ms) = omega (arith, fits.below, writes_count p ok told.gives) in
                rw (le-leb (length (writes p payload)) (suc i) k)
                (ended is told.gives at-write e)
          ])
      | differ n ↦ rw (task_goes_on p payload image' (part i) made n)
          (grouping told.g _ told.ms i made _ told.gives at-write (omega arith))
    ]
  where
    ended : {i u made : ℕ} {g bytes : List ℕ} {ms : List Write} → i ≡ suc (length ms) → Gives p payload g ms → WriteOf p payload ms i u bytes
        → suc made ≡ 2 * width p u + 3 → PhaseAfter p image' payload (Grouping i made) Ready payload
    ended {i} {u} {made} {g} {bytes} {ms} is gives of e =
        subst (λ (k : ℕ). PhaseAfter p image' payload (Grouping k made) Ready payload) (sym is)
        (grouped g bytes ms made u gives (subst (λ (k : ℕ). WriteOf p payload ms k u bytes) is of) e)

counts : (n : ℕ) → Counts n (counted n)
unfolding counted
counts n =
    elim (order n most_stores) [
      | below l ↦ rw (lt-ltb n most_stores l) (more l)
      | above l ↦ rw (le-ltb n most_stores l) (most l)
    ]

pub steps : (d : Device) (image : List ℕ) → step_number (view d image) ≡ 0
    → Steps d image (outcome 0 (step_from d (image_after completed d image)) (image_after completed d image))
unfolding step_number image_after stored
steps d image e =
    let h = past (view d image) _ e in
    let busy = (first_past 4 (is_cold (job_of d.phase) || is_ready (job_of d.phase)) [] h.more).0 in
    let f = find d image h.plan d.phase refl h.job busy in
    let long : total d.plan ≤ length image = ltb-false (length image) (total d.plan) h.long in
    let one : OneByte image (image_after completed d image) (place d.plan f.unit f.cell) f.value =
    rw f.is (one_byte d.plan image f.unit f.cell f.value h.plan long f.there f.inside) in
    record {
      unit = f.unit;
      cell = f.cell;
      value = f.value;
      store = f.rule;
      image' = one;
      plan = refl;
      phase = phase_after_lem d.plan h.plan (image_after completed d image) d.payload (omega (arith, one.size, long)) d.phase h.job busy;
      stores = counts d.stores;
    }

-- ---- Wake.
wakes : (d : Device) (image : List ℕ) → wake_number (view d image) ≡ 0
    → Wakes d image (outcome 0 (wake_from d image (cleanup_from d.plan image 0)) image)
unfolding wake_number
wakes d image e =
    let h = past (view d image) _ e in
    record {
      plan = refl;
      phase = cleans_from d.plan h.plan image (ltb-false (length image) (total d.plan) h.long) d.payload
          (d.plan.count - 0) 0 (omega arith);
      stores = refl;
      image' = refl;
    }

-- ---- Cut. A torn marker, bit by bit.
low : (t : Bool) (new old x : ℕ) → (cond t (new % 2) (old % 2) + 2 * x) % 2 ≡ cond t (new % 2) (old % 2)
low true new old x = omega arith
low false new old x = omega arith

high : (t : Bool) (new old x : ℕ) → (cond t (new % 2) (old % 2) + 2 * x) / 2 ≡ x
high true new old x = omega arith
high false new old x = omega arith

bit_torn : (n k old new m : ℕ) → k < n → bit k (torn_bits n old new m) ≡ cond (eqb (bit k m) 1) (bit k new) (bit k old)
unfolding bit torn_bits
bit_torn zero k old new m h = absurd (omega arith)
bit_torn (suc n) zero old new m h = low (eqb (m % 2) 1) new old _
bit_torn (suc n) (suc k) old new m h =
    ap (bit k) (high (eqb (m % 2) 1) new old (torn_bits n (old / 2) (new / 2) (m / 2)))
    ∙ bit_torn n k (old / 2) (new / 2) (m / 2) (omega arith)

unfoldable twice : ℕ → ℕ
twice zero = 1
twice (suc n) = 2 * twice n

bits_below : (n old new m : ℕ) → torn_bits n old new m < twice n
unfolding torn_bits twice
bits_below zero old new m = omega arith
bits_below (suc n) old new m = bits_more n (twice n) old new m (bits_below n (old / 2) (new / 2) (m / 2))

mixed : (m old new : ℕ) → Mixed m old new (torn old new m)
unfolding torn twice
mixed m old new = record { small = bits_below 8 old new m; bits = λ k h. bit_torn 8 k old new m h }

-- .. and the page around a cell, byte by byte
torn_as : (bytes : List ℕ) (old new : ℕ) (c : Cell) (i : ℕ) → Torn bytes old new c i (get_or (page_left c old new bytes) i 0)
torn_as bytes old new marker zero = of_marker _ (mixed (get_or bytes 0 0) old new)
torn_as bytes old new marker (suc i) =
    let e : get_or (drop 1 bytes) i 0 ≡ get_or bytes (suc i) 0 =
    get_or-drop 1 bytes i 0 ∙ ap (λ (q : ℕ). get_or bytes q 0) {x = 1 + i} {y = suc i} (omega arith) in
    rw e (by_marker i)
torn_as bytes old new (byte c j) i = of_data c j i

page_full : (c : Cell) (old new : ℕ) (bytes : List ℕ) → 0 < length bytes → length (page_left c old new bytes) ≡ length bytes
page_full marker old new bytes h = omega (arith, length-drop 1 bytes)
page_full (byte c i) old new bytes h = refl

tears : (d : Device) (image bytes : List ℕ) → cut_number (view d image) (length bytes) ≡ 0
    → is_cold (job_of d.phase) || is_ready (job_of d.phase) ≡ false → Tears d image bytes (image_after (torn_by bytes) d image)
unfolding image_after stored get put_page
tears d image bytes e busy =
    let page : ℕ = d.plan.page in
    let fine = cut_says (view d image) (length bytes) e in
    let size = fine.size in
    let some = page_some d.plan fine.plan in
    let f = find d image fine.plan d.phase refl fine.job busy in
    let q : ℕ = place d.plan f.unit f.cell in
    let from : ℕ = page_at d.plan q in
    let inside = page_inside d.plan fine.plan f.unit f.cell f.there f.inside in
    let long = ltb-false (length image) (total d.plan) fine.long in
    let left : List ℕ = page_left f.cell (get_or image q 0) f.value bytes in
    let full : length (take page left) ≡ page =
    length-take page left ∙ omega (arith, size, page_full f.cell (get_or image q 0) f.value bytes (omega (arith, size))) in
    let next : suc (q / page) * page ≡ from + page = omega (arith, add-mul (q / page) 1 page) in
    record {
      unit = f.unit;
      cell = f.cell;
      value = f.value;
      store = f.rule;
      n = q / page;
      around = (div-mul-le_self q page, omega (arith, next, div-add-mod' q page, mod-lt q some));
      inside = omega (arith, next, inside);
      torn = λ i h.
          rw (f.is, sets_at (take page left) image from i (omega (arith, full)) (omega (arith, full, inside)), get_or-take page left i 0 h)
          (torn_as bytes (get_or image q 0) f.value f.cell i);
      before = λ i h. rw f.is (sets_below (take page left) image from i h);
      behind = λ i h. rw f.is (sets_above (take page left) image from i (omega (arith, full, next)));
      size = rw f.is (length-sets image from (take page left));
    }

cuts : (d : Device) (image bytes : List ℕ) → cut_number (view d image) (length bytes) ≡ 0
    → Cuts d image bytes (outcome 0 (as_cut d) (image_after (torn_by bytes) d image))
unfolding image_after stored next
cuts d image bytes e =
    record { plan = refl; payload = refl; phase = refl; stores = refl; image' = go d.phase refl }
  where
    go : (phase : Phase) → d.phase ≡ phase → CutImage phase d image bytes (image_after (torn_by bytes) d image)
    go Cold now = rw now
    go Ready now = rw now
    go (Writing u made) now = tears d image bytes e (rw now)
    go (Recovering u made way) now = tears d image bytes e (rw now)
    go (Grouping i made) now = tears d image bytes e (rw now)

-- ---- Read.
read_there : (d : Device) (image : List ℕ) (role : Role) (u : ℕ) → read_number (view d image) role u ≡ 0
    → PlanOk d.plan × (total d.plan ≤ length image) × (u < d.plan.count)
unfolding read_number
read_there d image role u e =
    let h = past (view d image) _ e in
    let h₅ = first_past 4 (not (is_ready (job_of d.phase))) _ h.more in
    (h.plan, ltb-false (length image) (total d.plan) h.long, leb-false d.plan.count u (first_past 5 (leb d.plan.count u) _ h₅.1).0)

reads : (d : Device) (image : List ℕ) (role : Role) (u : ℕ) → Reads d image role u (calls.read d image role u)
unfolding calls.read get
reads d image role u = go (read_number (view d image) role u) refl
  where
    go : (n : ℕ) → read_number (view d image) role u ≡ n → Reads d image role u (part_unless_refused n (copy_of d.plan image u copy_a))
    go zero e =
        let h = read_there d image role u e in
        record {
          refused = λ q. absurd (q e);
          size = λ z. copy_length_lem d.plan h.0 image u copy_a h.2 h.1;
          bytes = λ z i l. copy_byte d.plan h.0 image u copy_a i l;
        }
    go (suc n) e =
        record {
          refused = λ q. refl;
          size = λ z. absurd (omega (arith, z, e));
          bytes = λ z. absurd (omega (arith, z, e));
        }

totals : (d : Device) (image : List ℕ) (role : Role) (u : ℕ) → Totals d image role u (calls.total_of d image role u)
unfolding calls.total_of
totals d image role u = go (total_number (view d image) role u) refl
  where
    go : (n : ℕ) → total_number (view d image) role u ≡ n → Totals d image role u (total_unless_refused n (amount (held_in d image u)))
    go zero e = record { number = sym e; refused = λ q. absurd (q refl); accepted = λ z. held_amount d.plan image u }
    go (suc n) e = record { number = sym e; refused = λ q. refl; accepted = λ z. absurd (omega arith) }

-- ---- Inspect.
inspects : (d : Device) (image : List ℕ) → Inspects d image (calls.inspect d image)
unfolding calls.inspect get
inspects d image = go (inspect_number (view d image)) (lowest_bad d.plan image d.plan.count 0) refl (names_lowest d.plan image)
  where
    go : (n : ℕ) (found : Option ℕ) → inspect_number (view d image) ≡ n → Names d.plan image found → Inspects d image (inspection n found)
    go (suc n) found e h = (rw e refl, λ z. absurd (omega arith))
    go zero (some u) e h = (e, h.0, h.1, h.2)
    go zero none e h = (e, h)

pub every_call : EveryCall
unfolding calls.format calls.begin calls.ride calls.group calls.paid_ride calls.step calls.wake calls.cut
every_call d image =
    let stepped : List ℕ = image_after completed d image in
    record {
      lies = lies d.plan;
      start = started d.plan;
      format = does (Formats d image) (format_number (view d image)) d image
          (outcome 0 (as_formatted d) (formatted d.plan image)) refl (formats d image);
      begin = λ role u payload. does (Begins d image u payload) (begin_number (view d image) role u (length payload)) d image
          (outcome 0 (as_begun u (padded payload) d) image) refl (begun_by d image role u payload);
      ride = λ turns. does (Rides d image turns) (ride_number (view d image) (held_in d image 0) turns) d image
          (outcome 0 (as_begun 0 (padded (plus (held_in d image 0) turns)) d) image) refl (rides d image turns);
      group = λ g. does (Groups d image g) (group_number (view d image) g) d image
          (outcome 0 (as_grouped (payload_of d.plan g) d) image) refl (grouped_by d image g);
      paid = λ turns. does (Pays d image turns) (paid_number (view d image) (held_in d image 0) (held_in d image 1) turns) d image
          (outcome 0 (as_grouped (payload_of d.plan (paid_in d image turns)) d) image) refl (pays d image turns);
      step = does (Steps d image) (step_number (view d image)) d image
          (outcome 0 (step_from d stepped) stepped) refl (steps d image);
      wake = does (Wakes d image) (wake_number (view d image)) d image
          (outcome 0 (wake_from d image (cleanup_from d.plan image 0)) image) refl (wakes d image);
      cut = λ bytes. does (Cuts d image bytes) (cut_number (view d image) (length bytes)) d image
          (outcome 0 (as_cut d) (image_after (torn_by bytes) d image)) refl (cuts d image bytes);
      read = reads d image;
      total = totals d image;
      inspect = inspects d image;
    }

-- ---- The drive.
level_fine : (l : ℕ) → 1 ≤ l → l ≤ 20 → eqb l 0 || ltb 20 l ≡ false
level_fine l h k = or_false _ _ (ne_eqb l 0 (λ e. absurd (omega arith))) (le-ltb 20 l k)

drive_fine : (l r : ℕ) → 1 ≤ l → l ≤ 20 → r ≤ 255 → drive_number l r ≡ 0
unfolding drive_number
drive_fine l r h k m = first_skip 9 _ _ (level_fine l h k) ∙ first_skip 10 _ [] (le-ltb 255 r m) ∙ first_none

drives : (l r : ℕ) → 1 ≤ l → l ≤ 20 → r ≤ 255 → Drives l r
unfolding drive
drives l r h k m =
    let n = drive_fine l r h k m in
    record {
      bin = r / 4;
      bin_least = omega arith;
      bin_most = omega arith;
      half = l * (r / 4) / 2;
      half_least = omega arith;
      half_most = omega arith;
      number = n;
      is = rw n (omega arith);
    }

pub every_drive : EveryDrive
unfolding drive_number drive
every_drive =
    record {
      accepted = drives;
      no_level = λ r. first_stop 9 _ _ refl;
      high_level = λ l r h. first_stop 9 _ _ (level_bad l (lt-ltb 20 l h));
      high_rate = λ l r h k m. first_skip 9 _ _ (level_fine l h k) ∙ first_stop 10 _ [] (lt-ltb 255 r m);
      refused = λ l r h. none (drive_number l r) _ h;
    }
  where
    level_bad : (l : ℕ) → ltb 20 l ≡ true → eqb l 0 || ltb 20 l ≡ true
    level_bad l e = go (eqb l 0) e
      where
        go : (t : Bool) → ltb 20 l ≡ true → t || ltb 20 l ≡ true
        go true e = refl
        go false e = e

    none : (n x : ℕ) → ¬ (n ≡ 0) → drive_unless_refused n x ≡ 0
    none zero x h = absurd (h refl)
    none (suc n) x h = refl
