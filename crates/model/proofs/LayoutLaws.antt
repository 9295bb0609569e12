-- What the calls use of the layout: cells lie in bounds and pairwise apart, a store changes the cell that it names and no other,
-- and nothing past the units.
use Prim.Native.Nat.{ℕ, zero, suc, ◌+◌, ◌-◌, ◌*◌, ◌/◌, ◌≤◌, ◌<◌}
use mathlib.Core.Path.{◌≡◌, refl, ap, sym, ◌∙◌}
use mathlib.Core.List.{List, ◌∷◌, ◌++◌}
use mathlib.Core.Option.{Option, none, some}
use native.Mathlib.Omega.{arith}
use lib.ListN.{length, get_or, set, take, drop, replicate, length-set, length-append, length-replicate, length-take, length-drop, get_or-replicate, get_or-append}
use lib.Seq.{sets, length-sets, get_or-set_same, get_or-set_other, drop-set-lt, get_or-take, get_or-drop, get_or-append-add, ext_get_or, drop_at}
use Rattle.model.specs.declared.Plan.{Plan}
use Rattle.model.specs.Layout.{Copy, copy_a, copy_b, Cell, marker, byte, width, copy_length, unit_length, offset, base, total, place, page_at, get, put, put_page, copy_of, fresh, formatted}
pub use Rattle.model.specs.Layout.{InUnit}
use Rattle.model.specs.Marker.{OK, torn, End, completed, torn_by, marker_left}
use Rattle.model.specs.Stores.{Store, store, page_left, stored}
use Rattle.model.proofs.Compare.{below, above, order}
use Rattle.model.proofs.RefusalLaws.{PlanOk, page_some}
use Rattle.model.proofs.Runs.{sets_below, sets_above, drop_sets}
use Rattle.model.proofs.PageLaws.{pages_room, Pages, pages_add, no_page, one_page, rounded_pages, page_after, page_within}

-- a store keeps the image's length
pub length_stored : (p : Plan) (image : List ℕ) (e : End) (o : Option Store) → length (stored p image e o) ≡ length image
unfolding stored put put_page
length_stored p image e none = refl
length_stored p image completed (some s) = length-set image (place p s.unit s.cell) _
length_stored p image (torn_by bytes) (some s) =
    length-sets image (page_at p (place p s.unit s.cell))
    (take p.page (page_left s.cell (get p image s.unit s.cell) s.value bytes))

-- two cells of one unit that differ
abbrev pub Apart : Cell → Cell → Type 0
Apart marker marker = ⊥
Apart marker (byte c i) = Unit
Apart (byte c i) marker = Unit
Apart (byte copy_a i) (byte copy_a j) = ¬ (j ≡ i)
Apart (byte copy_a i) (byte copy_b j) = Unit
Apart (byte copy_b i) (byte copy_a j) = Unit
Apart (byte copy_b i) (byte copy_b j) = ¬ (j ≡ i)

-- the second cell is not of the part of the unit, its marker or one of its copies, that the first is of
abbrev pub Elsewhere : Cell → Cell → Type 0
Elsewhere marker marker = ⊥
Elsewhere marker (byte c i) = Unit
Elsewhere (byte c i) marker = Unit
Elsewhere (byte copy_a i) (byte copy_a j) = ⊥
Elsewhere (byte copy_a i) (byte copy_b j) = Unit
Elsewhere (byte copy_b i) (byte copy_a j) = Unit
Elsewhere (byte copy_b i) (byte copy_b j) = ⊥

elsewhere_apart : (c c' : Cell) → Elsewhere c c' → Apart c c'
elsewhere_apart marker marker h = h
elsewhere_apart marker (byte c i) h = tt
elsewhere_apart (byte c i) marker h = tt
elsewhere_apart (byte copy_a i) (byte copy_a j) h = absurd h
elsewhere_apart (byte copy_a i) (byte copy_b j) h = tt
elsewhere_apart (byte copy_b i) (byte copy_a j) h = tt
elsewhere_apart (byte copy_b i) (byte copy_b j) h = absurd h

pub bytes_apart : (c : Copy) (i j : ℕ) → ¬ (j ≡ i) → Apart (byte c i) (byte c j)
bytes_apart copy_a i j h = h
bytes_apart copy_b i j h = h

-- a cell as format leaves it
abbrev pub blank : Cell → ℕ
blank marker = OK
blank (byte c i) = 0

-- image' is image but for the part of unit u that the cell y is of
pub record Near (p : Plan) (image image' : List ℕ) (u : ℕ) (y : Cell) : Type 0 where
  pub size : length image' ≡ length image
  pub rest : drop (total p) image' ≡ drop (total p) image
  pub others : (v : ℕ) (c : Cell) → ¬ (v ≡ u) → InUnit (width p v) c → get p image' v c ≡ get p image v c
  pub own : (c : Cell) → InUnit (width p u) c → Elsewhere y c → get p image' u c ≡ get p image u c

module _ (p : Plan) (ok : PlanOk p) where
  -- a copy's pages hold it
  pub copy_room : (u : ℕ) → width p u ≤ copy_length p u
  copy_room u = (pages_room p.page (width p u) (page_some p ok)).0

  pub offset_bound : (u : ℕ) (c : Cell) → InUnit (width p u) c → offset p u c < unit_length p u
  offset_bound u marker h = omega (arith, page_some p ok)
  offset_bound u (byte copy_a i) h = omega (arith, copy_room u)
  offset_bound u (byte copy_b i) h = omega (arith, copy_room u)

  -- a unit has its marker at least
  pub unit_some : (u : ℕ) → 0 < unit_length p u
  unit_some u = offset_bound u marker tt

  -- a whole copy lies in its unit
  pub copy_bound : (u : ℕ) (c : Copy) → offset p u (byte c 0) + width p u ≤ unit_length p u
  copy_bound u copy_a = omega (arith, copy_room u)
  copy_bound u copy_b = omega (arith, copy_room u)

  offset_apart : (u : ℕ) (c c' : Cell) → InUnit (width p u) c → InUnit (width p u) c' → Apart c c'
      → ¬ (offset p u c' ≡ offset p u c)
  offset_apart u marker marker f g h = absurd h
  offset_apart u marker (byte copy_a i) f g h = omega (arith, page_some p ok)
  offset_apart u marker (byte copy_b i) f g h = omega (arith, page_some p ok)
  offset_apart u (byte copy_a i) marker f g h = omega (arith, page_some p ok)
  offset_apart u (byte copy_b i) marker f g h = omega (arith, page_some p ok)
  offset_apart u (byte copy_a i) (byte copy_a j) f g h = omega arith
  offset_apart u (byte copy_a i) (byte copy_b j) f g h = omega (arith, copy_room u)
  offset_apart u (byte copy_b i) (byte copy_a j) f g h = omega (arith, copy_room u)
  offset_apart u (byte copy_b i) (byte copy_b j) f g h = omega arith

  -- past its marker a fresh unit is zeros
  blank_at : (u q : ℕ) → ¬ (q ≡ 0) → q < unit_length p u → get_or (OK ∷ replicate (unit_length p u - 1) 0) q 0 ≡ 0
  blank_at u zero z h = absurd (z refl)
  blank_at u (suc q) z h = get_or-replicate {A = ℕ} (unit_length p u - 1) q 0 0 (omega arith)

  blank_unit : (u : ℕ) (c : Cell) → InUnit (width p u) c
      → get_or (OK ∷ replicate (unit_length p u - 1) 0) (offset p u c) 0 ≡ blank c
  blank_unit u marker h = refl
  blank_unit u (byte c i) h =
      blank_at u (offset p u (byte c i)) (offset_apart u marker (byte c i) tt h tt) (offset_bound u (byte c i) h)

  base_suc : (u : ℕ) → base p (suc u) ≡ base p u + unit_length p u
  unfolding base
  base_suc u = refl

  -- a unit ends where a later one begins, or before
  pub base_bound : (u v : ℕ) → u < v → base p u + unit_length p u ≤ base p v
  base_bound u zero h = omega arith
  base_bound u (suc v) h =
      elim (order u v) [
        | below l ↦ omega (arith, base_suc v, base_bound u v l)
        | above l ↦
            let e : u ≡ v = omega arith in
            rw (e, base_suc) (omega arith)
      ]

  pub place_bound : (u n : ℕ) (c : Cell) → u < n → InUnit (width p u) c → place p u c < base p n
  place_bound u n c h f = omega (arith, base_bound u n h, offset_bound u c f)

  place_apart : (u : ℕ) (c c' : Cell) → InUnit (width p u) c → InUnit (width p u) c' → Apart c c'
      → ¬ (place p u c' ≡ place p u c)
  place_apart u c c' f g h e = offset_apart u c c' f g h (omega arith)

  units_apart : (u v : ℕ) (c c' : Cell) → ¬ (v ≡ u) → InUnit (width p u) c → InUnit (width p v) c'
      → ¬ (place p v c' ≡ place p u c)
  units_apart u v c c' h f g e =
      elim (order u v) [
        | below l ↦ omega (arith, base_bound u v l, offset_bound u c f)
        | above l ↦ omega (arith, base_bound v u (omega arith), offset_bound v c' g)
      ]

  -- ---- a store of x in the cell c of unit u
  module _ (image : List ℕ) (u : ℕ) (c : Cell) (x : ℕ) (hc : InUnit (width p u) c) where
    pub get_put_cell : (c' : Cell) → InUnit (width p u) c' → Apart c c' → get p (put p image u c x) u c' ≡ get p image u c'
    unfolding get put
    get_put_cell c' g h = get_or-set_other image (place p u c) (place p u c') x 0 (place_apart u c c' hc g h)

    get_put_unit : (v : ℕ) (c' : Cell) → ¬ (v ≡ u) → InUnit (width p v) c' → get p (put p image u c x) v c' ≡ get p image v c'
    unfolding get put
    get_put_unit v c' h g = get_or-set_other image (place p u c) (place p v c') x 0 (units_apart u v c c' h hc g)

    module _ (hu : u < p.count) where
      pub get_put_same : total p ≤ length image → get p (put p image u c x) u c ≡ x
      unfolding get put
      get_put_same h = get_or-set_same image (place p u c) x 0 (omega (arith, place_bound u p.count c hu hc))

      pub put_near : Near p image (put p image u c x) u c
      unfolding put
      put_near =
          record {
            size = length-set image (place p u c) x;
            rest = drop-set-lt (total p) image (place p u c) x (place_bound u p.count c hu hc);
            others = get_put_unit;
            own = λ c' f h. get_put_cell c' f (elsewhere_apart c c' h);
          }

  -- ---- a unit's parts, the marker's page and the two copies, are whole pages each: where the part of a cell begins, and its bytes
  abbrev part_at : ℕ → Cell → ℕ
  part_at u marker = 0
  part_at u (byte c i) = offset p u (byte c 0)

  abbrev part_length : ℕ → Cell → ℕ
  part_length u marker = p.page
  part_length u (byte c i) = copy_length p u

  part_pages : (u : ℕ) (c : Cell) → Pages p.page (part_at u c)
  part_pages u marker = no_page
  part_pages u (byte copy_a i) = pages_add one_page no_page
  part_pages u (byte copy_b i) = pages_add (pages_add one_page (rounded_pages p.page (width p u))) no_page

  length_pages : (u : ℕ) (c : Cell) → Pages p.page (part_length u c)
  length_pages u marker = one_page
  length_pages u (byte c i) = rounded_pages p.page (width p u)

  pub unit_pages : (u : ℕ) → Pages p.page (unit_length p u)
  unit_pages u =
      let copy = rounded_pages p.page (width p u) in
      let t = pages_add one_page (pages_add copy copy) in
      record { many = t.many; is = omega (arith, t.is) }

  base_pages : (u : ℕ) → Pages p.page (base p u)
  unfolding base
  base_pages zero = no_page
  base_pages (suc u) = pages_add (base_pages u) (unit_pages u)

  in_part : (u : ℕ) (c : Cell) → InUnit (width p u) c → (part_at u c ≤ offset p u c) × (offset p u c < part_at u c + part_length u c)
  in_part u marker h = (omega arith, omega (arith, page_some p ok))
  in_part u (byte copy_a i) h = (omega arith, omega (arith, copy_room u))
  in_part u (byte copy_b i) h = (omega arith, omega (arith, copy_room u))

  part_bound : (u : ℕ) (c : Cell) → part_at u c + part_length u c ≤ unit_length p u
  part_bound u marker = omega arith
  part_bound u (byte copy_a i) = omega arith
  part_bound u (byte copy_b i) = omega arith

  -- so the page around a cell lies in the cell's part
  page_in_part : (u : ℕ) (c : Cell) → InUnit (width p u) c
      → (base p u + part_at u c ≤ page_at p (place p u c)) × (page_at p (place p u c) + p.page ≤ base p u + part_at u c + part_length u c)
  page_in_part u c h =
      page_within p.page (page_some p ok) (pages_add (base_pages u) (part_pages u c)) (length_pages u c) (place p u c)
      (omega (arith, (in_part u c h).0)) (omega (arith, (in_part u c h).1))

  -- counted from the unit's first byte: the page around a cell, and that it lies in the unit
  pub cell_page : (u : ℕ) (c : Cell) → page_at p (place p u c) ≡ base p u + offset p u c / p.page * p.page
  cell_page u c = page_after p.page (page_some p ok) (base_pages u) (offset p u c)

  pub page_bound : (u : ℕ) (c : Cell) → InUnit (width p u) c → offset p u c / p.page * p.page + p.page ≤ unit_length p u
  page_bound u c h = omega (arith, cell_page u c, (page_in_part u c h).1, part_bound u c)

  -- and so among all units
  pub page_inside : (u : ℕ) (c : Cell) → u < p.count → InUnit (width p u) c → page_at p (place p u c) + p.page ≤ total p
  page_inside u c hu h = omega (arith, (page_in_part u c h).1, part_bound u c, base_bound u p.count hu)

  -- j is outside of the n bytes from i on
  data Outside (j i n : ℕ) : Type 0 where
    under : j < i → Outside j i n
    over : i + n ≤ j → Outside j i n

  parts_apart : (u : ℕ) (c c' : Cell) → InUnit (width p u) c → InUnit (width p u) c' → Elsewhere c c'
      → Outside (offset p u c') (part_at u c) (part_length u c)
  parts_apart u marker marker f g h = absurd h
  parts_apart u marker (byte copy_a i) f g h = over (omega arith)
  parts_apart u marker (byte copy_b i) f g h = over (omega arith)
  parts_apart u (byte copy_a i) marker f g h = under (omega (arith, page_some p ok))
  parts_apart u (byte copy_b i) marker f g h = under (omega (arith, page_some p ok))
  parts_apart u (byte copy_a i) (byte copy_a j) f g h = absurd h
  parts_apart u (byte copy_a i) (byte copy_b j) f g h = over (omega arith)
  parts_apart u (byte copy_b i) (byte copy_a j) f g h = under (omega (arith, copy_room u))
  parts_apart u (byte copy_b i) (byte copy_b j) f g h = absurd h

  -- ---- a torn page
  module _ (image : List ℕ) (u : ℕ) (c : Cell) (bytes : List ℕ) (hu : u < p.count) (hc : InUnit (width p u) c) where
    abbrev first_torn : ℕ
    first_torn = page_at p (place p u c)

    abbrev given : List ℕ
    given = take p.page bytes

    in_page : length given ≤ p.page
    in_page = simp length-take (omega arith)

    untorn : (j : ℕ) → Outside j (base p u + part_at u c) (part_length u c) → get_or (sets image first_torn given) j 0 ≡ get_or image j 0
    untorn j (under l) = sets_below given image first_torn j (omega (arith, (page_in_part u c hc).0))
    untorn j (over l) = sets_above given image first_torn j (omega (arith, (page_in_part u c hc).1, in_page))

    -- it changes nothing outside of the cell's part
    page_near : Near p image (put_page p image u c bytes) u c
    unfolding put_page get
    page_near =
        record {
          size = length-sets image first_torn given;
          rest =
              drop_sets given image first_torn (total p)
              (omega (arith, in_page, (page_in_part u c hc).1, part_bound u c, base_bound u p.count hu));
          others = λ v c' ne f. untorn (place p v c') (elsewhere v c' ne f);
          own = λ c' f h. untorn (place p u c') (shift (parts_apart u c c' hc f h));
        }
      where
        elsewhere : (v : ℕ) (c' : Cell) → ¬ (v ≡ u) → InUnit (width p v) c'
            → Outside (place p v c') (base p u + part_at u c) (part_length u c)
        elsewhere v c' ne f =
            elim (order u v) [
              | below l ↦ over (omega (arith, part_bound u c, base_bound u v l))
              | above l ↦ under (omega (arith, base_bound v u (omega arith), offset_bound v c' f))
            ]

        shift : {j i n : ℕ} → Outside j i n → Outside (base p u + j) (base p u + i) n
        shift (under l) = under (omega arith)
        shift (over l) = over (omega arith)

  -- the marker is the first byte of its page
  pub marker_page : (u : ℕ) → page_at p (place p u marker) ≡ place p u marker
  marker_page u = let t = page_in_part u marker tt in omega arith

  head_given : (n x : ℕ) (xs : List ℕ) → 0 < n → take n (x ∷ xs) ≡ x ∷ take (n - 1) xs
  head_given zero x xs h = absurd (omega arith)
  head_given (suc n) x xs h =
      let e : suc n - 1 ≡ n = omega arith in
      rw e

  page_marker : (image : List ℕ) (u x : ℕ) (xs : List ℕ) → u < p.count → total p ≤ length image
      → get p (put_page p image u marker (x ∷ xs)) u marker ≡ x
  unfolding put_page get
  page_marker image u x xs hu h =
      let q : ℕ = place p u marker in
      rw (marker_page u, head_given p.page x xs (page_some p ok))
      (sets_below (take (p.page - 1) xs) (set image q x) (suc q) q (omega arith)
      ∙ get_or-set_same image q x 0 (omega (arith, place_bound u p.count marker hu tt)))

  -- ---- a store that is completed or torn
  module _ (image : List ℕ) (e : End) (u x : ℕ) (hu : u < p.count) where
    pub stored_near : (c : Cell) → InUnit (width p u) c → Near p image (stored p image e (some (store u c x))) u c
    unfolding stored
    stored_near c h = go e
      where
        go : (e : End) → Near p image (stored p image e (some (store u c x))) u c
        go completed = put_near image u c x h hu
        go (torn_by bytes) = page_near image u c (page_left c (get p image u c) x bytes) hu h

    pub stored_marker : total p ≤ length image
        → get p (stored p image e (some (store u marker x))) u marker ≡ marker_left e (get p image u marker) x
    unfolding stored
    stored_marker h = go e
      where
        go : (e : End) → get p (stored p image e (some (store u marker x))) u marker ≡ marker_left e (get p image u marker) x
        go completed = get_put_same image u marker x tt hu h
        go (torn_by bytes) = page_marker image u (torn (get p image u marker) x (get_or bytes 0 0)) (drop 1 bytes) hu h

  -- ---- a whole copy
  copy_place : (u : ℕ) (c : Copy) (i : ℕ) → place p u (byte c 0) + i ≡ place p u (byte c i)
  copy_place u copy_a i = omega arith
  copy_place u copy_b i = omega arith

  pub copy_length_lem : (image : List ℕ) (u : ℕ) (c : Copy) → u < p.count → total p ≤ length image
      → length (copy_of p image u c) ≡ width p u
  unfolding copy_of
  copy_length_lem image u c hu ht =
      simp (length-take, length-drop) (omega (arith, base_bound u p.count hu, copy_bound u c))

  pub copy_byte : (image : List ℕ) (u : ℕ) (c : Copy) (i : ℕ) → i < width p u
      → get_or (copy_of p image u c) i 0 ≡ get p image u (byte c i)
  unfolding copy_of get
  copy_byte image u c i h =
      get_or-take (width p u) (drop (place p u (byte c 0)) image) i 0 h
      ∙ get_or-drop (place p u (byte c 0)) image i 0
      ∙ ap (λ (q : ℕ). get_or image q 0) (copy_place u c i)

  -- .. whose bytes are those of s
  pub copy_is : (image : List ℕ) (u : ℕ) (c : Copy) (s : List ℕ) → u < p.count → total p ≤ length image → length s ≡ width p u
      → ((i : ℕ) → i < width p u → get p image u (byte c i) ≡ get_or s i 0)
      → copy_of p image u c ≡ s
  copy_is image u c s hu ht hs h =
      let len = copy_length_lem image u c hu ht in
      ext_get_or 0 (copy_of p image u c) s (len ∙ sym hs)
      (λ i hi.
      let l : i < width p u = omega (arith, len) in
      copy_byte image u c i l ∙ h i l)

  -- ---- what format leaves
  pub length_fresh : (n : ℕ) → length (fresh p n) ≡ base p n
  unfolding fresh base
  length_fresh zero = refl
  length_fresh (suc n) = simp (length-append, length-replicate, length_fresh n) (omega (arith, page_some p ok))

  fresh_get : (n u : ℕ) (c : Cell) → u < n → InUnit (width p u) c → get_or (fresh p n) (place p u c) 0 ≡ blank c
  unfolding fresh
  fresh_get zero u c h f = absurd (omega arith)
  fresh_get (suc n) u c h f =
      elim (order u n) [
        | below l ↦
            get_or-append (fresh p n) _ 0 (place p u c) (omega (arith, length_fresh n, place_bound u n c l f))
            ∙ fresh_get n u c l f
        | above l ↦
            let e : u ≡ n = omega arith in
            ap (λ (q : ℕ). get_or (fresh p n ++ OK ∷ replicate (unit_length p n - 1) 0) q 0)
            (rw e (omega (arith, length_fresh n)))
            ∙ get_or-append-add (fresh p n) (OK ∷ replicate (unit_length p n - 1) 0) (offset p n c) 0
            ∙ blank_unit n c (rw e at f)
      ]

  pub get_formatted : (image : List ℕ) (u : ℕ) (c : Cell) → u < p.count → InUnit (width p u) c
      → get p (formatted p image) u c ≡ blank c
  unfolding get formatted
  get_formatted image u c h f =
      get_or-append (fresh p p.count) _ 0 (place p u c)
      (omega (arith, length_fresh p.count, place_bound u p.count c h f))
      ∙ fresh_get p.count u c h f

  -- but for the markers a fresh image is zeros
  fresh_zero : (n i : ℕ) → i < base p n → ((u : ℕ) → u < n → ¬ (i ≡ base p u)) → get_or (fresh p n) i 0 ≡ 0
  unfolding fresh base
  fresh_zero zero i h free = absurd (omega arith)
  fresh_zero (suc n) i h free =
      let unit : List ℕ = OK ∷ replicate (unit_length p n - 1) 0 in
      elim (order i (base p n)) [
        | below l ↦
            get_or-append (fresh p n) unit 0 i (omega (arith, length_fresh n))
            ∙ fresh_zero n i l (λ u k. free u (omega arith))
        | above l ↦
            let q : ℕ = i - base p n in
            let e : i ≡ length (fresh p n) + q = omega (arith, length_fresh n) in
            let ne : ¬ (q ≡ 0) = λ z. free n (omega arith) (omega arith) in
            ap (λ (k : ℕ). get_or (fresh p n ++ unit) k 0) e
            ∙ get_or-append-add (fresh p n) unit q 0
            ∙ blank_at n q ne (omega arith)
      ]

  pub formatted_zero : (image : List ℕ) (i : ℕ) → i < total p → ((u : ℕ) → u < p.count → ¬ (i ≡ base p u))
      → get_or (formatted p image) i 0 ≡ 0
  unfolding formatted
  formatted_zero image i h free =
      get_or-append (fresh p p.count) _ 0 i (omega (arith, length_fresh p.count)) ∙ fresh_zero p.count i h free

  pub length_formatted : (image : List ℕ) → total p ≤ length image → length (formatted p image) ≡ length image
  unfolding formatted
  length_formatted image h = simp (length-append, length-drop, length_fresh) (omega arith)

  pub rest_formatted : (image : List ℕ) → drop (total p) (formatted p image) ≡ drop (total p) image
  unfolding formatted
  rest_formatted image = drop_at (fresh p p.count) (drop (total p) image) (total p) (length_fresh p.count)
