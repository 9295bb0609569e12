-- A write of a group, found in its payload.
use Prim.Native.Nat.{ℕ, zero, suc, ◌+◌, ◌-◌, ◌≤◌, ◌<◌}
use mathlib.Core.Path.{◌≡◌, refl, ap, ap₂, sym, subst, ◌∙◌}
use mathlib.Core.List.{List, [], ◌∷◌, ◌++◌, append-nil}
use mathlib.Core.Bool.{Bool, true, false, not, ◌||◌, ◌&&◌, false≢true}
use native.Mathlib.Omega.{arith}
use lib.Dec.{ltb, leb}
use lib.ListN.{length, get_or, take, drop, replicate, length-append, length-drop, length-take}
use lib.Seq.{get_or-take, get_or-drop, drop-drop, drop-append-le}
use borrow.Author.Tests.{leb-true, le-leb, lt-leb}
use Rattle.model.specs.declared.Plan.{Plan}
use Rattle.model.specs.Plans.{width}
use Rattle.model.specs.Groups.{Write, write, last, padded, split, splits, member_count, given, remaining, writes, nth, write_at, is_last_write}
use Rattle.model.specs.Refusals.{bad_write}
use Rattle.model.proofs.RefusalLaws.{and_true, or_false}
use Rattle.model.proofs.GroupLaws.{wide_of, count_splits}
use Rattle.group.specs.declared.Part.{Part}
use Rattle.group.specs.Parts.{extent, PartOf}
use Rattle.group.proofs.Walk.{past_end, part_all}
use Rattle.group.proofs.Record.{Standing, given_standing, behind_count, count_small}

-- ---- the members, one by one
split_length : (p : Plan) (n : ℕ) (g z : List ℕ) → splits p n g ≡ true → length (split p n (g ++ z)) ≡ n
unfolding splits split
split_length p zero g z e = refl
split_length p (suc n) [] z e = absurd (false≢true e)
split_length p (suc n) (u ∷ g) z e =
    let w : ℕ = width p u in
    let h = and_true (ltb u p.count && leb w (length g)) _ e in
    let l : w ≤ length g = leb-true w (length g) (and_true (ltb u p.count) _ h.0).1 in
    ap suc (ap (λ (xs : List ℕ). length (split p n xs)) (drop-append-le w g z l) ∙ split_length p n (drop w g) z h.1)

-- the member that begins at a place
abbrev member_at : Plan → List ℕ → ℕ → Write
member_at p xs e = write (get_or xs e 0) (take (width p (get_or xs e 0)) (drop (suc e) xs))

member_at_lem : (p : Plan) (n j : ℕ) (g z : List ℕ) → splits p n g ≡ true → j < n
    → (nth (split p n (g ++ z)) j ≡ member_at p (g ++ z) (extent p j (g ++ z))) × (extent p j (g ++ z) < length g)
unfolding splits split nth extent
member_at_lem p zero j g z e h = absurd (omega arith)
member_at_lem p (suc n) j [] z e h = absurd (false≢true e)
member_at_lem p (suc n) zero (u ∷ g) z e h = (refl, omega arith)
member_at_lem p (suc n) (suc j) (u ∷ g) z e h =
    let w : ℕ = width p u in
    let a = and_true (ltb u p.count && leb w (length g)) _ e in
    let l : w ≤ length g = leb-true w (length g) (and_true (ltb u p.count) _ a.0).1 in
    let d : drop w (g ++ z) ≡ drop w g ++ z = drop-append-le w g z l in
    let r = member_at_lem p n j (drop w g) z a.1 (omega arith) in
    let x : ℕ = extent p j (drop w (g ++ z)) in
    let same : x ≡ extent p j (drop w g ++ z) = ap (extent p j) d in
    let size : length (take w (g ++ z)) ≡ w = length-take w (g ++ z) ∙ omega (arith, length-append g z) in
    let byte : get_or (drop w (g ++ z)) x 0 ≡ get_or (u ∷ (g ++ z)) (suc (length (take w (g ++ z))) + x) 0 =
    get_or-drop w (g ++ z) x 0 ∙ ap (λ (k : ℕ). get_or (u ∷ (g ++ z)) k 0) {x = suc (w + x)} {y = suc (length (take w (g ++ z))) + x} (omega arith) in
    let rest : drop (suc x) (drop w (g ++ z)) ≡ drop (suc (suc (length (take w (g ++ z))) + x)) (u ∷ (g ++ z)) =
    drop-drop (suc x) w (g ++ z) ∙ ap (λ (k : ℕ). drop k (u ∷ (g ++ z))) {x = suc (w + suc x)} {y = suc (suc (length (take w (g ++ z))) + x)} (omega arith) in (
      ap (λ (xs : List ℕ). nth (split p n xs) j) d ∙ r.0
          ∙ ap (λ (xs : List ℕ). member_at p xs (extent p j xs)) (sym d)
          ∙ ap₂ (λ (v : ℕ) (xs : List ℕ). write v (take (width p v) xs)) byte rest,
      omega (arith, r.1, same, length-drop w g),
    )

nth_front : (xs ys : List Write) (i : ℕ) → i < length xs → nth (xs ++ ys) i ≡ nth xs i
unfolding nth
nth_front [] ys i h = absurd (omega arith)
nth_front (x ∷ xs) ys zero h = refl
nth_front (x ∷ xs) ys (suc i) h = nth_front xs ys i (omega arith)

nth_end : (xs : List Write) (y : Write) (i : ℕ) → i ≡ length xs → nth (xs ++ (y ∷ [])) i ≡ y
unfolding nth
nth_end [] y zero e = refl
nth_end [] y (suc i) e = absurd (omega arith)
nth_end (x ∷ xs) y zero e = absurd (omega arith)
nth_end (x ∷ xs) y (suc i) e = nth_end xs y i (omega arith)

-- what is found at a write is found at the same write, in the same part
pub found_as : {p : Plan} {payload : List ℕ} {i j : ℕ} {r x : Part} → i ≡ j → r ≡ x → PartOf p payload j x → PartOf p payload i r
found_as {p} {payload} {i} {j} {r} {x} e f h =
    subst (λ (k : ℕ). PartOf p payload k r) (sym e) (subst (λ (y : Part). PartOf p payload j y) (sym f) h)

-- ---- a payload is padded
padded_full : (payload : List ℕ) → length payload ≡ 256 → padded payload ≡ payload
padded_full payload e =
    ap (λ (k : ℕ). payload ++ replicate {A = ℕ} k 0) {x = 256 - length payload} {y = 0} (omega (arith, e)) ∙ append-nil payload

pub given_full : (p : Plan) (payload : List ℕ) → length payload ≡ 256 → {t : Bool} → t ≡ given p (padded payload) → given p payload ≡ t
given_full p payload full e = ap (given p) (sym (padded_full payload full)) ∙ sym e

pub standing_full : (p : Plan) (payload : List ℕ) → length payload ≡ 256 → width p (last p) ≤ 256 → given p payload ≡ true → Standing p payload
standing_full p payload full room e =
    given_standing p payload (omega (arith, full)) (omega (arith, full)) (ap (given p) (padded_full payload full) ∙ e)

-- ---- no such write
pub no_record_lem : (p : Plan) (payload : List ℕ) (i : ℕ) → given p payload ≡ false → bad_write p payload i ≡ true
unfolding bad_write
no_record_lem p payload i e = go p.grouped (given p payload) (leb (length (writes p payload)) i) e
  where
    go : (a b c : Bool) → b ≡ false → not a || (not b || c) ≡ true
    go true b c e = rw e
    go false b c e = refl

-- ---- the writes of a payload that a group gives
module _ (p : Plan) (payload : List ℕ) (full : length payload ≡ 256) (valid : given p payload ≡ true) (s : Standing p payload) where
  abbrev count : ℕ
  count = member_count p s.g

  abbrev parts : List Write
  parts = split p count (s.g ++ s.rest)

  abbrev zeroed : Write
  zeroed = write (last p) (replicate (width p (last p)) 0)

  exact : splits p count s.g ≡ true
  exact = count_splits p s.g s.parts

  pub members_are : get_or payload 0 0 ≡ count
  members_are = ap (λ (l : List ℕ). get_or l 0 0) s.is

  behind_count_lem : drop 1 payload ≡ s.g ++ s.rest
  behind_count_lem = ap (drop 1) s.is

  writes_are : writes p payload ≡ write (last p) (take (width p (last p)) payload) ∷ (parts ++ (zeroed ∷ []))
  unfolding writes remaining
  writes_are =
      ap₂ (λ (k : ℕ) (xs : List ℕ). write (last p) (take (width p (last p)) payload) ∷ (split p k xs ++ (zeroed ∷ [])))
      members_are behind_count_lem

  writes_length : length (writes p payload) ≡ count + 2
  writes_length =
      ap length writes_are ∙ omega (arith, length-append parts (zeroed ∷ []), split_length p count s.g s.rest exact)

  is_write : (i : ℕ) → i < count + 2 → bad_write p payload i ≡ false
  unfolding bad_write
  is_write i h =
      or_false _ _ (ap not (wide_of p s.g s.wide).0) (or_false _ _ (ap not valid) (lt-leb _ i (omega (arith, writes_length))))

  pub past_last_lem : (i : ℕ) → count + 1 < i → bad_write p payload i ≡ true
  unfolding bad_write
  past_last_lem i h = go p.grouped (given p payload) _ (le-leb (length (writes p payload)) i (omega (arith, writes_length)))
    where
      go : (a b c : Bool) → c ≡ true → not a || (not b || c) ≡ true
      go true true c e = e
      go true false c e = refl
      go false b c e = refl

  ends : (i : ℕ) (t : Bool) → leb (count + 2) (suc i) ≡ t → t ≡ is_last_write p payload i
  unfolding is_last_write
  ends i t e = sym (ap (λ (n : ℕ). leb n (suc i)) writes_length ∙ e)

  -- the record, the zeros, a member
  pub record_found : PartOf p payload 0 (record { from = 0; unit = last p; last = false })
  unfolding write_at nth
  record_found =
      record {
        good = is_write 0 (omega arith);
        unit = sym (ap (λ (xs : List Write). (nth xs 0).unit) writes_are);
        from = omega arith;
        bytes = λ j h.
            sym (ap (λ (xs : List Write). get_or (nth xs 0).bytes j 0) writes_are ∙ get_or-take (width p (last p)) payload j 0 h);
        last = ends 0 false (lt-leb (count + 2) 1 (omega arith));
        few = omega arith;
      }

  nth_zeros : write_at p payload (suc count) ≡ zeroed
  unfolding write_at nth
  nth_zeros =
      ap (λ (xs : List Write). nth xs (suc count)) writes_are
      ∙ nth_end parts zeroed count (sym (split_length p count s.g s.rest exact))

  pub zeros_found : PartOf p payload (suc count) (record { from = 256; unit = last p; last = true })
  zeros_found =
      record {
        good = is_write (suc count) (omega arith);
        unit = sym (ap (λ (x : Write). x.unit) nth_zeros);
        from = omega arith;
        bytes = λ j h.
            ap (λ (xs : List ℕ). get_or xs j 0) (past_end payload 256 (omega (arith, full)))
            ∙ sym (ap (λ (x : Write). get_or x.bytes j 0) nth_zeros ∙ zero_at (width p (last p)) j);
        last = ends (suc count) true (le-leb (count + 2) (suc (suc count)) (omega arith));
        few = omega (arith, count_small p s.g);
      }
    where
      zero_at : (k i : ℕ) → get_or {A = ℕ} (replicate k 0) i 0 ≡ 0
      zero_at zero i = refl
      zero_at (suc k) zero = refl
      zero_at (suc k) (suc i) = zero_at k i

  module _ (i : ℕ) (low : 0 < i) (high : i ≤ count) where
    abbrev reached : ℕ
    reached = extent p (i - 1) (s.g ++ s.rest)

    member_is : (write_at p payload i ≡ member_at p (s.g ++ s.rest) reached) × (reached < length s.g)
    unfolding write_at nth
    member_is =
        let m = member_at_lem p count (i - 1) s.g s.rest exact (omega arith) in
        let e : i ≡ suc (i - 1) = omega arith in (
          ap₂ nth writes_are e
              ∙ nth_front parts (zeroed ∷ []) (i - 1) (omega (arith, split_length p count s.g s.rest exact))
              ∙ m.0,
          m.1,
        )

    module _ {q : ℕ} (e : q ≡ extent p (i - 1) (behind_count payload)) where
      is_reached : q ≡ reached
      is_reached = e ∙ ap (extent p (i - 1)) (part_all payload 1 ∙ behind_count_lem)

      pub member_inside : 1 + q + 1 ≤ 256
      member_inside =
          omega (arith, is_reached, member_is.1, full, ap length s.is, length-append s.g s.rest)

      unit_is : get_or payload (1 + q) 0 ≡ (write_at p payload i).unit
      unit_is =
          ap (λ (l : List ℕ). get_or l (1 + q) 0) s.is
          ∙ ap (λ (k : ℕ). get_or (count ∷ (s.g ++ s.rest)) k 0) {x = 1 + q} {y = suc reached} (omega (arith, is_reached))
          ∙ sym (ap (λ (x : Write). x.unit) member_is.0)

      pub member_found : PartOf p payload i (record { from = 1 + q + 1; unit = get_or payload (1 + q) 0; last = false })
      member_found =
          record {
            good = is_write i (omega arith);
            unit = unit_is;
            from = member_inside;
            bytes = λ j h.
                ap₂ (λ (l : List ℕ) (k : ℕ). get_or (drop (1 + k + 1) l) j 0) s.is is_reached
                ∙ ap (λ (k : ℕ). get_or (drop k (count ∷ (s.g ++ s.rest))) j 0) {x = 1 + reached + 1} {y = suc (suc reached)} (omega arith)
                ∙ sym (ap (λ (x : Write). get_or x.bytes j 0) member_is.0
                ∙ get_or-take (width p (get_or (s.g ++ s.rest) reached 0)) (drop (suc reached) (s.g ++ s.rest)) j 0
                (omega (arith, h, ap (width p) (unit_is ∙ ap (λ (x : Write). x.unit) member_is.0))));
            last = ends i false (lt-leb (count + 2) (suc i) (omega arith));
            few = omega (arith, high, count_small p s.g);
          }
