-- A group's payload, taken apart: what 19 to 21 say of it, and the writes that it comes to.
use Prim.Native.Nat.{ℕ, zero, suc, ◌+◌, ◌-◌, ◌≤◌, ◌<◌}
use mathlib.Core.Path.{◌≡◌, refl, ap, ap₂, sym, ◌∙◌}
use mathlib.Core.List.{List, [], ◌∷◌, ◌++◌, append_assoc, append-nil}
use mathlib.Core.Bool.{Bool, true, false, cond, not, ◌||◌, ◌&&◌, true≢false, false≢true}
use native.Mathlib.Omega.{arith}
use lib.Dec.{eqb, ltb, leb}
use lib.ListN.{length, get_or, take, drop, replicate, length-append, length-replicate, length-take, replicate-append-replicate, take-append-drop}
use lib.Seq.{take-append-le, drop-append-le, take-append-add, length-take-le}
use borrow.Author.Tests.{ltb-true, ltb-false, leb-true, leb-false, eqb-true, eqb-false, eq-eqb, lt-leb, not-false, not-true}
use Rattle.model.specs.declared.Plan.{Plan}
use Rattle.model.specs.Marker.{OK}
use Rattle.model.specs.Plans.{width}
use Rattle.model.specs.Groups.{Write, write, last, padded, split, joined, splits, member_count, members, unsplit, overlaps, narrow, fits, payload_of, group_in, alike, given, stands, remaining, writes, nth, write_at}
use Rattle.model.specs.Refusals.{ready, is_ready, bad_write, View, dirty, group_number, first, Refusal, device_row, ◌when◌}
use Rattle.model.proofs.RefusalLaws.{PlanOk, count_bounds, width_bounds, and_true, or_false, false_or, ready_only, past, first_past, first_stop, first_from, Alike}

both_true : (x y : Bool) → x ≡ true → y ≡ true → x && y ≡ true
both_true true y e f = f
both_true false y e f = e

-- ---- a write of a unit that the plan has, with all its bytes
pub record Sized (p : Plan) (x : Write) : Type 0 where
  pub unit : x.unit < p.count
  pub size : length x.bytes ≡ width p x.unit

pub data All (p : Plan) : List Write → Type 0 where
  nil : All p []
  cons : {x : Write} {xs : List Write} → Sized p x → All p xs → All p (x ∷ xs)

all_snoc : (p : Plan) {xs : List Write} (x : Write) → All p xs → Sized p x → All p (xs ++ (x ∷ []))
all_snoc p x nil h = cons h nil
all_snoc p x (cons g r) h = cons g (all_snoc p x r h)

nth_sized : (p : Plan) {xs : List Write} (i : ℕ) → All p xs → i < length xs → Sized p (nth xs i)
unfolding nth
nth_sized p i nil h = absurd (omega arith)
nth_sized p zero (cons g r) h = g
nth_sized p (suc i) (cons g r) h = nth_sized p i r (omega arith)

-- ---- bytes that are n members, with anything after them
pub splits_all : (p : Plan) (n : ℕ) (g z : List ℕ) → splits p n g ≡ true
    → All p (split p n (g ++ z)) × (joined (split p n (g ++ z)) ≡ g)
unfolding splits split joined
splits_all p zero [] z e = (nil, refl)
splits_all p zero (x ∷ g) z e = absurd (false≢true e)
splits_all p (suc n) [] z e = absurd (false≢true e)
splits_all p (suc n) (u ∷ g) z e =
    let w : ℕ = width p u in
    let h = and_true (ltb u p.count && leb w (length g)) _ e in
    let k = and_true (ltb u p.count) _ h.0 in
    let l : w ≤ length g = leb-true w (length g) k.1 in
    let r = splits_all p n (drop w g) z h.1 in
    let size : length (take w (g ++ z)) ≡ w = simp (length-take, length-append) (omega arith) in
    let tk : take w (g ++ z) ≡ take w g = take-append-le w g z l in
    let dr : drop w (g ++ z) ≡ drop w g ++ z = drop-append-le w g z l in
    let tail : All p (split p n (drop w (g ++ z))) = rw dr r.0 in
    let back : joined (split p n (drop w (g ++ z))) ≡ drop w g = rw dr r.1 in (
      cons (record { unit = ltb-true u p.count k.0; size = size }) tail,
      ap₂ (λ (a b : List ℕ). u ∷ (a ++ b)) tk back ∙ ap (λ (a : List ℕ). u ∷ a) (take-append-drop w g),
    )

pub splits_same : (p : Plan) (n : ℕ) (g z : List ℕ) → splits p n g ≡ true → split p n (g ++ z) ≡ split p n g
unfolding splits split
splits_same p zero g z e = refl
splits_same p (suc n) [] z e = absurd (false≢true e)
splits_same p (suc n) (u ∷ g) z e =
    let w : ℕ = width p u in
    let h = and_true (ltb u p.count && leb w (length g)) _ e in
    let l : w ≤ length g = leb-true w (length g) (and_true (ltb u p.count) _ h.0).1 in
    ap₂ (λ (q : List ℕ) (r : List Write). write u q ∷ r) (take-append-le w g z l)
    (rw (drop-append-le w g z l) (splits_same p n (drop w g) z h.1))

pub count_splits : (p : Plan) (g : List ℕ) → unsplit p g ≡ false → splits p (member_count p g) g ≡ true
unfolding unsplit member_count
count_splits p g = go (splits p 2 g) (splits p 3 g) (splits p 4 g) refl refl refl
  where
    go : (x y z : Bool) → splits p 2 g ≡ x → splits p 3 g ≡ y → splits p 4 g ≡ z
        → eqb (cond x 2 (cond y 3 (cond z 4 0))) 0 ≡ false → splits p (cond x 2 (cond y 3 (cond z 4 0))) g ≡ true
    go true y z a b c e = a
    go false true z a b c e = b
    go false false true a b c e = c
    go false false false a b c e = absurd (true≢false e)

-- there is a member
pub members_some : (p : Plan) (g : List ℕ) → unsplit p g ≡ false → ¬ (members p g ≡ [])
unfolding members unsplit splits split
members_some p g e = go (member_count p g) g (count_splits p g e) (eqb-false (member_count p g) 0 e)
  where
    go : (n : ℕ) (g : List ℕ) → splits p n g ≡ true → ¬ (n ≡ 0) → ¬ (split p n g ≡ [])
    go zero g h some = absurd (some refl)
    go (suc n) [] h some = absurd (false≢true h)
    go (suc n) (u ∷ g) h some = λ e. absurd (omega (arith, ap (λ (xs : List Write). length xs) e))

count_some : (p : Plan) (g : List ℕ) → unsplit p g ≡ false → ¬ (member_count p g ≡ 0)
unfolding unsplit
count_some p g e = eqb-false (member_count p g) 0 e

alike_eq : (xs ys : List ℕ) → alike xs ys ≡ true → xs ≡ ys
unfolding alike
alike_eq [] [] e = refl
alike_eq [] (y ∷ ys) e = absurd (false≢true e)
alike_eq (x ∷ xs) [] e = absurd (false≢true e)
alike_eq (x ∷ xs) (y ∷ ys) e =
    let h = and_true (eqb x y) _ e in
    ap₂ ◌∷◌ (eqb-true x y h.0) (alike_eq xs ys h.1)

alike_refl : (xs : List ℕ) → alike xs xs ≡ true
unfolding alike
alike_refl [] = refl
alike_refl (x ∷ xs) = rw (eq-eqb x x refl) (alike_refl xs)

-- what remains to write after the record of a group
pub remaining_of : (p : Plan) (g : List ℕ) → unsplit p g ≡ false
    → remaining p (payload_of p g) ≡ members p g ++ (write (last p) (replicate (width p (last p)) 0) ∷ [])
unfolding remaining payload_of members
remaining_of p g e =
    ap (λ (xs : List Write). xs ++ (write (last p) (replicate (width p (last p)) 0) ∷ []))
    (splits_same p (member_count p g) g (replicate (256 - length (member_count p g ∷ g)) 0) (count_splits p g e))

-- ---- a payload that a group gives
pub record Given (p : Plan) (payload : List ℕ) : Type 0 where
  pub g : List ℕ
  pub same : payload ≡ payload_of p g
  pub exactly : splits p (member_count p g) g ≡ true
  pub some : ¬ (member_count p g ≡ 0)
  pub apart : overlaps p g ≡ false
  pub grouped : p.grouped ≡ true
  pub wide : suc (length g) ≤ width p (last p)

pub wide_of : (p : Plan) (g : List ℕ) → narrow p g ≡ false → (p.grouped ≡ true) × (suc (length g) ≤ width p (last p))
unfolding narrow
wide_of p g e =
    let h = false_or (not p.grouped) _ e in
    (not-false p.grouped h.0, ltb-false _ (suc (length g)) h.1)

pub given_says : (p : Plan) (payload : List ℕ) → given p payload ≡ true → Given p payload
unfolding given fits
given_says p payload e =
    let g : List ℕ = group_in p payload in
    let h = and_true (not (unsplit p g) && (not (overlaps p g) && not (narrow p g))) _ e in
    let a = and_true (not (unsplit p g)) _ h.0 in
    let b = and_true (not (overlaps p g)) _ a.1 in
    let c = wide_of p g (not-true (narrow p g) b.1) in
    record {
      g = g;
      same = sym (alike_eq _ payload h.1);
      exactly = count_splits p g (not-true _ a.0);
      some = count_some p g (not-true _ a.0);
      apart = not-true _ b.0;
      grouped = c.0;
      wide = c.1;
    }

-- the bytes of a standing record, padded, are such a payload, and its device is grouped then
pub stands_given : (p : Plan) (bytes : List ℕ) → stands p bytes ≡ given p (padded bytes)
unfolding stands
stands_given p bytes = go (given p (padded bytes)) refl
  where
    go : (t : Bool) → given p (padded bytes) ≡ t → p.grouped && given p (padded bytes) ≡ given p (padded bytes)
    go true e = rw (given_says p (padded bytes) e).grouped
    go false e = rw e (and_no p.grouped)
      where
        and_no : (g : Bool) → g && false ≡ false
        and_no true = refl
        and_no false = refl

-- ---- what a group's 0 says
pub record Grouped (v : View) (g : List ℕ) : Type 0 where
  pub job : v.job ≡ ready
  pub parts : unsplit v.plan g ≡ false
  pub apart : overlaps v.plan g ≡ false
  pub wide : narrow v.plan g ≡ false

pub group_says : (v : View) (g : List ℕ) → group_number v g ≡ 0 → Grouped v g
unfolding group_number
group_says v g e =
    let h₅ = first_past 4 (not (is_ready v.job)) _ (past v _ e).more in
    let h₁₉ = first_past 18 (unsplit v.plan g) _ h₅.1 in
    let h₂₀ = first_past 19 (overlaps v.plan g) _ h₁₉.1 in
    let h₂₁ = first_past 20 (narrow v.plan g) _ h₂₀.1 in
    record { job = ready_only v.job h₅.0; parts = h₁₉.0; apart = h₂₀.0; wide = h₂₁.0 }

-- a group that passes 19 to 21 gives its payload
pub given_fits : (p : Plan) (g : List ℕ) → unsplit p g ≡ false → overlaps p g ≡ false → narrow p g ≡ false
    → given p (payload_of p g) ≡ true
unfolding given fits group_in payload_of
given_fits p g parts apart wide =
    let z : List ℕ = replicate (256 - length (member_count p g ∷ g)) 0 in
    let back : joined (split p (member_count p g) (g ++ z)) ≡ g = (splits_all p (member_count p g) g z (count_splits p g parts)).1 in
    rw (back, parts, apart, wide) (alike_refl _)

pub given_is : (v : View) (g : List ℕ) → Grouped v g → given v.plan (payload_of v.plan g) ≡ true
given_is v g a = given_fits v.plan g a.parts a.apart a.wide

-- ---- the writes of a payload that a group gives
module _ (p : Plan) (ok : PlanOk p) where
  pub last_lt : last p < p.count
  last_lt = omega (arith, (count_bounds p ok).0)

  pub members_all : (g : List ℕ) → unsplit p g ≡ false → All p (members p g)
  unfolding members
  members_all g e =
      let n : g ++ [] ≡ g = simp append-nil in
      let a : All p (split p (member_count p g) (g ++ [])) = (splits_all p (member_count p g) g [] (count_splits p g e)).0 in
      rw n at a

  pub remaining_all : (payload : List ℕ) → Given p payload → All p (remaining p payload)
  unfolding remaining payload_of
  remaining_all payload v =
      let z : List ℕ = replicate (256 - length (member_count p v.g ∷ v.g)) 0 in
      let h = splits_all p (member_count p v.g) v.g z v.exactly in
      rw v.same (all_snoc p _ h.0 (record { unit = last_lt; size = length-replicate (width p (last p)) 0 }))

  pub padded_size : (bs : List ℕ) → length bs ≤ 256 → length (padded bs) ≡ 256
  padded_size bs h = simp (length-append, length-replicate) (omega arith)

  pub given_size : (payload : List ℕ) → Given p payload → length payload ≡ 256
  unfolding payload_of
  given_size payload v =
      ap length v.same
      ∙ padded_size (member_count p v.g ∷ v.g) (omega (arith, v.wide, (width_bounds p ok (last p) last_lt).1))

  pub writes_all : (payload : List ℕ) → Given p payload → All p (writes p payload)
  unfolding writes
  writes_all payload v =
      cons
      (record {
        unit = last_lt;
        size = length-take-le (width p (last p)) payload (omega (arith, given_size payload v, (width_bounds p ok (last p) last_lt).1));
      })
      (remaining_all payload v)

  -- ---- a write of a group that 4 does not refuse
  pub record Part (payload : List ℕ) (i : ℕ) : Type 0 where
    pub valid : given p payload ≡ true
    pub says : Given p payload
    pub below : i < length (writes p payload)

  pub part_says : (payload : List ℕ) (i : ℕ) → bad_write p payload i ≡ false → Part payload i
  unfolding bad_write
  part_says payload i e =
      let k = false_or (not (given p payload)) _ (false_or (not p.grouped) _ e).1 in
      let v : given p payload ≡ true = not-false _ k.0 in
      record { valid = v; says = given_says p payload v; below = leb-false _ i k.1 }

  pub part_fine : (payload : List ℕ) (i : ℕ) → given p payload ≡ true → i < length (writes p payload) → bad_write p payload i ≡ false
  unfolding bad_write
  part_fine payload i v l =
      or_false _ _ (ap not (given_says p payload v).grouped) (or_false _ _ (ap not v) (lt-leb _ i l))

  pub part_sized : (payload : List ℕ) (i : ℕ) → bad_write p payload i ≡ false → Sized p (write_at p payload i)
  unfolding write_at
  part_sized payload i h =
      let v = part_says payload i h in
      nth_sized p i (writes_all payload v.says) v.below

  pub writes_more : (payload : List ℕ) → 1 < length (writes p payload)
  unfolding writes remaining
  writes_more payload =
      omega (arith, length-append (split p (get_or payload 0 0) (drop 1 payload)) (write (last p) (replicate (width p (last p)) 0) ∷ []))

  -- a record's bytes are the whole of its payload but for zeros
  pub record_back : (payload : List ℕ) → Given p payload → padded (take (width p (last p)) payload) ≡ payload
  unfolding payload_of
  record_back payload v =
      let w : ℕ = width p (last p) in
      let c : List ℕ = member_count p v.g ∷ v.g in
      let n : ℕ = length c in
      let le : n ≤ w = v.wide in
      let lw : w ≤ 256 = (width_bounds p ok (last p) last_lt).1 in
      let e : take w (c ++ replicate (256 - n) 0) ≡ c ++ replicate (w - n) 0 =
      ap (λ (q : ℕ). take q (c ++ replicate (256 - n) 0)) {x = w} {y = n + (w - n)} (omega arith)
      ∙ take-append-add c (replicate (256 - n) 0) (w - n)
      ∙ ap (λ (q : List ℕ). c ++ q) (take_rep (256 - n) (w - n) (omega arith)) in
      let len : length (c ++ replicate (w - n) 0) ≡ w = simp (length-append, length-replicate) (omega arith) in
      rw v.same
      (rw (e, len)
      (append_assoc c _ _ ∙ ap (λ (q : List ℕ). c ++ q)
      (replicate-append-replicate {A = ℕ} (w - n) (256 - w) 0
      ∙ ap (λ (q : ℕ). replicate {A = ℕ} q 0) {x = w - n + (256 - w)} {y = 256 - n} (omega arith))))
    where
      take_rep : (m k : ℕ) → k ≤ m → take {A = ℕ} k (replicate m 0) ≡ replicate k 0
      take_rep m zero h = refl
      take_rep zero (suc k) h = absurd (omega arith)
      take_rep (suc m) (suc k) h = ap (λ (q : List ℕ). 0 ∷ q) (take_rep m k (omega arith))

-- ---- a group looks at the markers of the record and of members, which the plan has if 19 does not apply
dirty_alike : (p : Plan) (m m' : ℕ → ℕ) {xs : List Write} → ((u : ℕ) → u < p.count → m u ≡ m' u) → All p xs → dirty m xs ≡ dirty m' xs
unfolding dirty
dirty_alike p m m' h nil = refl
dirty_alike p m m' h (cons {x = x} {xs = xs} g r) = rw (h x.unit g.unit, dirty_alike p m m' h r)

pub group_alike : {v v' : View} → Alike v v' → (g : List ℕ) → group_number v g ≡ group_number v' g
unfolding group_number
group_alike {v} {v'} a g =
    rw (a.bad, a.plan, a.short, a.job)
    (first_from (device_row v' ++ (5 when not (is_ready v'.job) ∷ [])) _ _ (λ e. go (past v' _ e).plan (unsplit v'.plan g) refl))
  where
    late : View → List Refusal
    late x =
        20 when overlaps v'.plan g ∷ 21 when narrow v'.plan g
        ∷ 8 when (not (eqb (x.marker (last v'.plan)) OK) || dirty x.marker (members v'.plan g)) ∷ []

    go : PlanOk v'.plan → (t : Bool) → unsplit v'.plan g ≡ t
        → first (19 when unsplit v'.plan g ∷ late v) ≡ first (19 when unsplit v'.plan g ∷ late v')
    go ok true e = first_stop 19 _ (late v) e ∙ sym (first_stop 19 _ (late v') e)
    go ok false e =
        rw (
          a.marker (last v'.plan) (last_lt v'.plan ok),
          dirty_alike v'.plan v.marker v'.marker a.marker (members_all v'.plan ok g e),
        )
