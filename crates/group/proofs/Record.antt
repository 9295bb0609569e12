-- Bytes that a group gives: what it is to stand, and that the code finds it.
use Prim.Native.Nat.{ℕ, zero, suc, ◌+◌, ◌-◌, ◌%◌, ◌≤◌, ◌<◌}
use mathlib.Core.Path.{◌≡◌, refl, ap, ap₂, sym, ◌∙◌}
use mathlib.Core.List.{List, [], ◌∷◌, ◌++◌, append_assoc, append-nil}
use mathlib.Core.Bool.{Bool, true, false, cond, not, ◌||◌, ◌&&◌, false≢true}
use native.Mathlib.Omega.{arith}
use lib.Dec.{eqb, ltb, leb}
use lib.ListN.{length, get_or, take, drop, replicate, length-drop, length-take, length-append, replicate-append-replicate, take-append-drop}
use lib.Seq.{drop-cons, drop-drop, take-append-le, drop-append-le, take-append_seam, drop-append_seam}
use borrow.Author.Tests.{leb-true, lt-ltb, le-ltb, lt-leb, le-leb, eqb-true, eq-eqb, ne_eqb}
use Rattle.model.specs.declared.Plan.{Plan}
use Rattle.model.specs.Plans.{width}
use Rattle.model.specs.Groups.{last, padded, splits, member_count, unsplit, overlaps, narrow, payload_of, alike, given}
use Rattle.model.specs.Refusals.{◌when◌, first}
use Rattle.model.proofs.Compare.{below, above, order}
use Rattle.model.proofs.RefusalLaws.{and_true, or_false, first_past, first_stop, first_skip, first_none}
use Rattle.model.proofs.GroupLaws.{given_says, given_fits, count_splits}
use Rattle.group.specs.Parts.{extent}
use Rattle.group.proofs.Walk.{part_all}

ltb_suc : (m n : ℕ) → ltb m (suc n) ≡ leb m n
ltb_suc m n =
    elim (order n m) [
      | below l ↦ le-ltb m (suc n) l ∙ sym (lt-leb m n l)
      | above l ↦ lt-ltb m (suc n) (omega (arith, l)) ∙ sym (le-leb m n l)
    ]

-- two tests with the same facts are one
pub both : (x y : Bool) → (x ≡ true → y ≡ true) → (y ≡ true → x ≡ true) → x ≡ y
both true y f g = sym (f refl)
both false true f g = g refl
both false false f g = refl

pub refuted : (y : Bool) → ¬ (y ≡ true) → false ≡ y
refuted true h = absurd (h refl)
refuted false h = refl

-- n members and anything after them: the members are what they reach
pub extent_exact : (p : Plan) (n : ℕ) (g z : List ℕ) → splits p n g ≡ true → extent p n (g ++ z) ≡ length g
unfolding splits extent
extent_exact p zero [] z e = refl
extent_exact p zero (x ∷ g) z e = absurd (false≢true e)
extent_exact p (suc n) [] z e = absurd (false≢true e)
extent_exact p (suc n) (u ∷ g) z e =
    let w : ℕ = width p u in
    let h = and_true (ltb u p.count && leb w (length g)) _ e in
    let l : w ≤ length g = leb-true w (length g) (and_true (ltb u p.count) _ h.0).1 in
    omega (
      arith,
      length-take w (g ++ z),
      length-append g z,
      ap (extent p n) (drop-append-le w g z l),
      extent_exact p n (drop w g) z h.1,
      length-drop w g,
    )

-- ---- zeros
zeros_alike : (xs : List ℕ) → alike (replicate (length xs) 0) xs ≡ true → xs ≡ replicate (length xs) 0
unfolding alike
zeros_alike [] e = refl
zeros_alike (x ∷ xs) e =
    let h = and_true (eqb 0 x) _ e in
    ap₂ ◌∷◌ (sym (eqb-true 0 x h.0)) (zeros_alike xs h.1)

alike_zeros : (xs : List ℕ) → xs ≡ replicate (length xs) 0 → alike (replicate (length xs) 0) xs ≡ true
unfolding alike
alike_zeros xs e = ap (alike (replicate (length xs) 0)) e ∙ itself (length xs)
  where
    itself : (n : ℕ) → alike (replicate n 0) (replicate n 0) ≡ true
    itself zero = refl
    itself (suc n) = itself n

-- the front of zeros
front_zeros : (xs ys : List ℕ) (n : ℕ) → xs ++ ys ≡ replicate n 0 → xs ≡ replicate (length xs) 0
front_zeros [] ys n e = refl
front_zeros (x ∷ xs) ys zero e = absurd (omega (arith, ap length e))
front_zeros (x ∷ xs) ys (suc n) e =
    ap₂ ◌∷◌ (ap (λ (l : List ℕ). get_or l 0 0) e) (front_zeros xs ys n (ap (drop 1) e))

-- ---- the bytes bs are a record: the count, the members g, and zeros
pub record Standing (p : Plan) (bs : List ℕ) : Type 0 where
  pub g : List ℕ
  pub rest : List ℕ
  pub is : bs ≡ member_count p g ∷ (g ++ rest)
  pub zeros : rest ≡ replicate (length rest) 0
  pub parts : unsplit p g ≡ false
  pub apart : overlaps p g ≡ false
  pub wide : narrow p g ≡ false

narrow_not : (p : Plan) (g : List ℕ) → p.grouped ≡ true → suc (length g) ≤ width p (last p) → narrow p g ≡ false
unfolding narrow
narrow_not p g e h = or_false _ _ (ap not e) (le-ltb (width p (last p)) (suc (length g)) h)

module _ (p : Plan) (bs : List ℕ) (small : length bs ≤ 256) where
  pub standing_given : Standing p bs → given p (padded bs) ≡ true
  unfolding payload_of
  standing_given s =
      let c : List ℕ = member_count p s.g ∷ s.g in
      let long : length bs ≡ suc (length s.g) + length s.rest = ap length s.is ∙ omega (arith, length-append s.g s.rest) in
      let tail : s.rest ++ replicate (256 - length bs) 0 ≡ replicate (256 - length c) 0 =
      ap (λ (l : List ℕ). l ++ replicate (256 - length bs) 0) s.zeros
      ∙ replicate-append-replicate {A = ℕ} (length s.rest) (256 - length bs) 0
      ∙ ap (λ (n : ℕ). replicate {A = ℕ} n 0) {x = length s.rest + (256 - length bs)} {y = 256 - length c} (omega arith) in
      let same : padded bs ≡ payload_of p s.g =
      ap (λ (l : List ℕ). l ++ replicate (256 - length bs) 0) s.is
      ∙ append_assoc c s.rest _ ∙ ap (λ (l : List ℕ). c ++ l) tail in
      ap (given p) same ∙ given_fits p s.g s.parts s.apart s.wide

  pub given_standing : width p (last p) ≤ length bs → given p (padded bs) ≡ true → Standing p bs
  unfolding payload_of unsplit
  given_standing room e =
      let v = given_says p (padded bs) e in
      let c : List ℕ = member_count p v.g ∷ v.g in
      let k : ℕ = length c in
      let le : k ≤ length bs = omega (arith, v.wide) in
      let front : take k bs ≡ c =
      sym (take-append-le k bs (replicate (256 - length bs) 0) le) ∙ ap (take k) v.same ∙ take-append_seam c (replicate (256 - k) 0) in
      let back : drop k bs ++ replicate (256 - length bs) 0 ≡ replicate (256 - k) 0 =
      sym (drop-append-le k bs (replicate (256 - length bs) 0) le) ∙ ap (drop k) v.same ∙ drop-append_seam c (replicate (256 - k) 0) in
      record {
        g = v.g;
        rest = drop k bs;
        is = sym (take-append-drop k bs) ∙ ap (λ (l : List ℕ). l ++ drop k bs) front;
        zeros = front_zeros (drop k bs) _ (256 - k) back;
        parts = ne_eqb (member_count p v.g) 0 v.some;
        apart = v.apart;
        wide = narrow_not p v.g v.grouped v.wide;
      }

-- ---- as the code finds them: xs are the bytes after the count
module _ (p : Plan) (bs xs : List ℕ) (xs-is : xs ≡ drop 1 bs) where
  abbrev reach : ℕ
  reach = extent p (get_or bs 0 0) xs

  module _ (s : Standing p bs) where
    pub count_is : get_or bs 0 0 ≡ member_count p s.g
    count_is = ap (λ (l : List ℕ). get_or l 0 0) s.is

    behind_is : xs ≡ s.g ++ s.rest
    behind_is = xs-is ∙ ap (drop 1) s.is

    pub reach_is : reach ≡ length s.g
    reach_is =
        ap₂ (extent p) count_is behind_is
        ∙ extent_exact p (member_count p s.g) s.g s.rest (count_splits p s.g s.parts)

    pub group_is : take reach xs ≡ s.g
    group_is = ap₂ take reach_is behind_is ∙ take-append_seam s.g s.rest

    pub rest_is : drop (1 + reach) bs ≡ s.rest
    rest_is =
        ap₂ drop {x = 1 + reach} {y = suc (length s.g)} (omega (arith, reach_is)) s.is ∙ drop-append_seam s.g s.rest

    pub no_fault : (g : List ℕ) → g ≡ take reach xs
        → first (19 when unsplit p g ∷ 20 when overlaps p g ∷ 21 when narrow p g ∷ []) ≡ 0
    unfolding first
    no_fault g e = rw (e, group_is, s.parts, s.apart, s.wide)

    pub right_count : (g : List ℕ) → g ≡ take reach xs → member_count p g ≡ get_or bs 0 0
    right_count g e = ap (member_count p) (e ∙ group_is) ∙ sym count_is

    pub only_zeros_after : (z : List ℕ) → z ≡ drop (1 + reach) bs → alike (replicate (length z) 0) z ≡ true
    only_zeros_after z e = alike_zeros z (e ∙ rest_is ∙ s.zeros ∙ ap (λ (l : List ℕ). replicate (length l) 0) (sym rest_is ∙ sym e))

  pub standing_found : 0 < length bs → (g z : List ℕ) → g ≡ take reach xs → z ≡ drop (1 + reach) bs
      → first (19 when unsplit p g ∷ 20 when overlaps p g ∷ 21 when narrow p g ∷ []) ≡ 0
      → member_count p g ≡ get_or bs 0 0 → alike (replicate (length z) 0) z ≡ true → Standing p bs
  standing_found some g z eg ez f c a =
      let h₁₉ = first_past 18 (unsplit p g) _ f in
      let h₂₀ = first_past 19 (overlaps p g) _ h₁₉.1 in
      let h₂₁ = first_past 20 (narrow p g) _ h₂₀.1 in
      let back : drop (1 + reach) bs ≡ drop reach xs =
      sym (ap (drop reach) xs-is ∙ drop-drop reach 1 bs) in
      record {
        g = g;
        rest = z;
        is = drop-cons bs 0 0 some ∙ ap₂ ◌∷◌ (sym c) (sym xs-is ∙ sym (take-append-drop reach xs) ∙ ap₂ ◌++◌ (sym eg) (sym back ∙ sym ez));
        zeros = zeros_alike z a;
        parts = h₁₉.0;
        apart = h₂₀.0;
        wide = h₂₁.0;
      }

-- ---- 19 to 21 by the code's tests
module _ (p : Plan) (g : List ℕ) where
  abbrev fault : ℕ
  fault = first (19 when unsplit p g ∷ 20 when overlaps p g ∷ 21 when narrow p g ∷ [])

  pub splits_not : {n : ℕ} → n ≡ member_count p g → n ≡ 0 → unsplit p g ≡ true
  unfolding unsplit
  splits_not e z = eq-eqb (member_count p g) 0 (sym e ∙ z)

  pub splits_some : {n : ℕ} → n ≡ member_count p g → ¬ (n ≡ 0) → unsplit p g ≡ false
  unfolding unsplit
  splits_some e z = ne_eqb (member_count p g) 0 (λ h. z (e ∙ h))

  pub narrow_is : {t : Bool} → t ≡ (not p.grouped || leb (width p (last p)) (length g)) → narrow p g ≡ t
  unfolding narrow
  narrow_is e = ap (λ (x : Bool). not p.grouped || x) (ltb_suc (width p (last p)) (length g)) ∙ sym e

  pub fault_19 : unsplit p g ≡ true → 19 ≡ fault
  fault_19 e = sym (first_stop 19 _ _ e)

  pub fault_20 : unsplit p g ≡ false → overlaps p g ≡ true → 20 ≡ fault
  fault_20 e f = sym (first_skip 19 _ _ e ∙ first_stop 20 _ _ f)

  pub fault_21 : unsplit p g ≡ false → overlaps p g ≡ false → (t : Bool) → narrow p g ≡ t → cond t 21 0 ≡ fault
  fault_21 e f true h = sym (first_skip 19 _ _ e ∙ first_skip 20 _ _ f ∙ first_stop 21 _ _ h)
  fault_21 e f false h = sym (first_skip 19 _ _ e ∙ first_skip 20 _ _ f ∙ first_skip 21 _ _ h ∙ first_none)

-- ---- and all of it in the code's words: q is how far the members reach behind the count
extent_bound : (p : Plan) (n : ℕ) (bytes : List ℕ) → extent p n bytes ≤ length bytes
unfolding extent
extent_bound p zero bytes = omega arith
extent_bound p (suc n) [] = omega arith
extent_bound p (suc n) (u ∷ bytes) =
    omega (arith, length-take (width p u) bytes, length-drop (width p u) bytes, extent_bound p n (drop (width p u) bytes))

abbrev pub behind_count : List ℕ → List ℕ
behind_count bs = take (length bs - 1) (drop 1 bs)

abbrev pub group_of : List ℕ → ℕ → List ℕ
group_of bs q = take (1 + q - 1) (drop 1 bs)

abbrev pub rest_of : List ℕ → ℕ → List ℕ
rest_of bs q = take (length bs - (1 + q)) (drop (1 + q) bs)

pub reach_small : (p : Plan) (bs : List ℕ) (n : ℕ) {q : ℕ} → q ≡ extent p n (behind_count bs) → q ≤ length bs - 1
reach_small p bs n e =
    omega (arith, e, extent_bound p n (behind_count bs), length-take (length bs - 1) (drop 1 bs))

module _ (p : Plan) (bs : List ℕ) (small : length bs ≤ 256) (room : width p (last p) ≤ length bs) where
  pub record_none : length bs ≡ 0 → false ≡ given p (padded bs)
  record_none e = refuted _ (λ t. absurd (omega (arith, ap length (given_standing p bs small room t).is)))

  module _ {q : ℕ} (e : q ≡ extent p (get_or bs 0 0) (behind_count bs)) where
    front : group_of bs q ≡ take (reach p bs (behind_count bs) (part_all bs 1)) (behind_count bs)
    front = ap₂ take {x = 1 + q - 1} {y = extent p (get_or bs 0 0) (behind_count bs)} (omega (arith, e)) (sym (part_all bs 1))

    back : rest_of bs q ≡ drop (1 + reach p bs (behind_count bs) (part_all bs 1)) bs
    back = part_all bs (1 + q) ∙ ap (λ (k : ℕ). drop (1 + k) bs) e

    pub record_fault : {n : ℕ} → n ≡ fault p (group_of bs q) → ¬ (n ≡ 0) → false ≡ given p (padded bs)
    record_fault f h =
        refuted _ (λ t. h (f ∙ no_fault p bs (behind_count bs) (part_all bs 1) (given_standing p bs small room t) (group_of bs q) front))

    pub record_count : {n : ℕ} → n ≡ member_count p (group_of bs q) → ¬ (n ≡ get_or bs 0 0) → false ≡ given p (padded bs)
    record_count f h =
        refuted _ (λ t. h (f ∙ right_count p bs (behind_count bs) (part_all bs 1) (given_standing p bs small room t) (group_of bs q) front))

    pub record_rest : {n m : ℕ} {t : Bool} → 0 < length bs → n ≡ fault p (group_of bs q) → n ≡ 0
        → m ≡ member_count p (group_of bs q) → m ≡ get_or bs 0 0
        → t ≡ alike (replicate (length (rest_of bs q)) 0) (rest_of bs q) → t ≡ given p (padded bs)
    record_rest some f z g c a =
        a
        ∙ both _ _
        (λ y. standing_given p bs small
        (standing_found p bs (behind_count bs) (part_all bs 1) some (group_of bs q) (rest_of bs q) front back (sym f ∙ z) (sym g ∙ c) y))
        (λ y. only_zeros_after p bs (behind_count bs) (part_all bs 1) (given_standing p bs small room y) (rest_of bs q) back)

-- ---- the record that a group gives
pub count_small : (p : Plan) (g : List ℕ) → member_count p g ≤ 4
unfolding member_count
count_small p g = go (splits p 2 g) (splits p 3 g) (splits p 4 g)
  where
    go : (x y z : Bool) → cond x 2 (cond y 3 (cond z 4 0)) ≤ 4
    go true y z = omega arith
    go false true z = omega arith
    go false false true = omega arith
    go false false false = omega arith

pub record_made : (p : Plan) (g : List ℕ) {n : ℕ} {part : List ℕ} → n ≡ member_count p g → part ≡ g ++ replicate (255 - length g) 0
    → n % 256 ∷ (part ++ []) ≡ payload_of p g
unfolding payload_of
record_made p g {n} {part} e f =
    ap₂ ◌∷◌
    (omega (arith, e, count_small p g))
    (append-nil part ∙ f ∙ ap (λ (k : ℕ). g ++ replicate {A = ℕ} k 0) {x = 255 - length g} {y = 256 - suc (length g)} (omega arith))
