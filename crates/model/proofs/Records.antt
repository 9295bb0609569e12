-- Groups as specs/Records.antt tells them are groups as specs/Groups.antt computes them.
use Prim.Native.Nat.{ℕ, zero, suc, ◌+◌, ◌-◌, ◌≤◌, ◌<◌}
use mathlib.Core.Path.{◌≡◌, refl, ap, ap₂, sym, ◌∙◌, subst}
use mathlib.Core.List.{List, [], ◌∷◌, ◌++◌}
use mathlib.Core.Bool.{Bool, true, false, cond, not, ◌||◌, ◌&&◌, true≢false, false≢true}
use native.Mathlib.Omega.{arith}
use lib.Dec.{eqb, ltb, leb}
use lib.ListN.{length, get_or, take, drop, replicate, length-append, take-append-drop, get_or-append}
use lib.Seq.{length-take-le, take_at, drop_at, get_or-append-add, ext_get_or}
use borrow.Author.Tests.{ltb-true, leb-true, lt-ltb, le-leb, eq-eqb, ne_eqb, eqb-true}
use Rattle.model.specs.declared.Plan.{Plan}
use Rattle.model.specs.Plans.{width}
use Rattle.model.specs.Groups.{Write, write, last, padded, split, splits, member_count, members, unsplit, among, overlaps, narrow, fits, payload_of, given, remaining, writes, nth, write_at}
use Rattle.model.specs.Groups as groups
use Rattle.model.specs.Records.{Splits, none, member, IsGroup, Has, here, there, Twice, again, later, IsLast, Overlaps, twice, Narrow, no_record, too_narrow, Gives, Nth, head, tail, WriteOf, a_member, the_zeros}
use Rattle.model.specs.Records as records
use Rattle.model.proofs.Compare.{below, above, order}
use Rattle.model.proofs.RefusalLaws.{PlanOk, and_true, width_bounds}
use Rattle.model.proofs.GroupLaws.{count_splits, remaining_of, given_says, given_fits, padded_size, wide_of, last_lt}

-- ---- The members.
split_told : (p : Plan) (n : ℕ) (g : List ℕ) → splits p n g ≡ true → Splits p g (split p n g) × (length (split p n g) ≡ n)
unfolding splits split
split_told p zero [] e = (none, refl)
split_told p zero (x ∷ g) e = absurd (false≢true e)
split_told p (suc n) [] e = absurd (false≢true e)
split_told p (suc n) (u ∷ g) e =
    let w : ℕ = width p u in
    let h = and_true (ltb u p.count && leb w (length g)) _ e in
    let k = and_true (ltb u p.count) _ h.0 in
    let r = split_told p n (drop w g) h.1 in (
      subst (λ (z : List ℕ). Splits p (u ∷ z) (write u (take w g) ∷ split p n (drop w g))) (take-append-drop w g)
          (member u (take w g) (ltb-true u p.count k.0) (length-take-le w g (leb-true w (length g) k.1)) r.0),
      ap suc r.1,
    )

both : (x y : Bool) → x ≡ true → y ≡ true → x && y ≡ true
both true y e f = f
both false y e f = e

told_split : (p : Plan) {g : List ℕ} {ms : List Write} → Splits p g ms → (splits p (length ms) g ≡ true) × (split p (length ms) g ≡ ms)
unfolding splits split
told_split p none = (refl, refl)
told_split p (member {rest} {ms} u payload hu size s) =
    let w : ℕ = width p u in
    let r = told_split p s in
    let dr : drop w (payload ++ rest) ≡ rest = drop_at payload rest w size in (
      both _ _
          (both _ _ (lt-ltb u p.count hu) (le-leb w (length (payload ++ rest)) (omega (arith, size, length-append payload rest))))
          (rw dr r.0),
      ap₂ (λ (a : List ℕ) (b : List Write). write u a ∷ b) (take_at payload rest w size) (rw dr r.1),
    )

-- the widths leave no choice
splits_one : (p : Plan) (n m : ℕ) (g : List ℕ) → splits p n g ≡ true → splits p m g ≡ true → n ≡ m
unfolding splits
splits_one p zero zero g a b = refl
splits_one p zero (suc m) [] a b = absurd (false≢true b)
splits_one p zero (suc m) (x ∷ g) a b = absurd (false≢true a)
splits_one p (suc n) zero [] a b = absurd (false≢true a)
splits_one p (suc n) zero (x ∷ g) a b = absurd (false≢true b)
splits_one p (suc n) (suc m) [] a b = absurd (false≢true a)
splits_one p (suc n) (suc m) (u ∷ g) a b =
    let w : ℕ = width p u in
    ap suc
    (splits_one p n m (drop w g) (and_true (ltb u p.count && leb w (length g)) _ a).1
    (and_true (ltb u p.count && leb w (length g)) _ b).1)

count_of : (p : Plan) (g : List ℕ) (n : ℕ) → 2 ≤ n → n ≤ 4 → splits p n g ≡ true → member_count p g ≡ n
unfolding member_count
count_of p g n least most s = go (splits p 2 g) (splits p 3 g) (splits p 4 g) refl refl refl
  where
    other : (m : ℕ) → splits p m g ≡ false → ¬ (n ≡ m)
    other m e q = true≢false (sym s ∙ ap (λ (k : ℕ). splits p k g) q ∙ e)

    go : (x y z : Bool) → splits p 2 g ≡ x → splits p 3 g ≡ y → splits p 4 g ≡ z → cond x 2 (cond y 3 (cond z 4 0)) ≡ n
    go true y z a b c = splits_one p 2 n g a s
    go false true z a b c = splits_one p 3 n g b s
    go false false true a b c = splits_one p 4 n g c s
    go false false false a b c =
        let no2 = other 2 a in
        let no3 = other 3 b in
        let no4 = other 4 c in
        absurd (omega arith)

count_range : (p : Plan) (g : List ℕ) → unsplit p g ≡ false → (2 ≤ member_count p g) × (member_count p g ≤ 4)
unfolding unsplit member_count
count_range p g = go (splits p 2 g) (splits p 3 g) (splits p 4 g)
  where
    go : (x y z : Bool) → eqb (cond x 2 (cond y 3 (cond z 4 0))) 0 ≡ false
        → (2 ≤ cond x 2 (cond y 3 (cond z 4 0))) × (cond x 2 (cond y 3 (cond z 4 0)) ≤ 4)
    go true y z e = (omega arith, omega arith)
    go false true z e = (omega arith, omega arith)
    go false false true e = (omega arith, omega arith)
    go false false false e = absurd (true≢false e)

pub group_told : (p : Plan) (g : List ℕ) → unsplit p g ≡ false → IsGroup p g (members p g)
unfolding members
group_told p g e =
    let s = split_told p (member_count p g) g (count_splits p g e) in
    let range = count_range p g e in
    record { splits = s.0; least = omega (arith, s.1, range.0); most = omega (arith, s.1, range.1) }

pub told_group : (p : Plan) {g : List ℕ} {ms : List Write} → IsGroup p g ms → (unsplit p g ≡ false) × (members p g ≡ ms)
unfolding members unsplit
told_group p {g} {ms} h =
    let s = told_split p h.splits in
    let c : member_count p g ≡ length ms = count_of p g (length ms) h.least h.most s.0 in
    (rw c (ne_eqb (length ms) 0 (omega (arith, h.least))), ap (λ (n : ℕ). split p n g) c ∙ s.1)

-- ---- A unit twice, and the record.
either : (x y : Bool) → x || y ≡ true → ¬ (x ≡ true) → y ≡ true
either true y e h = absurd (h refl)
either false y e h = e

or_left : (x y : Bool) → x ≡ true → x || y ≡ true
or_left true y e = refl
or_left false y e = absurd (false≢true e)

or_right : (x y : Bool) → y ≡ true → x || y ≡ true
or_right true y e = refl
or_right false y e = e

pub among_has : (u : ℕ) (ms : List Write) → among u ms ≡ true → Has u ms
unfolding among
among_has u [] e = absurd (false≢true e)
among_has u (x ∷ ms) e = go (eqb u x.unit) refl (among_has u ms)
  where
    go : (t : Bool) → eqb u x.unit ≡ t → (among u ms ≡ true → Has u ms) → Has u (x ∷ ms)
    go true q rest = subst (λ (v : ℕ). Has v (x ∷ ms)) (sym (eqb-true u x.unit q)) (here x.bytes)
    go false q rest = there x (rest (either (eqb u x.unit) _ e (λ z. true≢false (sym z ∙ q))))

pub has_among : {u : ℕ} {ms : List Write} → Has u ms → among u ms ≡ true
unfolding among
has_among {u} (here payload) = or_left _ _ (eq-eqb u u refl)
has_among {u} (there x h) = or_right (eqb u x.unit) _ (has_among h)

twice_told : (ms : List Write) → groups.twice ms ≡ true → Twice ms
unfolding groups.twice
twice_told [] e = absurd (false≢true e)
twice_told (x ∷ ms) e = go (among x.unit ms) refl (twice_told ms)
  where
    go : (t : Bool) → among x.unit ms ≡ t → (groups.twice ms ≡ true → Twice ms) → Twice (x ∷ ms)
    go true q rest = again x (among_has x.unit ms q)
    go false q rest = later x (rest (either (among x.unit ms) _ e (λ z. true≢false (sym z ∙ q))))

told_twice : {ms : List Write} → Twice ms → groups.twice ms ≡ true
unfolding groups.twice
told_twice (again x h) = or_left _ _ (has_among h)
told_twice (later {ms = ms} x t) = or_right (among x.unit ms) _ (told_twice t)

pub last_is : (p : Plan) (r : ℕ) → IsLast p r → r ≡ last p
last_is p r e = e

pub is_last_lem : (p : Plan) → IsLast p (last p)
is_last_lem p = refl

pub overlaps_told : (p : Plan) (g : List ℕ) → overlaps p g ≡ true → Overlaps p (members p g)
unfolding overlaps
overlaps_told p g e = go (groups.twice (members p g)) refl
  where
    go : (t : Bool) → groups.twice (members p g) ≡ t → Overlaps p (members p g)
    go true q = twice (twice_told (members p g) q)
    go false q =
        let h = and_true p.grouped _ (either _ _ e (λ z. true≢false (sym z ∙ q))) in
        records.Overlaps.the_record (last p) h.0 (is_last_lem p) (among_has (last p) (members p g) h.1)

pub told_overlaps : (p : Plan) (g : List ℕ) → Overlaps p (members p g) → overlaps p g ≡ true
unfolding overlaps
told_overlaps p g (twice t) = or_left _ _ (told_twice t)
told_overlaps p g (records.Overlaps.the_record r grouped is h) =
    or_right (groups.twice (members p g)) _ (both p.grouped _ grouped (has_among (subst (λ (v : ℕ). Has v (members p g)) (last_is p r is) h)))

pub narrow_told : (p : Plan) (g : List ℕ) → narrow p g ≡ true → Narrow p g
unfolding narrow
narrow_told p g e = go p.grouped refl
  where
    go : (t : Bool) → p.grouped ≡ t → Narrow p g
    go false q = no_record q
    go true q =
        let h = either (not p.grouped) _ e (λ z. true≢false (sym z ∙ ap not q)) in
        too_narrow (last p) (is_last_lem p) (omega (arith, ltb-true _ (suc (length g)) h))

pub told_narrow : (p : Plan) (g : List ℕ) → Narrow p g → narrow p g ≡ true
unfolding narrow
told_narrow p g (no_record q) = or_left _ _ (ap not q)
told_narrow p g (too_narrow r is l) =
    or_right (not p.grouped) _
    (lt-ltb (width p (last p)) (suc (length g)) (omega (arith, ap (width p) (last_is p r is))))

-- ---- The payload.
pub record Told (p : Plan) (payload : List ℕ) : Type 0 where
  pub g : List ℕ
  pub ms : List Write
  pub gives : Gives p payload g ms

pub zero_past : (k i : ℕ) → get_or {A = ℕ} (replicate k 0) i 0 ≡ 0
zero_past zero i = refl
zero_past (suc k) zero = refl
zero_past (suc k) (suc i) = zero_past k i

-- the bytes of a count, a group and the zeros after it
module _ (n : ℕ) (g : List ℕ) (k : ℕ) where
  laid_member : (i : ℕ) → i < length g → get_or (n ∷ (g ++ replicate k 0)) (suc i) 0 ≡ get_or g i 0
  laid_member i h = get_or-append g (replicate k 0) 0 i h

  laid_zero : (i : ℕ) → 1 + length g ≤ i → get_or (n ∷ (g ++ replicate k 0)) i 0 ≡ 0
  laid_zero zero h = absurd (omega arith)
  laid_zero (suc i) h =
      ap (λ (q : ℕ). get_or (g ++ replicate k 0) q 0) {x = i} {y = length g + (i - length g)} (omega arith)
      ∙ get_or-append-add g (replicate k 0) (i - length g) 0
      ∙ zero_past k (i - length g)

wide_enough : (p : Plan) (g : List ℕ) → p.grouped ≡ true → suc (length g) ≤ width p (last p) → ¬ Narrow p g
wide_enough p g e w (no_record q) = true≢false (sym e ∙ q)
wide_enough p g e w (too_narrow r is l) = absurd (omega (arith, ap (width p) (last_is p r is)))

count_is : (p : Plan) (g : List ℕ) → unsplit p g ≡ false → length (members p g) ≡ member_count p g
unfolding members
count_is p g e = (split_told p (member_count p g) g (count_splits p g e)).1

is_false : (t : Bool) → ¬ (t ≡ true) → t ≡ false
is_false true h = absurd (h refl)
is_false false h = refl

payload_is : (p : Plan) → PlanOk p → {payload g : List ℕ} {ms : List Write} → Gives p payload g ms → narrow p g ≡ false
    → payload ≡ payload_of p g
unfolding payload_of
payload_is p ok {payload} {g} {ms} h fits =
    ext_get_or 0 payload (padded (member_count p g ∷ g)) (h.size ∙ sym (padded_size p ok (member_count p g ∷ g) small)) (λ i l. byte_is i)
  where
    small : suc (length g) ≤ 256
    small = omega (arith, (wide_of p g fits).1, (width_bounds p ok (last p) (last_lt p ok)).1)

    t : (unsplit p g ≡ false) × (members p g ≡ ms)
    t = told_group p h.is_group

    k : ℕ
    k = 256 - length (member_count p g ∷ g)

    byte_is : (i : ℕ) → get_or payload i 0 ≡ get_or (padded (member_count p g ∷ g)) i 0
    byte_is zero = h.count ∙ ap length (sym t.1) ∙ count_is p g t.0
    byte_is (suc i) =
        elim (order i (length g)) [
          | below l ↦ h.members i l ∙ sym (laid_member (member_count p g) g k i l)
          | above l ↦ h.zeros (suc i) (omega arith) ∙ sym (laid_zero (member_count p g) g k (suc i) (omega arith))
        ]

-- a group that passes 19 to 21 gives its payload
pub group_gives : (p : Plan) → PlanOk p → (g : List ℕ) → unsplit p g ≡ false → overlaps p g ≡ false → p.grouped ≡ true
    → suc (length g) ≤ width p (last p) → Gives p (payload_of p g) g (members p g)
unfolding payload_of
group_gives p ok g parts apart grouped wide =
    let k : ℕ = 256 - length (member_count p g ∷ g) in
    record {
      is_group = group_told p g parts;
      apart = λ o. true≢false (sym (told_overlaps p g o) ∙ apart);
      fits = λ n. wide_enough p g grouped wide n;
      size = padded_size p ok (member_count p g ∷ g) (omega (arith, wide, (width_bounds p ok (last p) (last_lt p ok)).1));
      count = sym (count_is p g parts);
      members = laid_member (member_count p g) g k;
      zeros = laid_zero (member_count p g) g k;
    }

pub given_told : (p : Plan) → PlanOk p → (payload : List ℕ) → given p payload ≡ true → Told p payload
unfolding unsplit
given_told p ok payload e =
    let v = given_says p payload e in
    let parts : unsplit p v.g ≡ false = ne_eqb (member_count p v.g) 0 v.some in
    record {
      g = v.g;
      ms = members p v.g;
      gives = subst (λ (x : List ℕ). Gives p x v.g (members p v.g)) (sym v.same)
          (group_gives p ok v.g parts v.apart v.grouped v.wide);
    }

not_narrow : (p : Plan) {payload g : List ℕ} {ms : List Write} → Gives p payload g ms → narrow p g ≡ false
not_narrow p {payload} {g} h = is_false (narrow p g) (λ e. h.fits (narrow_told p g e))

pub gives_fits : (p : Plan) {payload g : List ℕ} {ms : List Write} → Gives p payload g ms → suc (length g) ≤ width p (last p)
gives_fits p {payload} {g} h = (wide_of p g (not_narrow p h)).1

pub told_given : (p : Plan) → PlanOk p → {payload g : List ℕ} {ms : List Write} → Gives p payload g ms
    → (payload ≡ payload_of p g) × (given p payload ≡ true)
told_given p ok {payload} {g} {ms} h =
    let t = told_group p h.is_group in
    let apart : overlaps p g ≡ false = is_false (overlaps p g) (λ e. h.apart (subst (Overlaps p) t.1 (overlaps_told p g e))) in
    let fits : narrow p g ≡ false = not_narrow p h in
    let same : payload ≡ payload_of p g = payload_is p ok h fits in
    (same, ap (given p) same ∙ given_fits p g t.0 apart fits)

-- ---- The writes.
nth_told : (ms : List Write) (i : ℕ) → i < length ms → Nth ms i (nth ms i)
unfolding nth
nth_told [] i h = absurd (omega arith)
nth_told (x ∷ ms) zero h = head x
nth_told (x ∷ ms) (suc i) h = tail x (nth_told ms i (omega arith))

told_nth : {ms : List Write} {i : ℕ} {y : Write} → Nth ms i y → (zs : List Write) → (nth (ms ++ zs) i ≡ y) × (i < length ms)
unfolding nth
told_nth (head x) zs = (refl, omega arith)
told_nth (tail x n) zs = let t = told_nth n zs in (t.0, omega (arith, t.1))

nth_last : (ms : List Write) (x : Write) → nth (ms ++ (x ∷ [])) (length ms) ≡ x
unfolding nth
nth_last [] x = refl
nth_last (y ∷ ms) x = nth_last ms x

module _ (p : Plan) (ok : PlanOk p) {payload g : List ℕ} {ms : List Write} (h : Gives p payload g ms) where
  abbrev zeroed : Write
  zeroed = write (last p) (replicate (width p (last p)) 0)

  pub writes_told : writes p payload ≡ write (last p) (take (width p (last p)) payload) ∷ (ms ++ (zeroed ∷ []))
  unfolding writes
  writes_told =
      let t = told_group p h.is_group in
      ap (λ (xs : List Write). write (last p) (take (width p (last p)) payload) ∷ xs)
      (ap (remaining p) (told_given p ok h).0 ∙ remaining_of p g t.0 ∙ ap (λ (xs : List Write). xs ++ (zeroed ∷ [])) t.1)

  pub writes_count : length (writes p payload) ≡ 2 + length ms
  writes_count = omega (arith, ap (λ (xs : List Write). length xs) writes_told, length-append ms (zeroed ∷ []))

  pub write_told : (i : ℕ) → i < length (writes p payload)
      → WriteOf p payload ms i (write_at p payload i).unit (write_at p payload i).bytes
  unfolding write_at nth
  write_told i l =
      subst (λ (xs : List Write). WriteOf p payload ms i (nth xs i).unit (nth xs i).bytes) (sym writes_told) (go i (omega (arith, writes_count)))
    where
      go : (i : ℕ) → i ≤ 1 + length ms
          → WriteOf p payload ms i
          (nth (write (last p) (take (width p (last p)) payload) ∷ (ms ++ (zeroed ∷ []))) i).unit
          (nth (write (last p) (take (width p (last p)) payload) ∷ (ms ++ (zeroed ∷ []))) i).bytes
      go zero l = records.WriteOf.the_record (last p) (is_last_lem p)
      go (suc i) l =
          elim (order i (length ms)) [
            | below k ↦
                subst (λ (x : Write). WriteOf p payload ms (suc i) x.unit x.bytes) (sym (told_nth (nth_told ms i k) (zeroed ∷ [])).0)
                (a_member i (nth ms i) (nth_told ms i k))
            | above k ↦
                let e : i ≡ length ms = omega arith in
                rw e
                (subst (λ (x : Write). WriteOf p payload ms (suc (length ms)) x.unit x.bytes) (sym (nth_last ms zeroed))
                (the_zeros (last p) (is_last_lem p)))
          ]

  pub told_write : {i u : ℕ} {bytes : List ℕ} → WriteOf p payload ms i u bytes
      → ((write_at p payload i).unit ≡ u) × (i < length (writes p payload))
  unfolding write_at nth
  told_write (records.WriteOf.the_record r is) =
      (ap (λ (xs : List Write). (nth xs 0).unit) writes_told ∙ sym (last_is p r is), omega (arith, writes_count))
  told_write (a_member i x n) =
      let t = told_nth n (zeroed ∷ []) in
      (ap (λ (xs : List Write). (nth xs (suc i)).unit) writes_told ∙ ap (λ (y : Write). y.unit) t.0, omega (arith, writes_count, t.1))
  told_write (the_zeros r is) = (
    ap (λ (xs : List Write). (nth xs (suc (length ms))).unit) writes_told ∙ ap (λ (y : Write). y.unit) (nth_last ms zeroed) ∙ sym (last_is p r is),
    omega (arith, writes_count),
  )
