-- Bytes gone through member by member.
use Prim.Native.Nat.{ℕ, zero, suc, ◌+◌, ◌-◌, ◌≤◌, ◌<◌}
use mathlib.Core.Path.{◌≡◌, refl, ap, sym, ◌∙◌}
use mathlib.Core.List.{List, [], ◌∷◌}
use mathlib.Core.Bool.{Bool, true, false, ◌||◌, ◌&&◌, false≢true}
use native.Mathlib.Omega.{arith}
use lib.Dec.{ltb, leb}
use lib.ListN.{length, get_or, take, drop, length-drop}
use lib.Seq.{take_all, drop-cons, drop-drop}
use borrow.Author.Tests.{ltb-true, leb-true, eq-eqb, ne_eqb}
use Rattle.model.specs.declared.Plan.{Plan}
use Rattle.model.specs.Plans.{width}
use Rattle.model.specs.Groups.{Write, write, last, split, splits, member_count, members, among, twice, unsplit, overlaps}
use Rattle.model.proofs.RefusalLaws.{and_true}
use Rattle.model.proofs.GroupLaws.{count_splits}
use Rattle.group.specs.Members.{Begins, Short}

pub past_end : (g : List ℕ) (at : ℕ) → length g ≤ at → drop at g ≡ []
past_end [] zero h = refl
past_end [] (suc at) h = refl
past_end (x ∷ g) zero h = absurd (omega arith)
past_end (x ∷ g) (suc at) h = past_end g at (omega arith)

-- ---- what the members that are left come to
pub record Left (p : Plan) (g rest : List ℕ) (n : ℕ) (F : List Write → Bool) : Type 0 where
  pub k : ℕ
  pub exact : splits p k rest ≡ true
  pub same : F (split p n g) ≡ F (split p k rest)

-- of any number of members that the bytes are
abbrev pub Goes : Plan → List ℕ → List ℕ → (List Write → Bool) → Type 0
Goes p g rest F = (n : ℕ) → splits p n g ≡ true → Left p g rest n F

pub goes_start : (p : Plan) (g : List ℕ) (F : List Write → Bool) → Goes p g g F
goes_start p g F n e = record { k = n; exact = e; same = refl }

-- bytes that begin with no whole member are members only if there is none of them
none_left : (p : Plan) (rest : List ℕ) (k : ℕ) → Short p rest → splits p k rest ≡ true → split p k rest ≡ []
unfolding splits split
none_left p [] zero h e = refl
none_left p [] (suc k) h e = refl
none_left p (u ∷ rest) zero h e = absurd (false≢true e)
none_left p (u ∷ rest) (suc k) h e =
    absurd (omega (arith, leb-true (width p u) (length rest) (and_true (ltb u p.count) _ (and_true (ltb u p.count && leb (width p u) (length rest)) _ e).0).1))

pub goes_end : {p : Plan} {g rest : List ℕ} {F : List Write → Bool} → Goes p g rest F → Short p rest
    → (n : ℕ) → splits p n g ≡ true → F (split p n g) ≡ F []
goes_end {p} {g} {rest} {F} goes h n e =
    let l = goes n e in
    l.same ∙ ap F (none_left p rest l.k h l.exact)

-- the first of them, and those behind it
pub record Opened (p : Plan) (g rest : List ℕ) (u : ℕ) (behind : List ℕ) (n : ℕ) (F : List Write → Bool) : Type 0 where
  pub k : ℕ
  pub small : u < p.count
  pub exact : splits p k behind ≡ true
  pub same : F (split p n g) ≡ F (write u (take (width p u) (drop 1 rest)) ∷ split p k behind)

pub opens : {p : Plan} {g rest : List ℕ} {u : ℕ} {behind : List ℕ} {F : List Write → Bool} → Goes p g rest F → Begins p rest u behind
    → (n : ℕ) → splits p n g ≡ true → Opened p g rest u behind n F
unfolding splits split
opens {p} {g} {rest} {u} {behind} {F} goes (q, h, b) n e = rw (b, q) (go rest (omega (arith, h, ap (width p) q)) l.k l.exact l.same)
  where
    l : Left p g rest n F
    l = goes n e

    go : (xs : List ℕ) → width p (get_or xs 0 0) < length xs → (k : ℕ) → splits p k xs ≡ true → F (split p n g) ≡ F (split p k xs)
        → Opened p g xs (get_or xs 0 0) (drop (suc (width p (get_or xs 0 0))) xs) n F
    go [] h k ex sa = absurd (omega arith)
    go (x ∷ xs) h zero ex sa = absurd (false≢true ex)
    go (x ∷ xs) h (suc k) ex sa =
        let a = and_true (ltb x p.count && leb (width p x) (length xs)) _ ex in
        record { k = k; small = ltb-true x p.count (and_true (ltb x p.count) _ a.0).0; exact = a.1; same = sa }

-- ---- the same where the members that are left begin at a place of the bytes
module _ (p : Plan) (g : List ℕ) (at : ℕ) (h : at < length g) where
  abbrev unit : ℕ
  unit = get_or g at 0

  abbrev wide : ℕ
  wide = width p unit

  abbrev behind : List ℕ
  behind = drop (at + 1 + wide) g

  behind_is : drop wide (drop (suc at) g) ≡ behind
  behind_is = drop-drop wide (suc at) g ∙ ap (λ (n : ℕ). drop n g) {x = suc at + wide} {y = at + 1 + wide} (omega arith)

  splits_at : (k : ℕ) → splits p (suc k) (drop at g) ≡ (ltb unit p.count && leb wide (length (drop (suc at) g))) && splits p k behind
  unfolding splits
  splits_at k =
      ap (splits p (suc k)) (drop-cons g at 0 h)
      ∙ ap (λ (xs : List ℕ). (ltb unit p.count && leb wide (length (drop (suc at) g))) && splits p k xs) behind_is

  split_at : (k : ℕ) → split p (suc k) (drop at g) ≡ write unit (take wide (drop (suc at) g)) ∷ split p k behind
  unfolding split
  split_at k =
      ap (split p (suc k)) (drop-cons g at 0 h)
      ∙ ap (λ (xs : List ℕ). write unit (take wide (drop (suc at) g)) ∷ split p k xs) behind_is

pub goes_end_at : {p : Plan} {g : List ℕ} {at : ℕ} {F : List Write → Bool} → Goes p g (drop at g) F → length g ≤ at
    → (n : ℕ) → splits p n g ≡ true → F (split p n g) ≡ F []
goes_end_at {p} {g} {at} goes h n e = goes_end goes (omega (arith, length-drop at g)) n e

pub record OpenedAt (p : Plan) (g : List ℕ) (at n : ℕ) (F : List Write → Bool) : Type 0 where
  pub k : ℕ
  pub small : get_or g at 0 < p.count
  pub fits : width p (get_or g at 0) < length g - at
  pub exact : splits p k (drop (at + 1 + width p (get_or g at 0)) g) ≡ true
  pub same : F (split p n g)
      ≡ F (write (get_or g at 0) (take (width p (get_or g at 0)) (drop (suc at) g)) ∷ split p k (drop (at + 1 + width p (get_or g at 0)) g))

pub opens_at : {p : Plan} {g : List ℕ} {at : ℕ} {F : List Write → Bool} → Goes p g (drop at g) F → at < length g
    → (n : ℕ) → splits p n g ≡ true → OpenedAt p g at n F
unfolding splits
opens_at {p} {g} {at} {F} goes h n e = go l.k l.exact l.same
  where
    l : Left p g (drop at g) n F
    l = goes n e

    go : (k : ℕ) → splits p k (drop at g) ≡ true → F (split p n g) ≡ F (split p k (drop at g)) → OpenedAt p g at n F
    go zero ex sa = absurd (false≢true (sym (ap (splits p 0) (drop-cons g at 0 h)) ∙ ex))
    go (suc k) ex sa =
        let a = and_true (ltb (get_or g at 0) p.count && leb (width p (get_or g at 0)) (length (drop (suc at) g))) _
        (sym (splits_at p g at h k) ∙ ex) in
        let b = and_true (ltb (get_or g at 0) p.count) _ a.0 in
        record {
          k = k;
          small = ltb-true _ p.count b.0;
          fits = omega (arith, leb-true (width p (get_or g at 0)) (length (drop (suc at) g)) b.1, length-drop (suc at) g);
          exact = a.1;
          same = sa ∙ ap F (split_at p g at h k);
        }

-- a member that the bytes end in stands in no number of members
pub short_not : {p : Plan} {g : List ℕ} {at : ℕ} {F : List Write → Bool} → Goes p g (drop at g) F → (w : ℕ) → at < length g
    → w ≡ width p (get_or g at 0) → length g - at ≤ w → {t : Bool} → (n : ℕ) → splits p n g ≡ true → t ≡ F (split p n g)
short_not goes w h q l n s = absurd (omega (arith, (opens_at goes h n s).fits))

-- ---- a unit among the members
module _ {p : Plan} {g rest : List ℕ} {u member : ℕ} {behind : List ℕ} (goes : Goes p g rest (among u)) (begins : Begins p rest member behind) where
  pub has_it : u ≡ member → (n : ℕ) → splits p n g ≡ true → true ≡ among u (split p n g)
  unfolding among
  has_it e n s = sym ((opens goes begins n s).same ∙ rw (eq-eqb u member e))

  pub has_not : ¬ (u ≡ member) → Goes p g behind (among u)
  unfolding among
  has_not e n s =
      let o = opens goes begins n s in
      record { k = o.k; exact = o.exact; same = o.same ∙ rw (ne_eqb u member e) }

-- ---- a unit twice: t is whether it is among the members behind it
module _ {p : Plan} {g rest : List ℕ} {u : ℕ} {behind : List ℕ} (goes : Goes p g rest twice) (begins : Begins p rest u behind) where
  pub twice_it : {t : Bool} → t ≡ true → ((n : ℕ) → splits p n behind ≡ true → t ≡ among u (split p n behind))
      → (n : ℕ) → splits p n g ≡ true → true ≡ twice (split p n g)
  unfolding twice
  twice_it e has n s =
      let o = opens goes begins n s in
      sym (o.same ∙ ap (λ (t : Bool). t || twice (split p o.k behind)) (sym (has o.k o.exact) ∙ e))

  pub twice_not : {t : Bool} → t ≡ false → ((n : ℕ) → splits p n behind ≡ true → t ≡ among u (split p n behind)) → Goes p g behind twice
  unfolding twice
  twice_not e has n s =
      let o = opens goes begins n s in
      record {
        k = o.k;
        exact = o.exact;
        same = o.same ∙ ap (λ (t : Bool). t || twice (split p o.k behind)) (sym (has o.k o.exact) ∙ e);
      }

-- the rest of a slice, as it is handed on
pub part_all : (g : List ℕ) (a : ℕ) → take (length g - a) (drop a g) ≡ drop a g
part_all g a = take_all (length g - a) (drop a g) (omega (arith, length-drop a g))

-- of a list whose length is known
pub part_full : (xs : List ℕ) (k n : ℕ) → length xs ≡ k → take (k - n) (drop n xs) ≡ drop n xs
part_full xs k n e = ap (λ (m : ℕ). take (m - n) (drop n xs)) (sym e) ∙ part_all xs n

-- ---- 20 of a group that splits
module _ (p : Plan) (g : List ℕ) (parts : unsplit p g ≡ false) where
  pub overlaps_twice : {t : Bool} → t ≡ true → ((n : ℕ) → splits p n g ≡ true → t ≡ twice (split p n g)) → true ≡ overlaps p g
  unfolding overlaps members
  overlaps_twice e h =
      let s : twice (split p (member_count p g) g) ≡ true = sym (h _ (count_splits p g parts)) ∙ e in
      rw s

  pub overlaps_record : {t r : Bool} {u : ℕ} → t ≡ false → ((n : ℕ) → splits p n g ≡ true → t ≡ twice (split p n g))
      → p.grouped ≡ true → u ≡ last p → ((n : ℕ) → splits p n g ≡ true → r ≡ among u (split p n g)) → r ≡ overlaps p g
  unfolding overlaps members
  overlaps_record e h grouped q has =
      let s : twice (split p (member_count p g) g) ≡ false = sym (h _ (count_splits p g parts)) ∙ e in
      has _ (count_splits p g parts) ∙ rw (s, grouped, q)

  pub overlaps_none : {t : Bool} → t ≡ false → ((n : ℕ) → splits p n g ≡ true → t ≡ twice (split p n g)) → p.grouped ≡ false
      → false ≡ overlaps p g
  unfolding overlaps members
  overlaps_none e h ungrouped =
      let s : twice (split p (member_count p g) g) ≡ false = sym (h _ (count_splits p g parts)) ∙ e in
      rw (s, ungrouped)
