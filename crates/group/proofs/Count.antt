-- Bytes gone through member by member.
use Prim.Native.Nat.{ℕ, zero, suc, ◌+◌, ◌-◌, ◌≤◌, ◌<◌}
use mathlib.Core.Path.{◌≡◌, refl, ap, ap₂, sym, ◌∙◌}
use mathlib.Core.List.{List, [], ◌∷◌}
use mathlib.Core.Bool.{Bool, true, false, ◌&&◌}
use native.Mathlib.Omega.{arith}
use lib.Dec.{ltb, leb}
use lib.ListN.{length, get_or, drop, length-drop}
use borrow.Author.Tests.{lt-ltb, le-leb, le-ltb, lt-leb}
use Rattle.model.specs.declared.Plan.{Plan}
use Rattle.model.specs.Plans.{width}
use Rattle.model.specs.Groups.{splits, member_count}
use Rattle.group.specs.Members.{Begins, Short}
use Rattle.model.proofs.Compare.{below, above, order, equal, differ, same}

-- the first m members take the bytes before the rest, and there are bytes after every one of them but the last
pub record Walked (p : Plan) (g rest : List ℕ) (m : ℕ) : Type 0 where
  pub after : (k : ℕ) → splits p (m + k) g ≡ splits p k rest
  pub fewer : (j : ℕ) → j < m → splits p j g ≡ false

pub walked_none : (p : Plan) (g : List ℕ) → Walked p g g 0
walked_none p g =
    record {
      after = λ k. ap (λ (n : ℕ). splits p n g) {x = 0 + k} {y = k} (omega arith);
      fewer = λ j h. absurd (omega (arith, h));
    }

and_no : (x y : Bool) → y ≡ false → x && y ≡ false
and_no true y e = e
and_no false y e = refl

-- the count of bytes that split into no number of members from 2 to 4
none_splits : (p : Plan) (g : List ℕ) → ((j : ℕ) → j ≤ 4 → splits p j g ≡ false) → member_count p g ≡ 0
unfolding member_count
none_splits p g h = rw (h 2 (omega arith), h 3 (omega arith), h 4 (omega arith))

-- whether the first of some bytes can be a member's unit
abbrev Possible : Plan → List ℕ → Bool
Possible p xs = ltb (get_or xs 0 0) p.count && leb (width p (get_or xs 0 0)) (length (drop 1 xs))

splits_none : (p : Plan) (xs : List ℕ) → 0 < length xs → splits p 0 xs ≡ false
unfolding splits
splits_none p [] h = absurd (omega arith)
splits_none p (x ∷ xs) h = refl

splits_more : (p : Plan) (xs : List ℕ) (k : ℕ) → 0 < length xs
    → splits p (suc k) xs ≡ Possible p xs && splits p k (drop (suc (width p (get_or xs 0 0))) xs)
unfolding splits
splits_more p [] k h = absurd (omega arith)
splits_more p (x ∷ xs) k h = refl

splits_whole : (p : Plan) (xs : List ℕ) → length xs ≡ 0 → splits p 0 xs ≡ true
unfolding splits
splits_whole p [] e = refl
splits_whole p (x ∷ xs) e = absurd (omega (arith, e))

splits_past : (p : Plan) (xs : List ℕ) (k : ℕ) → length xs ≡ 0 → splits p (suc k) xs ≡ false
unfolding splits
splits_past p [] k e = refl
splits_past p (x ∷ xs) k e = absurd (omega (arith, e))

module _ {p : Plan} {g rest : List ℕ} {m : ℕ} (walked : Walked p g rest m) where
  ends_is : 0 < length rest → splits p m g ≡ false
  ends_is h = ap (λ (n : ℕ). splits p n g) {x = m} {y = m + 0} (omega arith) ∙ walked.after 0 ∙ splits_none p rest h

  -- no number of members, where the next can't be one
  none_at : 0 < length rest → Possible p rest ≡ false → (j : ℕ) → splits p j g ≡ false
  none_at h e j =
      elim (order j m) [
        | below l ↦ walked.fewer j l
        | above l ↦ elim (same j m) [
          | equal q ↦ rw q (ends_is h)
          | differ q ↦
              ap (λ (n : ℕ). splits p n g) {x = j} {y = m + suc (j - suc m)} (omega arith)
              ∙ walked.after (suc (j - suc m))
              ∙ splits_more p rest (j - suc m) h
              ∙ ap (λ (t : Bool). t && splits p (j - suc m) (drop (suc (width p (get_or rest 0 0))) rest)) e
        ]
      ]

  pub walked_short : 0 < length rest → Short p rest → member_count p g ≡ 0
  walked_short h l =
      none_splits p g
      (λ j k. none_at h
      (and_no (ltb (get_or rest 0 0) p.count) _ (lt-leb (width p (get_or rest 0 0)) (length (drop 1 rest)) (omega (arith, length-drop 1 rest)))) j)

  module _ {u : ℕ} {behind : List ℕ} (begins : Begins p rest u behind) where
    pub walked_no_unit : p.count ≤ u → member_count p g ≡ 0
    walked_no_unit l =
        none_splits p g
        (λ j k. none_at (omega (arith, begins.1))
        (ap (λ (t : Bool). t && leb (width p (get_or rest 0 0)) (length (drop 1 rest))) (le-ltb _ _ (omega (arith, begins.0, l)))) j)

    pub walked_more : u < p.count → Walked p g behind (m + 1)
    walked_more l =
        record {
          after = λ k.
              ap (λ (n : ℕ). splits p n g) {x = m + 1 + k} {y = m + suc k} (omega arith)
              ∙ walked.after (suc k)
              ∙ splits_more p rest k (omega (arith, begins.1))
              ∙ possible k;
          fewer = λ j h.
              elim (same j m) [
                | equal q ↦ rw q (ends_is (omega (arith, begins.1)))
                | differ q ↦ walked.fewer j (omega (arith, h))
              ];
        }
      where
        wide : width p u ≡ width p (get_or rest 0 0)
        wide = ap (width p) begins.0

        possible : (k : ℕ) → Possible p rest && splits p k (drop (suc (width p (get_or rest 0 0))) rest) ≡ splits p k behind
        possible k =
            ap₂ (λ (s t : Bool). (s && t) && splits p k (drop (suc (width p (get_or rest 0 0))) rest))
            (lt-ltb (get_or rest 0 0) p.count (omega (arith, begins.0, l)))
            (le-leb (width p (get_or rest 0 0)) (length (drop 1 rest)) (omega (arith, wide, begins.1, length-drop 1 rest)))
            ∙ ap (λ (w : ℕ). splits p k (drop (suc w) rest)) (sym wide)
            ∙ ap (splits p k) (sym begins.2)

    -- four are passed, and there is one more
    pub walked_many : 4 ≤ m → u < p.count → member_count p g ≡ 0
    walked_many h l = none_splits p g (λ j k. (walked_more l).fewer j (omega arith))

  -- all bytes are gone through
  pub walked_whole : length rest ≡ 0 → splits p m g ≡ true
  walked_whole e = ap (λ (n : ℕ). splits p n g) {x = m} {y = m + 0} (omega arith) ∙ walked.after 0 ∙ splits_whole p rest e

  pub walked_past : length rest ≡ 0 → (j : ℕ) → m < j → splits p j g ≡ false
  walked_past e j h =
      ap (λ (n : ℕ). splits p n g) {x = j} {y = m + suc (j - suc m)} (omega arith) ∙ walked.after (suc (j - suc m)) ∙ splits_past p rest (j - suc m) e

  pub walked_few : length rest ≡ 0 → m < 2 → member_count p g ≡ 0
  unfolding member_count
  walked_few e l =
      rw (walked_past e 2 (omega arith), walked_past e 3 (omega arith), walked_past e 4 (omega arith))

  pub walked_is : length rest ≡ 0 → 2 ≤ m → m ≤ 4 → member_count p g ≡ m
  unfolding member_count
  walked_is e l h = counted m (walked_whole e) walked.fewer l h
    where
      counted : (n : ℕ) → splits p n g ≡ true → ((j : ℕ) → j < n → splits p j g ≡ false) → 2 ≤ n → n ≤ 4 → member_count p g ≡ n
      counted zero s f l h = absurd (omega arith)
      counted (suc zero) s f l h = absurd (omega arith)
      counted (suc (suc zero)) s f l h = rw s
      counted (suc (suc (suc zero))) s f l h = rw (f 2 (omega arith), s)
      counted (suc (suc (suc (suc zero)))) s f l h = rw (f 2 (omega arith), f 3 (omega arith), s)
      counted (suc (suc (suc (suc (suc n))))) s f l h = absurd (omega arith)
