-- A store, or a run of stores, in a part of a list is one in the list.
use mathlib.Core.Path.{◌≡◌, ◌∙◌, sym, ap}
use mathlib.Core.List.{List, [], ◌∷◌, ◌++◌, append_assoc}
use Prim.Native.Nat.{ℕ, zero, suc, ◌+◌, ◌-◌, ◌<◌, ◌≤◌}
use native.Mathlib.Omega.{arith}
use lib.ListN.{length, get_or, take, drop, set, take-append-drop, length-take, length-drop, length-set}
use lib.Seq.{sets, set-append_left, take-set-le, take-set-lt, drop-set-add, drop-set-lt, drop-drop, get_or-drop}
use Rattle.std.proofs.lemmas.List.Edits.{sets-eq}

set_behind : (xs : List ℕ) (a i x : ℕ) → a ≤ length xs → set xs (a + i) x ≡ take a xs ++ set (drop a xs) i x
set_behind xs a i x h =
    sym (take-append-drop a (set xs (a + i) x)) ∙ (rw (take-set-le a xs (a + i) x (omega arith), drop-set-add a xs i x))

-- a run of stores, one more
pub sets_more : (vs xs : List ℕ) (a i : ℕ) → i < length vs
    → sets xs a (take (i + 1) vs) ≡ set (sets xs a (take i vs)) (a + i) (get_or vs i 0)
sets_more [] xs a i h = absurd (omega arith)
sets_more (v ∷ vs) xs a zero h =
    let e : a + 0 ≡ a = omega arith in
    rw e
sets_more (v ∷ vs) xs a (suc i) h =
    let e : suc i + 1 ≡ suc (i + 1) = omega arith in
    let f : a + suc i ≡ suc a + i = omega arith in
    rw (e, f) (sets_more vs (set xs a v) (suc a) i (omega arith))

-- the page of a page after its first, stored one by one: i of the page's page are stored
pub tear_more : (xs page : List ℕ) (from i : ℕ) → 1 ≤ i → i < length page
    → set (sets xs (suc from) (take (i - 1) (drop 1 page))) (from + i) (get_or page i 0)
    ≡ sets xs (suc from) (take ((i + 1) - 1) (drop 1 page))
tear_more xs page from i h l =
    let place : from + i ≡ suc from + (i - 1) = omega arith in
    let byte : get_or page i 0 ≡ get_or (drop 1 page) (i - 1) 0 =
    ap (λ (k : ℕ). get_or page k 0) (omega arith) ∙ sym (get_or-drop 1 page (i - 1) 0) in
    let next : (i + 1) - 1 ≡ (i - 1) + 1 = omega arith in
    rw (place, byte, next) (sym (sets_more (drop 1 page) xs (suc from) (i - 1) (omega (arith, length-drop 1 page))))

-- a run of stores that takes the place of a part
pub run_part : (xs vs ys : List ℕ) (a k : ℕ) → ys ≡ vs → length vs ≡ k → a + k ≤ length xs → take a xs ++ (ys ++ drop k (drop a xs)) ≡ sets xs a vs
run_part xs vs ys a k same e h =
    ap (λ (t : List ℕ). take a xs ++ (t ++ drop k (drop a xs))) same
    ∙ ap (λ (t : List ℕ). take a xs ++ (vs ++ t)) (drop-drop k a xs ∙ ap (λ (n : ℕ). drop n xs) {x = a + k} {y = a + length vs} (omega arith))
    ∙ sym (append_assoc (take a xs) vs (drop (a + length vs) xs))
    ∙ sym (sets-eq vs xs a (omega arith))

-- a run of stores in a part of a list is a run of stores in the list
pub sets_part : (vs xs : List ℕ) (a k i : ℕ) → a + k ≤ length xs → i + length vs ≤ k
    → take a xs ++ (sets (take k (drop a xs)) i vs ++ drop k (drop a xs)) ≡ sets xs (a + i) vs
sets_part [] xs a k i h l = ap (λ (t : List ℕ). take a xs ++ t) (take-append-drop k (drop a xs)) ∙ take-append-drop a xs
sets_part (v ∷ vs) xs a k i h l =
    let ys : List ℕ = set xs (a + i) v in
    let before : take a ys ≡ take a xs = take-set-le a xs (a + i) v (omega arith) in
    let part : take k (drop a ys) ≡ set (take k (drop a xs)) i v =
    ap (take k) (drop-set-add a xs i v) ∙ take-set-lt k (drop a xs) i v (omega arith) in
    let after : drop k (drop a ys) ≡ drop k (drop a xs) =
    ap (drop k) (drop-set-add a xs i v) ∙ drop-set-lt k (drop a xs) i v (omega arith) in
    let next : a + suc i ≡ suc (a + i) = omega arith in
    let rest = sets_part vs ys a k (suc i) (omega (arith, length-set xs (a + i) v)) (omega arith) in
    rw (before, part, after, next) at rest

pub set_part : (xs : List ℕ) (a k i x : ℕ) → a + k ≤ length xs → i < k
    → take a xs ++ (set (take k (drop a xs)) i x ++ drop k (drop a xs)) ≡ set xs (a + i) x
set_part xs a k i x h l =
    ap (λ (t : List ℕ). take a xs ++ t)
    (sym (set-append_left (take k (drop a xs)) (drop k (drop a xs)) i x (simp (length-take, length-drop) (omega arith)))
    ∙ ap (λ (t : List ℕ). set t i x) (take-append-drop k (drop a xs)))
    ∙ sym (set_behind xs a i x (omega arith))
