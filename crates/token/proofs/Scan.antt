-- What a search from the front finds is the index that the definition counts.
use Rattle.std.proofs.Common.{◌≡◌, refl, ◌∙◌, sym, ap, arith, ℕ, ◌+◌, ◌-◌, ◌≤◌, take, drop, length-drop, length-take-le, List, Bool, true, false, cond, eqb, ltb, ◌==◌, length, Some, None}
use Rattle.std.proofs.lemmas.Bool.Decides.{nat_tests}
use Rattle.std.proofs.lemmas.List.{drop-take}
use Rattle.std.specs.Option.{unwrap_or}
use Rattle.std.specs.List.{position, position_or_len}
use Rattle.std.proofs.lemmas.List.Recursion.{is_position_or_len}
use Rattle.std.proofs.lemmas.List.Sums.{prefix_len-le-length}
use Rattle.token.specs.Scan.{index_after, index_of, slice}

after_is : (found : Bool) (k : ℕ) → index_after found k ≡ cond found 0 (1 + k)
unfolding index_after
after_is true k = refl
after_is false k = omega arith

counted : (byte : ℕ) (xs : List ℕ) → index_of byte xs ≡ position_or_len (λ x. x == byte) xs
unfolding index_of
counted byte xs = is_position_or_len (index_of byte) (λ x. x == byte) refl (λ x xs. after_is (eqb x byte) (index_of byte xs)) xs

pub index_within : (byte : ℕ) (xs : List ℕ) → index_of byte xs ≤ length xs
index_within byte xs = rw (counted byte xs) (prefix_len-le-length _ xs)

chosen : (n most : ℕ) → n ≤ most → unwrap_or (cond (ltb n most) (Some n) None) most ≡ n
chosen n most h = grind (arith, nat_tests)

index_position : (byte : ℕ) (xs : List ℕ) → unwrap_or (position (λ x. x == byte) xs) (length xs) ≡ index_of byte xs
index_position byte xs = chosen (position_or_len (λ x. x == byte) xs) (length xs) (prefix_len-le-length _ xs) ∙ sym (counted byte xs)

found_in : (part : List ℕ) (n byte u : ℕ) → length part ≡ n → u ≡ unwrap_or (position (λ x. x == byte) part) n
    → (u ≡ index_of byte part) × (u ≤ n)
found_in part n byte u l e =
    let i : u ≡ index_of byte part = e ∙ ap (unwrap_or (position (λ x. x == byte) part)) (sym l) ∙ index_position byte part in
    (i, omega (arith, index_within byte part))

-- so in a part of a text
pub find_part : (text : List ℕ) (from to byte u : ℕ) → from ≤ to → to ≤ length text
    → u ≡ unwrap_or (position (λ x. x == byte) (take (to - from) (drop from text))) (to - from)
    → (from + u ≡ from + index_of byte (slice from to text)) × (from + u ≤ to)
unfolding slice
find_part text from to byte u h k e =
    let part : List ℕ = take (to - from) (drop from text) in
    let n : length part ≡ to - from = omega (arith, length-drop from text, length-take-le (to - from) (drop from text)) in
    let whole : from + (to - from) ≡ to = omega arith in
    let same : drop from (take to text) ≡ part = rw whole at (drop-take from (to - from) text) in
    let f = found_in part (to - from) byte u n e in
    (ap (λ (x : ℕ). from + x) (f.0 ∙ ap (index_of byte) (sym same)), omega (arith, f.1))
