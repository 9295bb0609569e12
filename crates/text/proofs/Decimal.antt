-- The library prints a number below 100,000 as `decimal` of specs/Text.antt says.
use Rattle.std.proofs.Common.{◌≡◌, ℕ, zero, suc, ◌+◌, ◌*◌, ◌/◌, ◌%◌, ◌<◌, ◌≤◌, ◌^◌, List, [], ◌∷◌, ◌++◌, refl, ap, sym, ◌∙◌, arith, inl, inr}
use Rattle.std.proofs.lemmas.Bool.{lt-ltb, le-ltb, cases_lt}
use Rattle.std.proofs.lemmas.Nat.{div_below, le-div}
use Rattle.std.proofs.lemmas.Bool.Decides.{nat_tests}
use native.Mathlib.Numerals.{unary_clauses}
use Rattle.std.specs.Fmt as printed
use Rattle.std.proofs.lemmas.Fmt.{decimal_digit, decimal_step}
use Rattle.text.specs.Text.{digit, digit_at, decimal}

digit_is : (d : ℕ) → d < 10 → digit d ≡ 48 + d
unfolding digit
digit_is d h = simp (lt-ltb d 10 h)

-- the last digit, but for 0 nothing
abbrev ones : ℕ → List ℕ
ones n = digit_at n 1

-- the digits of a number with at most so many
abbrev up_to : ℕ → ℕ → List ℕ
up_to zero n = []
up_to (suc k) n = up_to k (n / 10) ++ ones n

ones_none : ones 0 ≡ []
unfolding digit_at
ones_none = refl

ones_some : (n : ℕ) → 0 < n → ones n ≡ (48 + n % 10) ∷ []
unfolding digit_at
ones_some n h =
    let one : n / 1 % 10 ≡ n % 10 = omega arith in
    simp (le-ltb n 1 h, one, digit_is (n % 10) (omega arith))

up_to_none : (k : ℕ) → up_to k 0 ≡ []
up_to_none zero = refl
up_to_none (suc k) = simp (ones_none, up_to_none k)

-- a digit of the number is one of the number without its last digit
at_tenth : (n p : ℕ) → n / (10 * p) ≡ n / 10 / p → digit_at n (10 * p) ≡ digit_at (n / 10) p
unfolding digit_at
at_tenth n p same =
    let below : n < 10 * p → n / 10 < p = λ h. div_below n 10 p (omega arith) (omega arith) in
    let above : 10 * p ≤ n → p ≤ n / 10 = λ h. le-div p n 10 (omega arith) (omega arith) in
    grind (arith, nat_tests)

-- a number other than 0, with at most so many digits, as the library prints it
up_to_is : (k n : ℕ) → 0 < n → n < 10 ^ k → n < 2 ^ 64 → up_to k n ≡ printed.decimal n
up_to_is zero n some few big = absurd (omega arith)
up_to_is (suc k) n some few big =
    elim (cases_lt n 10) [
      | inl h ↦
          let none : n / 10 ≡ 0 = omega arith in
          let last : n % 10 ≡ n = omega arith in
          simp (none, up_to_none k, ones_some n some, last, decimal_digit n h)
      | inr h ↦
          let fewer : n / 10 < 10 ^ k = div_below n 10 (10 ^ k) (omega arith) (omega (arith, simp unary_clauses at few)) in
          simp (up_to_is k (n / 10) (omega arith) fewer (omega arith), ones_some n some, decimal_step n h big)
    ]

-- the digits before the last
front : (n : ℕ) → digit_at n 10000 ++ digit_at n 1000 ++ digit_at n 100 ++ digit_at n 10 ≡ up_to 4 (n / 10)
front n =
    simp (
      at_tenth n 1000 (omega arith),
      at_tenth n 100 (omega arith),
      at_tenth n 10 (omega arith),
      at_tenth n 1 (omega arith),
      at_tenth (n / 10) 100 (omega arith),
      at_tenth (n / 10) 10 (omega arith),
      at_tenth (n / 10) 1 (omega arith),
      at_tenth (n / 10 / 10) 10 (omega arith),
      at_tenth (n / 10 / 10) 1 (omega arith),
      at_tenth (n / 10 / 10 / 10) 1 (omega arith),
    )

pub decimal_is : (n : ℕ) → n < 100000 → printed.decimal n ≡ decimal n
unfolding decimal
decimal_is n h =
    let last : digit (n % 10) ≡ 48 + n % 10 = digit_is (n % 10) (omega arith) in
    let ours : decimal n ≡ up_to 4 (n / 10) ++ ((48 + n % 10) ∷ []) =
    ap (λ (l : List ℕ). l ++ (digit (n % 10) ∷ [])) (front n) ∙ ap (λ (d : ℕ). up_to 4 (n / 10) ++ (d ∷ [])) last
    in
    elim (cases_lt n 10) [
      | inl small ↦
          let none : n / 10 ≡ 0 = omega arith in
          let itself : n ≡ n % 10 = omega arith in
          decimal_digit n small ∙ ap (λ (d : ℕ). (48 + d) ∷ []) itself
          ∙ ap (λ (l : List ℕ). l ++ ((48 + n % 10) ∷ [])) (sym (ap (up_to 4) none ∙ up_to_none 4)) ∙ sym ours
      | inr large ↦
          decimal_step n large (omega arith)
          ∙ ap (λ (l : List ℕ). l ++ ((48 + n % 10) ∷ [])) (sym (up_to_is 4 (n / 10) (omega arith) (omega arith) (omega arith))) ∙ sym ours
    ]
