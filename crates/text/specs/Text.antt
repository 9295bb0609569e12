-- Document 01, 'Bench program': bytes and numbers as they are printed.
use Rattle.std.specs.Prelude.{ℕ, ◌+◌, ◌-◌, ◌/◌, ◌%◌, cond, List, [], ◌∷◌, ◌++◌, ltb}
use Prim.Native.Char.{code}

-- the character of a digit below 16, "lower-case"
unfoldable pub digit : ℕ → ℕ
digit value = cond (ltb value 10) (code "0" + value) (code "a" + (value - 10))

-- "HH two lower-case hexadecimal digits"
unfoldable pub hex : ℕ → List ℕ
hex byte = digit (byte / 16) ∷ digit (byte % 16) ∷ []

-- HH bytes, a space before each: "single spaces"
unfoldable pub bytes_text : List ℕ → List ℕ
bytes_text [] = []
bytes_text (byte ∷ bytes) = code " " ∷ (hex byte ++ bytes_text bytes)

-- the digit at a power of ten that the number reaches: "decimal without leading zeros"
unfoldable pub digit_at : ℕ → ℕ → List ℕ
digit_at number power = cond (ltb number power) [] (digit (number / power % 10) ∷ [])

-- a number below 100,000; a line's number is at most 65,536
unfoldable pub decimal : ℕ → List ℕ
decimal number =
    digit_at number 10000
    ++ digit_at number 1000
    ++ digit_at number 100
    ++ digit_at number 10
    ++ (digit (number % 10) ∷ [])
