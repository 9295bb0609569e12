-- Numbers at their edges, and bytes.
use mathlib.Core.Path.{◌≡◌, refl}
use mathlib.Core.List.{[], ◌∷◌, map}
use Rattle.token.specs.Ascii.{ascii}
use Rattle.text.specs.Text.{digit, hex, bytes_text, digit_at, decimal}

pub decimals : map decimal (0 ∷ 9 ∷ 10 ∷ 99 ∷ 100 ∷ 909 ∷ 1000 ∷ 10000 ∷ 65535 ∷ 99999 ∷ [])
    ≡ map ascii ("0" ∷ "9" ∷ "10" ∷ "99" ∷ "100" ∷ "909" ∷ "1000" ∷ "10000" ∷ "65535" ∷ "99999" ∷ [])
unfolding decimal digit_at digit
decimals = refl

pub bytes : bytes_text (0 ∷ 9 ∷ 10 ∷ 15 ∷ 16 ∷ 160 ∷ 255 ∷ []) ≡ ascii " 00 09 0a 0f 10 a0 ff"
unfolding bytes_text hex digit
bytes = refl
