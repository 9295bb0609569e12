-- On a line that a machine's memory holds, nothing is read at `lost`: so what wasn't read stays lost.
use Rattle.std.proofs.Common.{◌≡◌, refl, ◌∙◌, ap, arith, ℕ, suc, ◌≤◌, ◌<◌, List, [], ◌∷◌, length, get_or, drop, drop-cons, le-ltb}
use Rattle.token.specs.Token.{lost, item, eat_at, word_at, digit_at, extend_at, hex_at, more_at, at_most, entry_at, number_at}

module _ (line : List ℕ) (fits : length line ≤ lost) where
  pub lost_eats : (byte : ℕ) → eat_at line lost byte ≡ lost
  unfolding eat_at
  lost_eats byte = simp (le-ltb lost (length line) fits)

  pub lost_word : (word : List ℕ) → word_at line lost word ≡ lost
  unfolding word_at
  lost_word [] = refl
  lost_word (byte ∷ word) = ap (λ (at : ℕ). word_at line at word) (lost_eats byte) ∙ lost_word word

  -- a word whose byte isn't there
  pub word_stops : (word : List ℕ) (at i : ℕ) → i < length word → eat_at line at (get_or word i 0) ≡ lost → word_at line at (drop i word) ≡ lost
  unfolding word_at
  word_stops word at i h e =
      rw (drop-cons word i 0 h) (ap (λ (p : ℕ). word_at line p (drop (suc i) word)) e ∙ lost_word (drop (suc i) word))

  pub lost_digit : digit_at line lost ≡ 16
  unfolding digit_at
  lost_digit = simp (le-ltb lost (length line) fits)

  pub lost_extends : (base value : ℕ) → base ≤ 16 → extend_at line base (item value lost) ≡ item 0 lost
  unfolding extend_at
  lost_extends base value h = simp (lost_digit, le-ltb 16 base h)

  pub lost_more : more_at line (item 0 lost) ≡ item 0 lost
  unfolding more_at
  lost_more = refl

  pub lost_hex : hex_at line lost ≡ item 0 lost
  unfolding hex_at
  lost_hex = simp (lost_extends 16 0 (omega arith))

  pub lost_entry : entry_at line lost ≡ item 0 lost
  unfolding entry_at
  lost_entry = simp (lost_extends 10 0 (omega arith), lost_more)

  pub lost_number : number_at line lost ≡ item 0 lost
  unfolding number_at at_most
  lost_number = simp lost_entry
