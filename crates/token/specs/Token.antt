-- What stands at a place of a line: a byte, a word, a number. A definition reads the line from a place on, and gives the
-- place past what it read, or `lost`, where nothing is read any more. The words of document 01, 'Bench program', stand in quotes.
use Rattle.std.specs.Prelude.{ℕ, ◌+◌, ◌-◌, ◌*◌, cond, ◌&&◌, ◌||◌, List, [], ◌∷◌, length, get_or, eqb, ltb, leb, Option, None, Some}
use Prim.Native.Char.{code}
use Rattle.token.specs.declared.Item.{Item}

-- the largest number of a machine's 64 bits: a place that no line in its memory has
abbrev pub lost : ℕ
lost = 18446744073709551615

-- a place that a function hands back: None is `lost`
abbrev pub place : Option ℕ → ℕ
place None = lost
place (Some at) = at

-- the place past a byte
unfoldable pub eat_at : List ℕ → ℕ → ℕ → ℕ
eat_at line at byte = cond (ltb at (length line) && eqb (get_or line at 0) byte) (at + 1) lost

-- the place past a word
unfoldable pub word_at : List ℕ → ℕ → List ℕ → ℕ
word_at line at [] = at
word_at line at (byte ∷ word) = word_at line (eat_at line at byte) word

-- "lower-case hexadecimal digits": the value of one, 0 to 15, and 16 for any other byte; below 10 it is a decimal digit
unfoldable pub digit_of : ℕ → ℕ
digit_of byte =
    cond (leb (code "0") byte && leb byte (code "9")) (byte - code "0")
    (cond (leb (code "a") byte && leb byte (code "f")) (byte - code "a" + 10) 16)

unfoldable pub digit_at : List ℕ → ℕ → ℕ
digit_at line at = cond (ltb at (length line)) (digit_of (get_or line at 0)) 16

-- a value, and the place past it
abbrev pub item : ℕ → ℕ → Item
item value next = record { value = value; next = next }

-- an item that a function hands back: None is no value, and `lost`
abbrev pub found : Option Item → Item
found None = item 0 lost
found (Some i) = i

-- the item with one digit more in the base; the digit must be there
unfoldable pub extend_at : List ℕ → ℕ → Item → Item
extend_at line base i =
    cond (ltb (digit_at line i.next) base)
    (item (base * i.value + digit_at line i.next) (i.next + 1))
    (item 0 lost)

-- "HH two lower-case hexadecimal digits"
unfoldable pub hex_at : List ℕ → ℕ → Item
hex_at line at = extend_at line 16 (extend_at line 16 (item 0 at))

-- "decimal without leading zeros": one digit more if there is one, and none after a first 0
unfoldable pub more_at : List ℕ → Item → Item
more_at line i = cond (eqb i.value 0 || eqb (extend_at line 10 i).next lost) i (extend_at line 10 i)

-- the item, if its value isn't above most
unfoldable pub at_most : ℕ → Item → Item
at_most most i = cond (leb i.value most) i (item 0 lost)

-- "entries of 1 to 5 decimal digits without leading zeros" (a curve's): a digit, and up to four more
unfoldable pub entry_at : List ℕ → ℕ → Item
entry_at line at = more_at line (more_at line (more_at line (more_at line (extend_at line 10 (item 0 at)))))

-- "W and U are 0 to 65535. W, U, N are decimal"
unfoldable pub number_at : List ℕ → ℕ → Item
number_at line at = at_most 65535 (entry_at line at)
