-- Ticket 1, 'Brake curves from the bike maker': a line of a curve's text, its form, the rules for its entries, and its number.
-- A line is read by the tokens by which the bench reads its script (`crates/token/specs/Token.antt`).
use Rattle.std.specs.Prelude.{ℕ, ◌≡◌, ◌+◌, ◌-◌, Bool, true, cond, ◌&&◌, List, [], ◌∷◌, eqb, ltb, leb, length, take, drop}
use Prim.Native.Char.{code}
use Rattle.model.specs.Numbers.{BAD-LINE, BAD-ENTRY}
use Rattle.token.specs.Ascii.{ascii}
use Rattle.token.specs.declared.Item.{Item}
use Rattle.token.specs.Token.{lost, eat_at, word_at, entry_at}
use Rattle.token.specs.Lines.{line_at}
use Rattle.list.specs.declared.Items.{Items}
use Rattle.list.specs.List.{items_at}
use Rattle.list.specs.Items.{values_at}

-- "each `(level L (..))`, L its line number, with 64 entries of 1 to 5 decimal digits without leading zeros, single spaces":
-- where the entries of such a line begin, or lost.
unfoldable pub row_at : ℕ → List ℕ → ℕ
row_at l line =
    let level : Item = entry_at line (word_at line 0 (ascii "(level ")) in
    let at : ℕ = word_at line level.next (ascii " (") in
    let row : Items = items_at entry_at line at 64 0 in
    let end : ℕ = eat_at line row.next (code ")") in
    cond (eqb level.value l && eqb row.count 64 && eqb end (length line)) at lost

-- what stands before the entries of such a line: its level, and where they begin
abbrev pub head_at : List ℕ → Item
head_at line =
    let level : Item = entry_at line (word_at line 0 (ascii "(level ")) in
    record { value = level.value; next = word_at line level.next (ascii " (") }

-- what is left of a row of 64 entries, with single spaces between, and the bracket that ends them, after those that were read
abbrev pub HasEntries : List ℕ → ℕ → ℕ → Type 0
HasEntries line at read = (items_at entry_at line at (64 - read) read).count ≡ cond (ltb read 64) 64 0

-- the entries of line l
abbrev pub row_of : ℕ → List ℕ → List ℕ
row_of l line = values_at entry_at line (row_at l line) 64

-- "each entry is above the same bin one level lower": level 1 has none below it
abbrev pub higher : List ℕ → ℕ → Bool
higher [] x = true
higher (y ∷ lower) x = ltb y x

-- "Every entry is at most 4,095, no line ever falls": a row after an entry, over the level below it
unfoldable pub in_rule : ℕ → List ℕ → List ℕ → Bool
in_rule before lower [] = true
in_rule before lower (x ∷ row) = (leb x 4095 && leb before x && higher lower x) && in_rule x (drop 1 lower) row

-- "Every entry is at most 4,095", and no more: what the reading of a row that was judged before rests on
unfoldable pub small : List ℕ → Bool
small [] = true
small (x ∷ row) = leb x 4095 && small row

-- the last 64 of the entries so far, or none
abbrev pub lower_of : List ℕ → List ℕ
lower_of done = drop (length done - 64) done

-- Ticket 8, 'Curve loading in a small buffer': the same for the line after i others, of a scratch that holds the last row alone
abbrev pub row_below : ℕ → List ℕ → List ℕ
row_below i scratch = cond (eqb i 0) [] (take 64 scratch)

-- "12 for a line not of this form, a missing line (it counts at its place) ..; 13 for a value out of rule": of the line after i others,
-- at an offset of the text. Within a line the form is judged before any value.
unfoldable pub line_number : ℕ → List ℕ → ℕ → List ℕ → ℕ
line_number i text at done =
    let line : List ℕ = line_at text at in
    cond (ltb at (length text))
    (cond (eqb (row_at (i + 1) line) lost) BAD-LINE (cond (in_rule 0 (lower_of done) (row_of (i + 1) line)) 0 BAD-ENTRY))
    BAD-LINE
