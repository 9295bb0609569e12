-- Document 01, 'Bench program': the text of every printed line.
use Rattle.std.specs.Prelude.{ℕ, ◌+◌, ◌*◌, List, [], ◌∷◌, ◌++◌}
use Rattle.model.specs.declared.Plan.{Plan}
use Rattle.model.specs.Layout.{copy_a, copy_b, marker, get, copy_of}
use Rattle.token.specs.Ascii.{ascii}
use Rattle.text.specs.Text.{bytes_text, decimal}

-- a word and a number
unfoldable pub numbered : List ℕ → ℕ → List ℕ
numbered word number = word ++ ascii " " ++ decimal number

-- "Each form but show prints its word and, in decimal, the answer number of the last call it made."
-- "Any line that isn't one of these forms prints `bad` and its decimal line number". "Every printed line ends in LF."
unfoldable pub answer_line : List ℕ → ℕ → List ℕ
answer_line word number = numbered word number ++ ascii "\n"

-- a word and its HH bytes up to `)`, as ` (a 0a 0b)`
unfoldable pub listed : List ℕ → List ℕ → List ℕ
listed word bytes = word ++ bytes_text bytes ++ ascii ")"

unfoldable pub unit_text : ℕ → List ℕ → List ℕ → List ℕ → List ℕ
unit_text number log a b =
    numbered (ascii "(unit") number
    ++ listed (ascii " (log") log
    ++ listed (ascii " (a") a
    ++ listed (ascii " (b") b
    ++ ascii ")\n"

-- "Show prints a line a unit: its decimal number, then marker, A and B as HH bytes." Ticket 9: "show omits filler"
unfoldable pub unit_line : Plan → List ℕ → ℕ → List ℕ
unit_line p image u =
    unit_text u (get p image u marker ∷ []) (copy_of p image u copy_a) (copy_of p image u copy_b)

-- the most bytes that a line takes: `(unit 65535`, ` (log HH)`, two copies of 256 bytes, `)` and LF
abbrev pub line_most : ℕ
line_most = 11 + 9 + 2 * (4 + 3 * 256) + 2
