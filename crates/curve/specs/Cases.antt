-- Lines, rooms and ends of a text with their numbers, one for each way to be refused, computed from the definitions in
-- proofs/Cases.antt. The texts of `crates/curves` are whole.
use Rattle.std.specs.Prelude.{ℕ, zero, suc, ◌≡◌, List, [], ◌∷◌, ◌++◌, map, replicate}
use Prim.Native.String.{String}
use Rattle.token.specs.Ascii.{ascii}
use Rattle.row.specs.Row.{line_number}
use Rattle.curve.specs.Curve.{lines_from, load_number}

-- a text that begins with `before`, has n entries `0`, each with a space after it, and ends with `after`
unfoldable pub zeros : ℕ → List ℕ
zeros zero = []
zeros (suc n) = ascii "0 " ++ zeros n

abbrev line : String → ℕ → String → List ℕ
line before n after = ascii before ++ (zeros n ++ ascii after)

-- a text of one line, and the number of that line as the first and as the second, after 64 zeros
abbrev Row : Type 0
Row = List ℕ × ℕ × ℕ

unfoldable pub rows : List Row
rows =
    (line "(level 1 (" 63 "0))", 0, 12)
    ∷ (line "(level 1 (" 63 "4095))\n", 0, 12)
    ∷ (line "(level 2 (" 63 "0))", 12, 13)
    ∷ (line "(level 01 (" 63 "0))", 12, 12)
    ∷ (line "(level 1 (" 62 "0))", 12, 12)
    ∷ (line "(level 1 (" 64 "0))", 12, 12)
    ∷ (line "(level 1 (" 63 "00))", 12, 12)
    ∷ (line "(level 1 (" 63 "100000))", 12, 12)
    ∷ (line "(level 1 (" 63 " 0))", 12, 12)
    ∷ (line "(level 1 (" 63 "0)) ", 12, 12)
    ∷ (line "(level 1 (" 63 "0)", 12, 12)
    ∷ (line "(Level 1 (" 63 "0))", 12, 12)
    ∷ (line "\n(level 1 (" 63 "0))", 12, 12)
    ∷ ([], 12, 12)
    ∷ (line "(level 1 (" 63 "4096))", 13, 12)
    ∷ (line "(level 1 (" 63 "99999))", 13, 12)
    ∷ (line "(level 1 (1 " 62 "0))", 13, 12)
    ∷ []

abbrev pub EveryLine : Type 0
EveryLine =
    map {A = Row} {B = ℕ × ℕ} (λ row. (line_number 0 row.0 0 [], line_number 1 row.0 0 (replicate 64 0))) rows
    ≡ map {A = Row} {B = ℕ × ℕ} (λ row. (row.1, row.2)) rows

-- a text, the lengths of table and scratch, and the load's number: a table of 1,280 exactly, a scratch of 64 or more
abbrev Load : Type 0
Load = List ℕ × ℕ × ℕ × ℕ

unfoldable pub loads : List Load
loads =
    ([], 0, 0, 11)
    ∷ ([], 1279, 64, 11)
    ∷ ([], 1281, 64, 11)
    ∷ ([], 1281, 1281, 11)
    ∷ ([], 64, 64, 11)
    ∷ ([], 1280, 0, 11)
    ∷ ([], 1280, 63, 11)
    ∷ ([], 1280, 64, 12)
    ∷ ([], 1280, 65, 12)
    ∷ ([], 1280, 1279, 12)
    ∷ ([], 1280, 1280, 12)
    ∷ ([], 1280, 65535, 12)
    ∷ (line "(level 1 (" 63 "4096))", 1281, 64, 11)
    ∷ (line "(level 1 (" 63 "4096))", 1280, 63, 11)
    ∷ (line "(level 1 (" 63 "4096))", 1280, 64, 13)
    ∷ (line "(level 1 (" 63 "4096))", 1280, 1280, 13)
    ∷ (line "(level 1 (" 63 "0))\n", 1280, 63, 11)
    ∷ (line "(level 1 (" 63 "0))\n", 1280, 64, 12)
    ∷ []

abbrev pub EveryRoom : Type 0
EveryRoom =
    map {A = Load} {B = ℕ} (λ load. load_number load.0 load.1 load.2) loads
    ≡ map {A = Load} {B = ℕ} (λ load. load.3) loads

-- the last n lines of a text, after no entries, and their number: a line 21, and of 12 and 13 the earlier line
abbrev Ending : Type 0
Ending = ℕ × List ℕ × ℕ

unfoldable pub endings : List Ending
endings =
    (0, [], 0)
    ∷ (0, ascii "\n", 12)
    ∷ (1, [], 12)
    ∷ (1, line "(level 20 (" 63 "0))", 0)
    ∷ (1, line "(level 20 (" 63 "0))\n", 0)
    ∷ (1, line "(level 20 (" 63 "0))\n\n", 12)
    ∷ (1, line "(level 20 (" 63 "0))\n(level 21 (", 12)
    ∷ (1, line "(level 20 (" 63 "4096))\n\n", 13)
    ∷ (2, line "(level 19 (" 63 "0))\n", 12)
    ∷ (2, line "(level 19 (" 63 "0))\n" ++ line "(level 20 (" 63 "0))", 13)
    ∷ (2, line "(level 19 (" 63 "4096))\n" ++ line "(level 21 (" 63 "0))", 13)
    ∷ (2, line "(level 18 (" 63 "0))\n" ++ line "(level 20 (" 63 "4096))", 12)
    ∷ []

abbrev pub EveryEnding : Type 0
EveryEnding =
    map {A = Ending} {B = ℕ} (λ ending. (lines_from ending.0 ending.1 0 []).number) endings
    ≡ map {A = Ending} {B = ℕ} (λ ending. ending.2) endings
