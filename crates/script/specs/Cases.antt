-- Worked lines: a table, and one theorem that the definitions give each row; then the values of some lists.
use Rattle.std.specs.Prelude.{ℕ, ◌≡◌, refl, List, [], ◌∷◌, map, Option, None, Some}
use Rattle.script.specs.declared.Form.TheVariants.{Plan, Write, Step, Cut, Wake, Show}
use Rattle.script.specs.declared.Form.{Form}
use Rattle.token.specs.Ascii.{ascii}
use Rattle.token.specs.Token.{eat_at, word_at, digit_of, digit_at, extend_at, hex_at, more_at, at_most, entry_at, number_at}
use Rattle.list.specs.List.{items_at, list_at}
use Rattle.script.specs.Line.{closed_at, ◌or◌, paged_at, plan_of, write_of, cut_list_of, step_of, cut_of, bare_of, short_form_of, form_of}
use Rattle.list.specs.Items.{values_at}
use Rattle.script.specs.Widths.{widths_at}

-- a line, and what it says; a list is told by its place and count. Lists of 256 and of 257 bytes are among the stored scripts
-- (crates/vectors/data, write-256 and write-257).
pub rows : List (List ℕ × Option Form)
rows =
    (ascii "(plan (2 1))", Some (Plan 7 2 1))
    ∷ (ascii "(plan ())", Some (Plan 7 0 1))
    ∷ (ascii "(plan (0 65535))", Some (Plan 7 2 1))
    ∷ (ascii "(plan (1 2 3 4 5 6 7 8 9 10 11 12 13 14 15 16))", Some (Plan 7 16 1))
    ∷ (ascii "(plan (1 2 3 4 5 6 7 8 9 10 11 12 13 14 15 16 17))", None)
    ∷ (ascii "(plan (65536))", None)
    ∷ (ascii "(plan (01))", None)
    ∷ (ascii "(plan ( 1))", None)
    ∷ (ascii "(plan (1 ))", None)
    ∷ (ascii "(plan (2 1)", None)
    ∷ (ascii "(plan 2 1)", None)
    ∷ (ascii "(plan)", None)
    ∷ (ascii "(plan (2 1) (page 4))", Some (Plan 7 2 4))
    ∷ (ascii "(plan () (page 0))", Some (Plan 7 0 0))
    ∷ (ascii "(plan (2) (page 65535))", Some (Plan 7 1 65535))
    ∷ (ascii "(plan (2) (page 65536))", None)
    ∷ (ascii "(plan (2) (page 04))", None)
    ∷ (ascii "(plan (2) (page))", None)
    ∷ (ascii "(plan (2) (page ))", None)
    ∷ (ascii "(plan (2)(page 4))", None)
    ∷ (ascii "(plan (2)  (page 4))", None)
    ∷ (ascii "(plan (2) (page 4)", None)
    ∷ (ascii "(plan (2) (page 4) )", None)
    ∷ (ascii "(plan (2) (page 4) (page 4))", None)
    ∷ (ascii "(plan (2) page 4)", None)
    ∷ (ascii "(plan (page 4))", None)
    ∷ (ascii "(write 0 (0a 0b))", Some (Write 0 10 2))
    ∷ (ascii "(write 65535 ())", Some (Write 65535 14 0))
    ∷ (ascii "(write 65536 ())", None)
    ∷ (ascii "(write 00 ())", None)
    ∷ (ascii "(write 0 (0A))", None)
    ∷ (ascii "(write 0 (0a  0b))", None)
    ∷ (ascii "(write  0 ())", None)
    ∷ (ascii "(write 0 (0a0b))", None)
    ∷ (ascii "(write 0 (0a,0b))", None)
    ∷ (ascii "(step 1)", Some (Step 1))
    ∷ (ascii "(step 65535)", Some (Step 65535))
    ∷ (ascii "(step 65536)", None)
    ∷ (ascii "(step 100000)", None)
    ∷ (ascii "(step 0)", None)
    ∷ (ascii "(step 03)", None)
    ∷ (ascii "(step )", None)
    ∷ (ascii "(step -1)", None)
    ∷ (ascii "(step 1a)", None)
    ∷ (ascii "(cut 0a)", Some (Cut 5 1))
    ∷ (ascii "(cut ff)", Some (Cut 5 1))
    ∷ (ascii "(cut FF)", None)
    ∷ (ascii "(cut a)", None)
    ∷ (ascii "(cut 00a)", None)
    ∷ (ascii "(cut 0g)", None)
    ∷ (ascii "(cut)", None)
    ∷ (ascii "(cut 0a 0b)", None)
    ∷ (ascii "(cut ())", Some (Cut 6 0))
    ∷ (ascii "(cut (0a))", Some (Cut 6 1))
    ∷ (ascii "(cut (00 01 02 03 04 05 06 07 08 09 0a 0b 0c 0d 0e 0f))", Some (Cut 6 16))
    ∷ (ascii "(cut (00 01 02 03 04 05 06 07 08 09 0a 0b 0c 0d 0e 0f 10))", None)
    ∷ (ascii "(cut (0a 0B))", None)
    ∷ (ascii "(cut (0a )", None)
    ∷ (ascii "(cut (0a)", None)
    ∷ (ascii "(cut(0a))", None)
    ∷ (ascii "(wake)", Some Wake)
    ∷ (ascii "(wake) ", None)
    ∷ (ascii "(wake)\r", None)
    ∷ (ascii "(wake)(wake)", None)
    ∷ (ascii " (wake)", None)
    ∷ (ascii "(Wake)", None)
    ∷ (ascii "(show)", Some Show)
    ∷ (ascii "(show", None)
    ∷ (ascii "show)", None)
    ∷ (ascii "(show\t)", None)
    ∷ (ascii "()", None)
    ∷ ([], None)
    ∷ []

pub lines : map (λ (row : List ℕ × Option Form). form_of row.0) rows ≡ map (λ (row : List ℕ × Option Form). row.1) rows
unfolding rows form_of short_form_of bare_of cut_of step_of cut_list_of write_of plan_of paged_at ◌or◌ closed_at list_at items_at entry_at number_at at_most more_at hex_at extend_at digit_at digit_of word_at eat_at
lines = refl

-- the values of a list, bytes and widths
pub values : (values_at hex_at (ascii "(write 0 (0a ff))") 10 2 ≡ 10 ∷ 255 ∷ [])
    × (values_at hex_at (ascii "(cut (0a ff))") 6 2 ≡ 10 ∷ 255 ∷ [])
    × (values_at hex_at (ascii "(cut 0a)") 5 1 ≡ 10 ∷ [])
    × (widths_at (ascii "(plan (2 1))") 7 2 ≡ 2 ∷ 1 ∷ 0 ∷ 0 ∷ 0 ∷ 0 ∷ 0 ∷ 0 ∷ [])
    × (widths_at (ascii "(plan (1 2 3 4 5 6 7 8 9))") 7 9 ≡ 1 ∷ 2 ∷ 3 ∷ 4 ∷ 5 ∷ 6 ∷ 7 ∷ 8 ∷ [])
unfolding values_at widths_at entry_at number_at at_most more_at hex_at extend_at digit_at digit_of eat_at
values = (refl, refl, refl, refl, refl)
