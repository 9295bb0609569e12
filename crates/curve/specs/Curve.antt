-- Ticket 1, 'Brake curves from the bike maker': what a curve's text says, a line at a time, and what is wrong with it.
-- What a line says, and its number, are in `crates/row/specs/Row.antt`.
use Rattle.std.specs.Prelude.{ℕ, zero, suc, ◌+◌, ◌-◌, Bool, true, cond, not, ◌&&◌, ◌||◌, List, [], ◌++◌, eqb, ltb, length, take, drop}
use Rattle.model.specs.Numbers.{NO-ROOM, BAD-LINE}
use Rattle.token.specs.Lines.{line_end, line_at}
use Rattle.row.specs.Row.{row_of, in_rule, line_number}

-- what a text comes to: its number, and its entries if that is 0
pub record Curve : Type 0 where
  pub number : ℕ
  pub entries : List ℕ

abbrev pub curve : ℕ → List ℕ → Curve
curve number entries = record { number = number; entries = entries }

-- "The file has 20 lines, levels 1 to 20 in order": the n lines that are left, after the entries done. ".. or a line 21";
-- "of 12 and 13 the earlier line wins": the first line that has a number gives it.
unfoldable pub lines_from : ℕ → List ℕ → ℕ → List ℕ → Curve
lines_from zero text at done = cond (ltb at (length text)) (curve BAD-LINE []) (curve 0 done)
lines_from (suc n) text at done =
    let number : ℕ = line_number (19 - n) text at done in
    cond (eqb number 0)
    (lines_from n text (line_end text at + 1) (done ++ row_of (19 - n + 1) (line_at text at)))
    (curve number [])

abbrev pub curve_of : List ℕ → Curve
curve_of text = lines_from 20 text 0 []

-- "The constant table passes the check": the rules over n levels of a table, and over a whole one
unfoldable pub levels_good : ℕ → List ℕ → List ℕ → Bool
levels_good zero lower table = true
levels_good (suc n) lower table = in_rule 0 lower (take 64 table) && levels_good n (take 64 table) (drop 64 table)

abbrev pub passes : List ℕ → Bool
passes table = eqb (length table) 1280 && levels_good 20 [] table

-- "11 for a table that isn't 1,280 long or a scratch that is shorter, tested first", and since Ticket 8, 'Curve loading in a small
-- buffer': "a scratch under 64 now counts as too short under 11"
abbrev pub bad_room : ℕ → ℕ → Bool
bad_room table scratch = not (eqb table 1280) || ltb scratch 64

unfoldable pub load_number : List ℕ → ℕ → ℕ → ℕ
load_number text table scratch = cond (bad_room table scratch) NO-ROOM (curve_of text).number

-- "It goes into the lent table .. only if all of it is good; a refusal leaves the table as it was"
unfoldable pub loaded : List ℕ → List ℕ → ℕ → List ℕ
loaded text table scratch = cond (eqb (load_number text (length table) scratch) 0) (curve_of text).entries table

-- ---- "the 1,280-number loader" of Ticket 8, as Ticket 1 asked for it: for the comparison in Promises.antt alone
abbrev large_bad_room : ℕ → ℕ → Bool
large_bad_room table scratch = not (eqb table 1280) || ltb scratch 1280

unfoldable pub large_number : List ℕ → ℕ → ℕ → ℕ
large_number text table scratch = cond (large_bad_room table scratch) NO-ROOM (curve_of text).number

unfoldable pub large_loaded : List ℕ → List ℕ → ℕ → List ℕ
large_loaded text table scratch = cond (eqb (large_number text (length table) scratch) 0) (curve_of text).entries table
