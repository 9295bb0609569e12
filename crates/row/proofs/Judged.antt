-- A line's number and its row, of the entries that the code found on the line as it cut it out.
use Rattle.std.proofs.Common.{◌≡◌, ap, sym, ◌∙◌, ℕ, ◌+◌, ◌-◌, ◌<◌, ◌≤◌, List, cond, length, take, drop}
use Rattle.token.specs.Token.{lost, entry_at}
use Rattle.token.specs.Lines.{line_end, line_at}
use Rattle.list.specs.Items.{values_at}
use Rattle.row.specs.declared.Entries.{Entries}
use Rattle.row.specs.Row.{row_at, row_of, in_rule, row_below, line_number}
use Rattle.row.proofs.Full.{row_found}
use Rattle.row.proofs.Line.{line_judged, is_row, held_judged}

module _ (i : ℕ) (text : List ℕ) (at : ℕ) (scratch : List ℕ) (inside : at < length text) (end : ℕ) (ee : end ≡ line_end text at) (e : Entries)
    (is : (e.line.now ≡ take (end - at) (drop at text)) × (e.at ≡ row_at (i + 1) (take (end - at) (drop at text))) × (e.read ≡ 0)) where
  from : e.at ≡ row_at (i + 1) e.line.now
  from = is.1 ∙ ap (row_at (i + 1)) (sym is.0)

  pub entries_row : values_at entry_at e.line.now e.at 64 ≡ row_of (i + 1) (line_at text at)
  entries_row = is_row i text at (row_below i scratch) inside end ee e.line.now is.0 e.at from

  pub entries_judged : length e.line.now ≤ lost → (k : ℕ) → k ≡ cond (in_rule 0 (row_below i scratch) (values_at entry_at e.line.now e.at 64)) 0 13
      → k ≡ line_number i text at (row_below i scratch)
  entries_judged fits k judged =
      line_judged i text at (row_below i scratch) inside end ee e.line.now is.0 e.at from k (held_judged i scratch _ k judged)
      (row_found e.line.now fits e.at (rw is.2 at e.there))
