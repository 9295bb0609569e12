-- The rows of specs/Cases.antt, computed.
use mathlib.Core.Path.{refl}
use Rattle.token.specs.Scan.{index_of, index_after, slice}
use Rattle.token.specs.Token.{eat_at, word_at, digit_of, digit_at, extend_at, more_at, entry_at}
use Rattle.list.specs.List.{items_at}
use Rattle.list.specs.Items.{values_at}
use Rattle.token.specs.Lines.{line_end, line_at}
use Rattle.row.specs.Row.{row_at, in_rule, line_number}
use Rattle.curve.specs.Curve.{lines_from, load_number}
use Rattle.curve.specs.Cases.{zeros, rows, EveryLine, loads, EveryRoom, endings, EveryEnding}

pub every_line : EveryLine
unfolding rows zeros line_number row_at in_rule line_at line_end index_of index_after slice values_at items_at entry_at more_at extend_at digit_at digit_of word_at eat_at
every_line = refl

pub every_room : EveryRoom
unfolding loads zeros load_number lines_from line_number row_at in_rule line_at line_end index_of index_after slice values_at items_at entry_at more_at extend_at digit_at digit_of word_at eat_at
every_room = refl

pub every_ending : EveryEnding
unfolding endings zeros lines_from line_number row_at in_rule line_at line_end index_of index_after slice values_at items_at entry_at more_at extend_at digit_at digit_of word_at eat_at
every_ending = refl
