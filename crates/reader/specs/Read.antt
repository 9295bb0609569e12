-- The line of a script at an offset, and the form that it is. Document 01, 'Bench program'.
use Rattle.std.specs.Prelude.{ℕ, cond, List, ltb, length, Option, None, Some}
use Rattle.script.specs.declared.Form.{Form}
use Rattle.script.specs.Line.{form_of}
use Rattle.token.specs.Lines.{line_end, line_at}
use Rattle.reader.specs.declared.Read.{Read}

-- a form, and where its line begins and ends
abbrev pub read : Form → ℕ → ℕ → Read
read form start end = record { form = form; start = start; end = end }

unfoldable pub read_of : Option Form → ℕ → ℕ → Option Read
read_of (Some form) start end = Some (read form start end)
read_of None start end = None

-- "one bracket form a line"; past the text's end there is none
unfoldable pub read_at : List ℕ → ℕ → Option Read
read_at text at = cond (ltb at (length text)) (read_of (form_of (line_at text at)) at (line_end text at)) None
