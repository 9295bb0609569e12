-- What a caller knows of a form that was read: its line lies in the text from the offset on, and is that form.
use Rattle.std.specs.Prelude.{ℕ, ◌-◌, ◌<◌, ◌≤◌, ◌≡◌, List, length, take, drop, Some}
use Rattle.script.specs.Line.{form_of}
use Rattle.reader.specs.declared.Read.{Read}

pub record Found (text : List ℕ) (at : ℕ) (read : Read) : Type 0 where
  pub starts : read.start ≡ at
  pub inside : at < length text
  pub onward : at ≤ read.end
  pub ends : read.end ≤ length text
  pub says : form_of (take (read.end - read.start) (drop read.start text)) ≡ Some read.form
