-- What a program reads of a script.
use Rattle.std.specs.Prelude.{ℕ, ◌<◌, ◌≤◌, Option, List, length}
use Rattle.std.specs.Io.KnownBytes.{Consumes, IsAtEnd}

-- a text of at most so many bytes was read, and if it has fewer, the input is at its end
abbrev pub ReadsUpTo : ℕ → Option (List ℕ) → Option (List ℕ) → Type 0
ReadsUpTo most before after =
    (text : List ℕ) × (Consumes before after text × (length text ≤ most) × (length text < most → IsAtEnd after))
