-- The lines of a text: where the one at an offset ends, and its bytes.
use Rattle.std.specs.Prelude.{ℕ, ◌+◌, ◌-◌, List, length, take, drop}
use Prim.Native.Char.{code}
use Rattle.token.specs.Scan.{index_of, slice}

-- "LF, the last LF optional": the offset of the next LF, or the text's end
unfoldable pub line_end : List ℕ → ℕ → ℕ
line_end text at = at + index_of (code "\n") (slice at (length text) text)

-- the line up to its LF
unfoldable pub line_at : List ℕ → ℕ → List ℕ
line_at text at = take (line_end text at - at) (drop at text)
