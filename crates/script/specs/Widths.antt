-- The widths of a plan's form, from the place and the count that it keeps.
use Rattle.std.specs.Prelude.{ℕ, List, ◌++◌, take, replicate}
use Rattle.token.specs.Token.{number_at}
use Rattle.list.specs.Items.{values_at}

-- "eight width numbers": the first eight of a list, zeros past them
unfoldable pub widths_at : List ℕ → ℕ → ℕ → List ℕ
widths_at line at count = take 8 (values_at number_at line at count ++ replicate 8 0)
