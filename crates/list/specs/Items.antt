-- The values of a list, from the place and the count that its form keeps.
use Rattle.std.specs.Prelude.{ℕ, zero, suc, List, [], ◌∷◌}
use Prim.Native.Char.{code}
use Rattle.token.specs.declared.Item.{Item}
use Rattle.token.specs.Token.{eat_at}

-- the values of count items, with a space after each but the last
unfoldable pub values_at : (List ℕ → ℕ → Item) → List ℕ → ℕ → ℕ → List ℕ
values_at reads line at zero = []
values_at reads line at (suc count) = (reads line at).value ∷ values_at reads line (eat_at line (reads line at).next (code " ")) count
