-- A list at a place of a line: its items, the spaces between them, and the `)` that ends it. The words of document 01, 'Bench program',
-- stand in quotes.
use Rattle.std.specs.Prelude.{ℕ, zero, suc, ◌+◌, cond, List, eqb, Option, None, Some}
use Prim.Native.Char.{code}
use Rattle.token.specs.declared.Item.{Item}
use Rattle.token.specs.Token.{lost, eat_at}
use Rattle.list.specs.declared.Items.{Items}

-- how many items a list has, and the place past its `)`
abbrev pub items : ℕ → ℕ → Items
items count next = record { count = count; next = next }

-- a list that a function hands back: None has no items, and `lost`
abbrev pub listed : Option Items → Items
listed None = items 0 lost
listed (Some list) = list

-- the list of count items, if its `)` was found; otherwise the longer one
abbrev pub ends_at : ℕ → ℕ → Items → Items
ends_at next count longer = cond (eqb next lost) longer (items count next)

-- "single spaces": after count items one to most more, and `)`; each is HH, W or a curve's entry, as `reads` says
unfoldable pub items_at : (List ℕ → ℕ → Item) → List ℕ → ℕ → ℕ → ℕ → Items
items_at reads line at zero count = items 0 lost
items_at reads line at (suc most) count =
    let past : ℕ = (reads line at).next in
    ends_at (eat_at line past (code ")")) (count + 1) (items_at reads line (eat_at line past (code " ")) most (count + 1))

-- "(W ..)", "(HH ..)", after the `(`: none to most items, and `)`
unfoldable pub list_at : (List ℕ → ℕ → Item) → List ℕ → ℕ → ℕ → Items
list_at reads line at most = cond (eqb at lost) (items 0 lost) (ends_at (eat_at line at (code ")")) 0 (items_at reads line at most 0))
