-- The first byte of a kind in a part of a text.
use Rattle.std.specs.Prelude.{ℕ, zero, suc, List, [], ◌∷◌, Bool, true, false, eqb, take, drop}

-- the index of what was found, or one more than that of what follows
unfoldable pub index_after : Bool → ℕ → ℕ
index_after true k = zero
index_after false k = suc k

-- how many bytes stand before the first that is this one: all, if none is
unfoldable pub index_of : ℕ → List ℕ → ℕ
index_of byte [] = zero
index_of byte (x ∷ xs) = index_after (eqb x byte) (index_of byte xs)

-- from one offset up to another
unfoldable pub slice : ℕ → ℕ → List ℕ → List ℕ
slice from to xs = drop from (take to xs)
