-- Ticket 7, 'Wheel turns that add up': a unit's bytes as a number, and the bytes that a ride writes.
use Rattle.std.specs.Prelude.{ℕ, zero, suc, ◌+◌, ◌*◌, ◌/◌, ◌%◌, List, [], ◌∷◌}

-- "lowest byte first": the number that bytes hold
unfoldable pub amount : List ℕ → ℕ
amount [] = 0
amount (x ∷ xs) = x + 256 * amount xs

-- and the n bytes that hold a number
unfoldable pub in_bytes : ℕ → ℕ → List ℕ
in_bytes zero v = []
in_bytes (suc n) v = v % 256 ∷ in_bytes n (v / 256)

-- "total plus turns": the eight bytes of what `held` holds, and more
unfoldable pub plus : List ℕ → ℕ → List ℕ
plus held more = in_bytes 8 (amount held + more)
