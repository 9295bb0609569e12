-- Document 01, 'Marker byte', and what a power cut leaves of a marker ('Stores, in order').
use Rattle.std.specs.Prelude.{ℕ, zero, suc, ◌+◌, ◌*◌, ◌/◌, ◌%◌, Bool, cond, List, eqb, leb, get_or}
use Rattle.model.specs.declared.Direction.{Direction}
use Rattle.model.specs.declared.Direction.TheVariants.{AToB, BToA}

-- "OK is 1, A ("writing to A") is 2, B ("writing to B") is 4."
abbrev pub OK : ℕ
OK = 1

abbrev pub A : ℕ
A = 2

abbrev pub B : ℕ
B = 4

-- Ticket 4: "Reading a marker gains a fifth meaning, foreign, for 8 and above."
abbrev pub FOREIGN : ℕ
FOREIGN = 8

abbrev pub is_foreign : ℕ → Bool
is_foreign byte = leb FOREIGN byte

-- "The marker read when the unit's cleanup begins sets the direction. A copies B to A; B and X copy A to B." No cleanup begins at
-- OK. Ticket 4: "step goes on treating it as X"
unfoldable pub direction : ℕ → Direction
direction byte = cond (eqb byte A) BToA AToB

-- "A torn marker takes each bit from the new code where m has a 1 and from the old marker where m has a 0":
-- the lowest n bits of it, the lowest first.
unfoldable pub torn_bits : ℕ → ℕ → ℕ → ℕ → ℕ
torn_bits zero old new m = 0
torn_bits (suc n) old new m =
    cond (eqb (m % 2) 1) (new % 2) (old % 2) + 2 * torn_bits n (old / 2) (new / 2) (m / 2)

unfoldable pub torn : ℕ → ℕ → ℕ → ℕ
torn old new m = torn_bits 8 old new m

-- A store is completed, or a cut tears it. Ticket 9: "Cut now takes p bytes, one for each byte of the torn page"
pub data End : Type 0 where
  completed : End
  torn_by : List ℕ → End

-- what is left of a marker when a code is stored over it; it is its page's first byte
abbrev pub marker_left : End → ℕ → ℕ → ℕ
marker_left completed old code = code
marker_left (torn_by bytes) old code = torn old code (get_or bytes 0 0)
