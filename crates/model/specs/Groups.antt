-- Ticket 10, 'Ride and rider saved together': a group's bytes, the record that they give, and the writes that it comes to.
use Rattle.std.specs.Prelude.{ℕ, zero, suc, ◌-◌, List, [], ◌∷◌, ◌++◌, Bool, true, false, cond, not, ◌||◌, ◌&&◌, eqb, ltb, leb, length, get_or, take, drop, replicate}
use Rattle.model.specs.declared.Plan.{Plan}
use Rattle.model.specs.Plans.{width}

-- "its last unit is then the group record"
abbrev pub last : Plan → ℕ
last p = p.count - 1

abbrev pub is_record : Plan → ℕ → Bool
is_record p u = p.grouped && eqb u (last p)

-- a payload as the device holds it: 256 bytes, "zeros after it"
abbrev pub padded : List ℕ → List ℕ
padded payload = payload ++ replicate (256 - length payload) 0

-- a unit with its new bytes
pub record Write : Type 0 where
  pub unit : ℕ
  pub bytes : List ℕ

abbrev pub write : ℕ → List ℕ → Write
write u bytes = record { unit = u; bytes = bytes }

-- ---- "A group .. is the bytes of 2 to 4 members, each a unit number byte and that unit's payload."
-- the first n members of some bytes, and the bytes of some members
unfoldable pub split : Plan → ℕ → List ℕ → List Write
split p zero bytes = []
split p (suc n) [] = []
split p (suc n) (u ∷ bytes) = write u (take (width p u) bytes) ∷ split p n (drop (width p u) bytes)

unfoldable pub joined : List Write → List ℕ
joined [] = []
joined (x ∷ xs) = x.unit ∷ (x.bytes ++ joined xs)

-- the bytes are n members "with units below k", and nothing else
unfoldable pub splits : Plan → ℕ → List ℕ → Bool
splits p zero [] = true
splits p zero (x ∷ bytes) = false
splits p (suc n) [] = false
splits p (suc n) (u ∷ bytes) =
    (ltb u p.count && leb (width p u) (length bytes)) && splits p n (drop (width p u) bytes)

-- the member count, 0 if they don't split: the widths leave no choice
unfoldable pub member_count : Plan → List ℕ → ℕ
member_count p g = cond (splits p 2 g) 2 (cond (splits p 3 g) 3 (cond (splits p 4 g) 4 0))

unfoldable pub members : Plan → List ℕ → List Write
members p g = split p (member_count p g) g

-- ---- 19 to 21
-- "19 for bytes that don't split into 2 to 4 members with units below k"
unfoldable pub unsplit : Plan → List ℕ → Bool
unsplit p g = eqb (member_count p g) 0

-- "20 for a unit twice or the record itself"
unfoldable pub among : ℕ → List Write → Bool
among u [] = false
among u (x ∷ xs) = eqb u x.unit || among u xs

unfoldable pub twice : List Write → Bool
twice [] = false
twice (x ∷ xs) = among x.unit xs || twice xs

unfoldable pub overlaps : Plan → List ℕ → Bool
overlaps p g = twice (members p g) || (p.grouped && among (last p) (members p g))

-- "21 if there is no record or it is too narrow"
unfoldable pub narrow : Plan → List ℕ → Bool
narrow p g = not p.grouped || ltb (width p (last p)) (suc (length g))

unfoldable pub fits : Plan → List ℕ → Bool
fits p g = not (unsplit p g) && (not (overlaps p g) && not (narrow p g))

-- ---- "The record is the member count, the members, then zeros."; "the payload being the record, zeros after it"
unfoldable pub payload_of : Plan → List ℕ → List ℕ
payload_of p g = padded (member_count p g ∷ g)

-- the group that a payload is of, if it is of one
unfoldable pub group_in : Plan → List ℕ → List ℕ
group_in p payload = joined (split p (get_or payload 0 0) (drop 1 payload))

unfoldable pub alike : List ℕ → List ℕ → Bool
alike [] [] = true
alike [] (y ∷ ys) = false
alike (x ∷ xs) [] = false
alike (x ∷ xs) (y ∷ ys) = eqb x y && alike xs ys

-- a payload that a "group passing 19 to 21 gives"
unfoldable pub given : Plan → List ℕ → Bool
given p payload = fits p (group_in p payload) && alike (payload_of p (group_in p payload)) payload

-- the bytes of the record unit are a standing record; "a record that no group passing 19 to 21 gives is passed over"
unfoldable pub stands : Plan → List ℕ → Bool
stands p bytes = p.grouped && given p (padded bytes)

-- ---- "Steps write the record, then each member in order, then a record of zeros."
-- the members, then the zeros: what is still to write while the record stands
unfoldable pub remaining : Plan → List ℕ → List Write
remaining p payload =
    split p (get_or payload 0 0) (drop 1 payload) ++ (write (last p) (replicate (width p (last p)) 0) ∷ [])

unfoldable pub writes : Plan → List ℕ → List Write
writes p payload = write (last p) (take (width p (last p)) payload) ∷ remaining p payload

unfoldable pub nth : List Write → ℕ → Write
nth [] i = write 0 []
nth (x ∷ xs) zero = x
nth (x ∷ xs) (suc i) = nth xs i

-- "A group phase .. holds the write it is at": 0 the record, then the members, then the zeros
unfoldable pub write_at : Plan → List ℕ → ℕ → Write
write_at p payload i = nth (writes p payload) i

unfoldable pub is_last_write : Plan → List ℕ → ℕ → Bool
is_last_write p payload i = leb (length (writes p payload)) (suc i)
