-- Document 01, 'Plan and image', and Ticket 9, 'Chips that store by page': where a plan's units, their markers and their copies lie.
-- Only this file says at which image byte a cell stands. `get`, `put`, `put_page`, `copy_of` and `formatted` are all that the calls use
-- of it.
use Rattle.std.specs.Prelude.{ℕ, zero, suc, ◌+◌, ◌-◌, ◌*◌, ◌/◌, ◌<◌, List, [], ◌∷◌, ◌++◌, get_or, set, take, drop, replicate}
use Rattle.std.proofs.lemmas.List.Edits.{sets}
use Rattle.model.specs.declared.Plan.{Plan}
use Rattle.model.specs.Marker.{OK}
pub use Rattle.model.specs.Plans.{width}

-- "A unit is its marker, copy A of w bytes, copy B of w bytes":
pub data Copy : Type 0 where
  copy_a : Copy
  copy_b : Copy

-- a cell is one byte of it.
pub data Cell : Type 0 where
  marker : Cell
  byte : Copy → ℕ → Cell

-- a cell that a unit of width w has
abbrev pub InUnit : ℕ → Cell → Type 0
InUnit w marker = Unit
InUnit w (byte c i) = i < w

-- Ticket 9: "rounded up to whole pages"
unfoldable pub whole_pages : ℕ → ℕ → ℕ
whole_pages page w = (w + (page - 1)) / page * page

-- "each copy is rounded up to whole pages": the bytes that a copy of unit u takes. Those past its width are filler.
abbrev pub copy_length : Plan → ℕ → ℕ
copy_length p u = whole_pages p.page (width p u)

-- "A marker takes a page of its own, in its first byte": the page's other bytes are filler too.
abbrev pub unit_length : Plan → ℕ → ℕ
unit_length p u = p.page + 2 * copy_length p u

abbrev pub offset : Plan → ℕ → Cell → ℕ
offset p u marker = 0
offset p u (byte copy_a i) = p.page + i
offset p u (byte copy_b i) = p.page + copy_length p u + i

-- "Units lie one after another from image byte 0."
unfoldable pub base : Plan → ℕ → ℕ
base p zero = 0
base p (suc u) = base p u + unit_length p u

-- "all units together"
abbrev pub total : Plan → ℕ
total p = base p p.count

abbrev pub place : Plan → ℕ → Cell → ℕ
place p u c = base p u + offset p u c

unfoldable pub get : Plan → List ℕ → ℕ → Cell → ℕ
get p image u c = get_or image (place p u c) 0

unfoldable pub put : Plan → List ℕ → ℕ → Cell → ℕ → List ℕ
put p image u c x = set image (place p u c) x

-- Ticket 9: "the page around the byte": where it begins, for an image byte
abbrev pub page_at : Plan → ℕ → ℕ
page_at p at = at / p.page * p.page

-- the page around a cell becomes these bytes, "one for each byte" of it
unfoldable pub put_page : Plan → List ℕ → ℕ → Cell → List ℕ → List ℕ
put_page p image u c bytes = sets image (page_at p (place p u c)) (take p.page bytes)

-- a whole unit, marker, copies and filler, as a part of the image
abbrev pub unit_of : Plan → List ℕ → ℕ → List ℕ
unit_of p image u = take (unit_length p u) (drop (base p u) image)

-- a whole copy, as a part of the image
unfoldable pub copy_of : Plan → List ℕ → ℕ → Copy → List ℕ
copy_of p image u c = take (width p u) (drop (place p u (byte c 0)) image)

-- "zeros in all units, every marker 1"; Ticket 9: "Format sets the filler to zero": the first n units
unfoldable pub fresh : Plan → ℕ → List ℕ
fresh p zero = []
fresh p (suc n) = fresh p n ++ (OK ∷ replicate (unit_length p n - 1) 0)

-- "Bytes after them are never changed."
unfoldable pub formatted : Plan → List ℕ → List ℕ
formatted p image = fresh p p.count ++ drop (total p) image
