-- Document 01, 'Stores, in order': the stores of a write and of a cleanup as lists, and what each leaves in the image.
use Rattle.std.specs.Prelude.{ℕ, zero, suc, List, [], ◌∷◌, ◌++◌, get_or, drop}
use Rattle.std.proofs.Math.Option.{Option, none, some}
use Rattle.model.specs.declared.Plan.{Plan}
use Rattle.model.specs.declared.Direction.{Direction}
use Rattle.model.specs.declared.Direction.TheVariants.{AToB, BToA}
use Rattle.model.specs.Marker.{OK, A, B, torn, End, completed, torn_by}
use Rattle.model.specs.Layout.{Copy, copy_a, copy_b, Cell, marker, byte, width, get, put, put_page}

-- one store: its place, which is a cell of a unit, and its byte
pub record Store : Type 0 where
  pub unit : ℕ
  pub cell : Cell
  pub value : ℕ

abbrev pub store : ℕ → Cell → ℕ → Store
store u c x = record { unit = u; cell = c; value = x }

-- the n bytes of a copy from byte i on, in order, each as f gives it
unfoldable pub copying : ℕ → Copy → (ℕ → ℕ) → ℕ → ℕ → List Store
copying u c f zero i = []
copying u c f (suc n) i = store u (byte c i) (f i) ∷ copying u c f n (suc i)

-- "marker 2; A's bytes 0 to w-1 from the payload; marker 4; B's bytes 0 to w-1 from the payload; marker 1."
unfoldable pub write_stores : Plan → ℕ → List ℕ → List Store
write_stores p u payload =
    (store u marker A ∷ copying u copy_a (λ i. get_or payload i 0) (width p u) 0)
    ++ ((store u marker B ∷ copying u copy_b (λ i. get_or payload i 0) (width p u) 0)
    ++ (store u marker OK ∷ []))

-- the good copy, which a cleanup reads, and the other, which it stores to
abbrev pub source : Direction → Copy
source AToB = copy_a
source BToA = copy_b

abbrev pub target : Direction → Copy
target AToB = copy_b
target BToA = copy_a

-- "Bytes 0 to w-1 go in order, each read from the good copy at that step; then marker 1."
unfoldable pub cleanup_stores : Plan → List ℕ → ℕ → Direction → List Store
cleanup_stores p image u d =
    copying u (target d) (λ i. get p image u (byte (source d) i)) (width p u) 0 ++ (store u marker OK ∷ [])

-- Ticket 9: "data and filler become the given byte, a torn marker keeps the bit rule" (specs/Marker.antt): what is left of the page
-- around a cell that held old
abbrev pub page_left : Cell → ℕ → ℕ → List ℕ → List ℕ
page_left marker old new bytes = torn old new (get_or bytes 0 0) ∷ drop 1 bytes
page_left (byte c i) old new bytes = bytes

-- the image after a store, if there is one. A completed one is of one byte; Ticket 9: "The cheaper chip tears the page around the byte
-- it is storing." "No other byte is touched."
unfoldable pub stored : Plan → List ℕ → End → Option Store → List ℕ
stored p image e none = image
stored p image completed (some s) = put p image s.unit s.cell s.value
stored p image (torn_by bytes) (some s) =
    put_page p image s.unit s.cell (page_left s.cell (get p image s.unit s.cell) s.value bytes)
