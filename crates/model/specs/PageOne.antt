-- PAGES OF ONE BYTE, Ticket 9: "p = 1 gives the old images". The places, format's image and the torn store as document 01 alone has
-- them, and that a plan with p = 1 has them still. It is proved in proofs/PageOne.antt.
use Rattle.std.specs.Prelude.{ℕ, zero, suc, ◌+◌, ◌*◌, ◌≡◌, List, [], ◌∷◌, ◌++◌, get_or, set, drop, replicate}
use Rattle.std.proofs.Math.Option.{some}
use Rattle.model.specs.declared.Plan.{Plan}
use Rattle.model.specs.Marker.{torn, torn_by}
use Rattle.model.specs.Layout.{copy_a, copy_b, Cell, marker, byte, width, base, place, formatted}
use Rattle.model.specs.Stores.{Store, stored}

-- "A unit is its marker, copy A of w bytes, copy B of w bytes: 1 + 2w bytes." "Units lie one after another from image byte 0."
unfoldable pub old_base : Plan → ℕ → ℕ
old_base p zero = 0
old_base p (suc u) = old_base p u + (1 + 2 * width p u)

abbrev pub old_place : Plan → ℕ → Cell → ℕ
old_place p u marker = old_base p u
old_place p u (byte copy_a i) = old_base p u + (1 + i)
old_place p u (byte copy_b i) = old_base p u + (1 + width p u + i)

-- "zeros in all units, every marker 1"
unfoldable pub old_fresh : Plan → ℕ → List ℕ
old_fresh p zero = []
old_fresh p (suc n) = old_fresh p n ++ (1 ∷ replicate (2 * width p n) 0)

-- "A torn data byte is m. A torn marker takes each bit from the new code where m has a 1 and from the old marker where m has a 0."
abbrev pub old_torn : Cell → ℕ → ℕ → ℕ → ℕ
old_torn marker old new m = torn old new m
old_torn (byte c i) old new m = m

pub record OldImages (p : Plan) : Type 0 where
  pub places : (u : ℕ) (c : Cell) → place p u c ≡ old_place p u c
  pub units : (u : ℕ) → base p u ≡ old_base p u
  -- "Bytes after them are never changed."
  pub formats : (image : List ℕ) → formatted p image ≡ old_fresh p p.count ++ drop (old_base p p.count) image
  -- "No other byte is touched."
  pub tears : (image : List ℕ) (s : Store) (m : ℕ)
      → stored p image (torn_by (m ∷ [])) (some s)
      ≡ set image (old_place p s.unit s.cell) (old_torn s.cell (get_or image (old_place p s.unit s.cell) 0) s.value m)

abbrev pub PageOne : Type 0
PageOne = (p : Plan) → p.page ≡ 1 → OldImages p
