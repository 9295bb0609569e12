-- What a cut leaves of the page around the byte that was to be stored, in a unit that was looked up.
use Rattle.std.specs.Prelude.{ℕ, ◌+◌, ◌*◌, ◌/◌, List, ◌∷◌, cond, eqb, get_or, drop}
use Rattle.std.proofs.lemmas.List.Edits.{sets}
use Rattle.lookup.specs.declared.Span.{Span}
use Rattle.model.specs.Marker.{torn}

-- the page's first byte, by the offset of the byte that was to be stored: the marker's is 0, and a page begins with it
abbrev pub first_left : ℕ → ℕ → ℕ → ℕ → ℕ
first_left at old new m = cond (eqb at 0) (torn old new m) m

-- where the page begins, in the unit; a page is as long as the marker's, which ends where copy A begins
abbrev pub page_from : Span → ℕ → ℕ
page_from span at = at / span.a * span.a

-- the image with these bytes left of the page that begins there
abbrev pub torn_from : ℕ → ℕ → ℕ → List ℕ → List ℕ → List ℕ
torn_from from at new page image = sets image from (first_left at (get_or image from 0) new (get_or page 0 0) ∷ drop 1 page)

abbrev pub torn_in : Span → ℕ → ℕ → List ℕ → List ℕ → List ℕ
torn_in span at new page image = torn_from (span.base + page_from span at) at new page image
