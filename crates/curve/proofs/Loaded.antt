-- What an accepted load leaves in the table, by the code's tests.
use Rattle.std.proofs.Common.{◌≡◌, ◌∙◌, ℕ, ◌≤◌, List, length, eq-eqb}
use Rattle.curve.specs.Curve.{curve_of, load_number, loaded}
use Rattle.curve.proofs.Room.{by_text}

pub load_accepted : (text table : List ℕ) (scratch : ℕ) → length table ≡ 1280 → 64 ≤ scratch → (curve_of text).number ≡ 0
    → loaded text table scratch ≡ (curve_of text).entries
unfolding loaded
load_accepted text table scratch fits room good =
    rw (eq-eqb (load_number text (length table) scratch) 0 (by_text text (length table) scratch fits room ∙ good))
