-- Document 01, 'Marker byte', and Ticket 4: what a marker byte says of its unit.
use Rattle.std.specs.Prelude.{ℕ, Bool, true, false, cond, eqb, ltb}
use Rattle.model.specs.declared.Direction.{Direction}
use Rattle.model.specs.declared.Direction.TheVariants.{AToB, BToA}
use Rattle.model.specs.Marker.{OK, A, B, FOREIGN}
use Rattle.marker.specs.declared.Marker.{Marker}
use Rattle.marker.specs.declared.Marker.TheVariants.{Clean, WritingToA, WritingToB, Corrupted, Foreign}

-- "Any other byte is X, corrupted", below FOREIGN.
unfoldable pub meaning : ℕ → Marker
meaning byte =
    cond (eqb byte OK) Clean
    (cond (eqb byte A) WritingToA (cond (eqb byte B) WritingToB (cond (ltb byte FOREIGN) Corrupted Foreign)))

abbrev pub says_foreign : Marker → Bool
says_foreign Clean = false
says_foreign WritingToA = false
says_foreign WritingToB = false
says_foreign Corrupted = false
says_foreign Foreign = true

-- "A copies B to A; B and X copy A to B."
abbrev pub way : Marker → Direction
way Clean = AToB
way WritingToA = BToA
way WritingToB = AToB
way Corrupted = AToB
way Foreign = AToB
