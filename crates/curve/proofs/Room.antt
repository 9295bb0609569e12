-- Which tables and scratches a load accepts, and what a refused one leaves.
use Prim.Native.Nat.{ℕ, zero, suc, ◌-◌, ◌≤◌, ◌<◌}
use mathlib.Core.Path.{◌≡◌, sym, ◌∙◌}
use mathlib.Core.Bool.{Bool, true, false, cond, or-true, not}
use mathlib.Core.List.{List, []}
use native.Mathlib.Omega.{arith}
use lib.Dec.{eqb, ltb}
use lib.ListN.{length}
use borrow.Author.Tests.{eq-eqb, ne_eqb, lt-ltb, le-ltb}
use Rattle.model.proofs.Compare.{equal, differ, same}
use Rattle.row.specs.Row.{line_number}
use Rattle.row.proofs.Line.{line_never_11}
use Rattle.curve.specs.Curve.{curve, lines_from, curve_of, bad_room, load_number, loaded, large_number, large_loaded}
use Rattle.curve.specs.Promises.{RefusedLeavesTheTable, RoomFor1280, SpareScratch, SmallAsLarge}

-- ---- the room
module _ (text : List ℕ) (table scratch : ℕ) where
  no_room_lem : bad_room table scratch ≡ true → load_number text table scratch ≡ 11
  unfolding load_number
  no_room_lem e = rw e

  pub other_table_lem : ¬ (table ≡ 1280) → load_number text table scratch ≡ 11
  other_table_lem h = no_room_lem (rw (ne_eqb table 1280 h))

  pub short_scratch_lem : scratch < 64 → load_number text table scratch ≡ 11
  short_scratch_lem h = no_room_lem (rw (lt-ltb scratch 64 h) (or-true (not (eqb table 1280))))

  pub by_text : table ≡ 1280 → 64 ≤ scratch → load_number text table scratch ≡ (curve_of text).number
  unfolding load_number
  by_text fits room = rw (eq-eqb table 1280 fits, le-ltb scratch 64 room)

-- ---- no text gives 11
lines_never_11 : (n : ℕ) (text : List ℕ) (at : ℕ) (done : List ℕ) → ¬ ((lines_from n text at done).number ≡ 11)
unfolding lines_from
lines_never_11 zero text at done e = ended (ltb at (length text)) e
  where
    ended : (over : Bool) → ¬ ((cond over (curve 12 []) (curve 0 done)).number ≡ 11)
    ended true e = omega arith
    ended false e = omega arith
lines_never_11 (suc n) text at done e =
    elim (same (line_number (19 - n) text at done) 0) [
      | equal z ↦
          lines_never_11 n text _ _ (rw (eq-eqb (line_number (19 - n) text at done) 0 z) at e)
      | differ h ↦
          line_never_11 (19 - n) text at done (rw (ne_eqb (line_number (19 - n) text at done) 0 h) at e)
    ]

-- ---- the promises
pub refused_leaves_the_table : RefusedLeavesTheTable
unfolding loaded
refused_leaves_the_table text table scratch h = rw (ne_eqb (load_number text (length table) scratch) 0 h)

pub room_for_1280 : RoomFor1280
room_for_1280 text table scratch =
    record {
      other_table = other_table_lem text table scratch;
      short_scratch = short_scratch_lem text table scratch;
      enough = λ fits room e. lines_never_11 20 text 0 [] (sym (by_text text table scratch fits room) ∙ e);
    }

pub spare_scratch : SpareScratch
unfolding loaded
spare_scratch text table scratch other room room' = (n, rw n)
  where
    n : load_number text (length table) scratch ≡ load_number text (length table) other
    n =
        elim (same (length table) 1280) [
          | equal fits ↦ by_text text (length table) scratch fits room ∙ sym (by_text text (length table) other fits room')
          | differ h ↦ other_table_lem text (length table) scratch h ∙ sym (other_table_lem text (length table) other h)
        ]

-- ---- the 1,280-number loader
module _ (text : List ℕ) (table large : ℕ) where
  large_other : ¬ (table ≡ 1280) → large_number text table large ≡ 11
  unfolding large_number
  large_other h = rw (ne_eqb table 1280 h)

  large_by_text : table ≡ 1280 → 1280 ≤ large → large_number text table large ≡ (curve_of text).number
  unfolding large_number
  large_by_text fits room = rw (eq-eqb table 1280 fits, le-ltb large 1280 room)

pub small_as_large : SmallAsLarge
unfolding loaded large_loaded
small_as_large text table scratch large room room' = (n, rw n)
  where
    n : load_number text (length table) scratch ≡ large_number text (length table) large
    n =
        elim (same (length table) 1280) [
          | equal fits ↦ by_text text (length table) scratch fits room ∙ sym (large_by_text text (length table) large fits room')
          | differ h ↦ other_table_lem text (length table) scratch h ∙ sym (large_other text (length table) large h)
        ]
