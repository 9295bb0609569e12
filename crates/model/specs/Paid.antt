-- THE TURNS AND THE CENTS ADD UP, over the same rides: Ticket 12, 'Pay per ride'. It is proved in proofs/Paid.antt.
--
-- A hotel's list: paid rides, steps, cuts and wakes, and whatever else leaves units 0 and 1 alone, closed by a cut. Repaired, unit 0 has
-- the sum of the turns and unit 1 the sum of the prices of one list of rides, those whose record passed.
--
-- Where every paid ride is refused, that list is empty: both sums are 0, and both units zeros. Which plans these are is said by `Sells`,
-- and proved: `Sales`. With one unit only there is no unit 1 to speak of.
use Rattle.std.specs.Prelude.{ℕ, ◌+◌, ◌*◌, ◌≤◌, ◌<◌, min, ◌≡◌, List, [], ◌∷◌, map, true, false, replicate}
use Rattle.model.specs.declared.Plan.{Plan}
use Rattle.model.specs.declared.Role.{Role}
use Rattle.model.specs.Layout.{Copy, width, copy_of}
use Rattle.model.specs.Turns.{amount}
use Rattle.model.specs.Prices.{price}
use Rattle.model.specs.Groups.{among, members}
use Rattle.model.specs.Records.{IsLast}
use Rattle.model.specs.Demands.{MaySee}
use Rattle.model.specs.Calls.{Device, Outcome}
use Rattle.model.specs.Calls as calls
use Rattle.model.specs.Ledger.{Call, begin, ride, group, paid, step, cut, wake, opening}
use Rattle.model.specs.PowerCut.{run, answers, closed_by, Closes, repair, Takes}
use Rattle.model.specs.Totals.{passed, sum}

-- ---- The price. "25 cents plus 7 cents for each started 500 turns, at most 900 cents": with no division
pub record Priced (turns : ℕ) : Type 0 where
  pub started : ℕ
  pub holds : turns ≤ 500 * started
  pub fewest : 500 * started < turns + 500
  pub is : price turns ≡ min 900 (25 + 7 * started)

pub record Prices : Type 0 where
  -- "A ride of 0 turns costs nothing"
  pub none : price 0 ≡ 0
  pub some : (turns : ℕ) → 0 < turns → Priced turns
  -- a longer ride never costs less
  pub rises : (turns more : ℕ) → turns ≤ more → price turns ≤ price more
  pub most : (turns : ℕ) → price turns ≤ 900

-- ---- "with these two units written in no other way": by no begin, no ride and no group that has one of them
abbrev pub OnlyPaid : Plan → List Call → Type 0
OnlyPaid p [] = Unit
OnlyPaid p (begin role v payload ∷ cs) = ¬ (v ≡ 0) × (¬ (v ≡ 1) × OnlyPaid p cs)
OnlyPaid p (ride turns ∷ cs) = ⊥
OnlyPaid p (group g ∷ cs) = (among 0 (members p g) ≡ false) × ((among 1 (members p g) ≡ false) × OnlyPaid p cs)
OnlyPaid p (paid turns ∷ cs) = OnlyPaid p cs
OnlyPaid p (step ∷ cs) = OnlyPaid p cs
OnlyPaid p (cut bytes ∷ cs) = OnlyPaid p cs
OnlyPaid p (wake ∷ cs) = OnlyPaid p cs

-- "the same rides, those whose record passed": the turns of each
abbrev pub rides_over : Plan → List Call → List ℕ
rides_over p cs = passed p (opening p) [] cs

-- ---- `cutOff` is what the closing cut left, and the steps are those of its repair.
pub record Taken (p : Plan) (cutOff : Outcome) (rides : List ℕ) : Type 0 where
  pub steps : ℕ
  pub needed : Takes p cutOff steps
  pub accepted : answers (repair steps) cutOff ≡ replicate (1 + steps) 0
  -- "the sum of turns and the sum of prices", in both copies
  pub turns : (c : Copy) → amount (copy_of p (run (repair steps) cutOff).image 0 c) ≡ sum rides
  pub cents : 1 < p.count → (c : Copy) → amount (copy_of p (run (repair steps) cutOff).image 1 c) ≡ sum (map price rides)
  -- and the console shows them, to a role that may see them
  pub shows_turns : width p 0 ≡ 8
      → (role : Role) → MaySee p.rights role 0
      → calls.total_of (run (repair steps) cutOff).device (run (repair steps) cutOff).image role 0 ≡ record { number = 0; amount = sum rides }
  pub shows_cents : 1 < p.count → width p 1 ≡ 8
      → (role : Role) → MaySee p.rights role 1
      → calls.total_of (run (repair steps) cutOff).device (run (repair steps) cutOff).image role 1
      ≡ record { number = 0; amount = sum (map price rides) }

-- "After every list of paid rides, steps, cuts and wakes from a formatted grouped device ending in a cut": ungrouped ones too
abbrev pub PaidAddUp : Type 0
PaidAddUp =
    (d : Device) (image : List ℕ)
    → (calls.format d image).number ≡ 0
    → (cs : List Call) (bytes : List ℕ)
    → Closes bytes cs (calls.format d image)
    → OnlyPaid d.plan cs
    → Taken d.plan (run (closed_by bytes cs) (calls.format d image)) (rides_over d.plan (closed_by bytes cs))

-- ---- The plans on which a ride can be paid for. A record has a byte for the member count, and for each of the two units one and its eight.
pub record Sells (p : Plan) : Type 0 where
  pub grouped : p.grouped ≡ true
  pub units : 3 ≤ p.count
  pub turns : width p 0 ≡ 8
  pub cents : width p 1 ≡ 8
  pub room : (r : ℕ) → IsLast p r → 19 ≤ width p r

pub record Sales : Type 0 where
  -- on these the first paid ride is accepted, whatever its turns ..
  pub sold : (d : Device) (image : List ℕ)
      → (calls.format d image).number ≡ 0 → Sells d.plan
      → (turns : ℕ) → turns < 18446744073709551616 → (calls.paid_ride (calls.format d image).device (calls.format d image).image turns).number ≡ 0
  -- .. and on all others none ever passes
  pub none : (p : Plan) → ¬ Sells p → (cs : List Call) → OnlyPaid p cs → rides_over p cs ≡ []
