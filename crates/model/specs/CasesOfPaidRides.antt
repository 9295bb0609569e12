-- Ticket 12 as rows: prices, the group of a paid ride, its numbers and their order, and lists of paid rides.
-- proofs/CasesOfPaidRides.antt has the theorems that the definitions give every row.
use Rattle.std.specs.Prelude.{ℕ, ◌≡◌, Bool, true, false, List, [], ◌∷◌, ◌++◌, replicate}
use Rattle.model.specs.declared.Plan.{Plan}
use Rattle.model.specs.declared.Phase.{Phase}
use Rattle.model.specs.declared.Phase.TheVariants.{Cold, Ready, Writing}
use Rattle.model.specs.Rights.{service_rights}
use Rattle.model.specs.Turns.{amount}
use Rattle.model.specs.Prices.{price, paid_group}
use Rattle.model.specs.Calls.{Device}
use Rattle.model.specs.Calls as calls
use Rattle.model.specs.Ledger.{Call, paid, step, wake, opening, tells, after}
use Rattle.model.specs.Cases.{cut_one}
use Rattle.model.specs.Paid.{rides_over}

-- "So 1 and 500 turns cost 32, 501 cost 39, 62,000 cost 893, 62,001 and more cost 900."
pub record EveryPrice : Type 0 where
  pub no_turns : price 0 ≡ 0
  pub one_turn : price 1 ≡ 32
  pub of500 : price 500 ≡ 32
  pub of501 : price 501 ≡ 39
  pub of1000 : price 1000 ≡ 39
  pub of1001 : price 1001 ≡ 46
  pub of62000 : price 62000 ≡ 893
  pub of62001 : price 62001 ≡ 900
  pub of1000000 : price 1000000 ≡ 900
  pub most : price 18446744073709551615 ≡ 900

-- "turns first": unit 0 with 600 and 501 more, unit 1 with 256 and the price of those 501
abbrev pub EveryFare : Type 0
EveryFare =
    paid_group (88 ∷ 2 ∷ replicate 6 0) (0 ∷ 1 ∷ replicate 6 0) 501
    ≡ 0 ∷ 77 ∷ 4 ∷ replicate 6 0 ++ (1 ∷ 39 ∷ 1 ∷ replicate 6 0)

-- ---- A device of k units with the widths w₀, w₁ and r, over units whose markers are as given, copy A of units 0 and 1 too, copy B ones.
abbrev device : Bool → ℕ → ℕ → ℕ → ℕ → Phase → Device
device grouped k w₀ w₁ r phase =
    record {
      plan = record { count = k; widths = w₀ ∷ w₁ ∷ r ∷ replicate 5 0; page = 1; grouped = grouped; rights = service_rights };
      payload = replicate 256 0;
      phase = phase;
      stores = 5;
    }

abbrev over : ℕ → ℕ → ℕ → List ℕ → List ℕ → List ℕ
over m₀ m₁ m₂ a b = m₀ ∷ a ++ replicate 8 1 ++ (m₁ ∷ b) ++ replicate 8 1 ++ (m₂ ∷ replicate 40 0)

abbrev none : List ℕ
none = replicate 8 0

abbrev most : List ℕ
most = replicate 8 255

abbrev number : Device → List ℕ → ℕ → ℕ
number d image turns = (calls.paid_ride d image turns).number

-- 1 to 5, 16, 20, 21, 8, 15: whatever a later row mends is still wrong
pub record EveryPaidNumber : Type 0 where
  pub no_unit : number (device false 0 7 7 18 Cold) [] 1 ≡ 1
  pub no_width : number (device false 3 0 7 18 Cold) [] 1 ≡ 2
  pub short : number (device false 3 7 7 18 (Writing 3 0)) [] 1 ≡ 3
  pub job_of_no_unit : number (device false 3 7 7 18 (Writing 3 0)) (over 2 2 2 most most) 1 ≡ 4
  pub in_cold : number (device false 3 7 7 18 Cold) (over 2 2 2 most most) 1 ≡ 5
  -- unit 0, unit 1, and a plan of one unit, however wide the second of its widths
  pub narrow_turns : number (device false 3 7 8 18 Ready) (over 2 2 2 most most) 1 ≡ 16
  pub narrow_cents : number (device false 3 8 7 18 Ready) (over 2 2 2 most most) 1 ≡ 16
  pub wide_cents : number (device false 3 8 9 18 Ready) (over 2 2 2 most most) 1 ≡ 16
  pub no_unit1 : number (device true 1 8 8 18 Ready) (over 2 2 2 most most) 1 ≡ 16
  pub wide_record : number (device true 2 8 19 18 Ready) (over 2 2 2 most most) 1 ≡ 16
  -- the record is unit 1; there is none; it is a byte too narrow
  pub unit1_is_record : number (device true 2 8 8 18 Ready) (over 2 2 2 most most) 1 ≡ 20
  pub no_record : number (device false 3 8 8 19 Ready) (over 2 2 2 most most) 1 ≡ 21
  pub narrow_record : number (device true 3 8 8 18 Ready) (over 2 2 2 most most) 1 ≡ 21
  -- the markers of the record, of unit 0, of unit 1
  pub record_marker : number (device true 3 8 8 19 Ready) (over 1 1 2 most most) 1 ≡ 8
  pub turns_marker : number (device true 3 8 8 19 Ready) (over 2 1 1 most most) 1 ≡ 8
  pub cents_marker : number (device true 3 8 8 19 Ready) (over 1 2 1 most most) 1 ≡ 8
  -- either sum, from copy A
  pub turns_full : number (device true 3 8 8 19 Ready) (over 1 1 1 most none) 1 ≡ 15
  pub cents_full : number (device true 3 8 8 19 Ready) (over 1 1 1 none most) 1 ≡ 15
  pub cents_fit : number (device true 3 8 8 19 Ready) (over 1 1 1 none (223 ∷ replicate 7 255)) 1 ≡ 0
  pub cents_one_too_many : number (device true 3 8 8 19 Ready) (over 1 1 1 none (224 ∷ replicate 7 255)) 1 ≡ 15
  pub nothing_to_add : number (device true 3 8 8 19 Ready) (over 1 1 1 most most) 0 ≡ 0
  pub longest : number (device true 3 8 8 19 Ready) (over 1 1 1 none none) 18446744073709551615 ≡ 0

-- ---- What an accepted one begins: the group, with both totals from copy A; no byte is stored.
abbrev pub EveryBegun : Type 0
EveryBegun =
    (calls.paid_ride (device true 3 8 8 19 Ready) (over 1 1 1 (44 ∷ 1 ∷ replicate 6 0) (0 ∷ 1 ∷ replicate 6 0)) 501).device.payload
    ≡ 2 ∷ 0 ∷ 33 ∷ 3 ∷ replicate 6 0 ++ (1 ∷ 39 ∷ 1 ∷ replicate 6 0) ++ replicate 237 0

-- ---- Lists of paid rides from a formatted device, by the ledger: each call's number, which rides passed, and what it saved of both units.
abbrev hotel : Plan
hotel = (device true 3 8 8 19 Ready).plan

-- the record's write passes at its store 21 of 41
abbrev begun : ℕ → ℕ → List Call → List Call
begun turns n more = paid turns ∷ replicate n step ++ more

abbrev amounts : List Call → List ℕ
amounts cs = amount ((after hotel (opening hotel) cs).saved 0) ∷ amount ((after hotel (opening hotel) cs).saved 1) ∷ []

pub record EveryTaking : Type 0 where
  pub before : rides_over hotel (begun 501 20 []) ≡ []
  pub passed : rides_over hotel (begun 501 21 []) ≡ 501 ∷ []
  pub torn_to_a : rides_over hotel (begun 501 20 (cut_one 0 ∷ [])) ≡ []
  pub torn_off : rides_over hotel (begun 501 20 (cut_one 4 ∷ [])) ≡ 501 ∷ []
  pub refused_next : rides_over hotel (begun 501 21 (paid 7 ∷ cut_one 0 ∷ wake ∷ [])) ≡ 501 ∷ []
  pub saved_none : amounts (begun 501 20 (cut_one 0 ∷ [])) ≡ 0 ∷ 0 ∷ []
  pub saved_both : amounts (begun 501 20 (cut_one 4 ∷ [])) ≡ 501 ∷ 39 ∷ []
  pub of_no_turns : amounts (begun 0 21 []) ≡ 0 ∷ 0 ∷ []
  pub told : tells hotel (opening hotel) (paid 1 ∷ paid 1 ∷ step ∷ []) ≡ 0 ∷ 5 ∷ 0 ∷ []
