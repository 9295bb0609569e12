-- Ticket 7 as rows: amounts as bytes, a ride's numbers and their order, what it writes, what a total shows, and lists of rides.
-- proofs/CasesOfRides.antt has the theorems that the definitions give every row.
use Rattle.std.specs.Prelude.{ℕ, ◌≡◌, List, [], ◌∷◌, ◌++◌, map, take, replicate}
use Rattle.model.specs.declared.Plan.{Plan}
use Rattle.model.specs.declared.Role.TheVariants.{Service}
use Rattle.model.specs.declared.Phase.{Phase}
use Rattle.model.specs.declared.Phase.TheVariants.{Cold, Ready, Writing}
use Rattle.model.specs.Layout.{copy_a, copy_of}
use Rattle.model.specs.Turns.{amount, in_bytes}
use Rattle.model.specs.Calls.{Device, Outcome, Total}
use Rattle.model.specs.Calls as calls
use Rattle.model.specs.Ledger.{Call, begin, ride, step, wake}
use Rattle.model.specs.PowerCut.{run, repair}
use Rattle.model.specs.Totals.{turns_over}
use Rattle.model.specs.Cases.{planned, cut_one}

-- ---- "lowest byte first"
abbrev pub EveryAmount : Type 0
EveryAmount =
    map amount ((1 ∷ 0 ∷ []) ∷ (0 ∷ 1 ∷ []) ∷ (44 ∷ 1 ∷ 0 ∷ 0 ∷ 0 ∷ 0 ∷ 0 ∷ 0 ∷ []) ∷ replicate 8 255 ∷ [])
    ≡ 1 ∷ 256 ∷ 300 ∷ 18446744073709551615 ∷ []

abbrev pub EveryBytes : Type 0
EveryBytes =
    map (in_bytes 8) (1 ∷ 300 ∷ 65536 ∷ 18446744073709551615 ∷ [])
    ≡ (1 ∷ replicate 7 0) ∷ (44 ∷ 1 ∷ replicate 6 0) ∷ (0 ∷ 0 ∷ 1 ∷ replicate 5 0) ∷ replicate 8 255 ∷ []

-- ---- A device of widths w and 1 over units whose markers are m, copy A of unit 0 as given, copy B ones.
abbrev wide : ℕ → Phase → Device
wide w phase = record { plan = planned 2 (w ∷ 1 ∷ replicate 6 0); payload = replicate 256 9; phase = phase; stores = 5 }

abbrev over : ℕ → List ℕ → List ℕ
over m a = m ∷ a ++ replicate 8 1 ++ (m ∷ 7 ∷ 8 ∷ [])

abbrev most : List ℕ
most = replicate 8 255

-- a device, an image, turns, and the ride's number
pub record Asked : Type 0 where
  pub device : Device
  pub image : List ℕ
  pub turns : ℕ
  pub number : ℕ

abbrev asked : Device → List ℕ → ℕ → ℕ → Asked
asked d image turns n = record { device = d; image = image; turns = turns; number = n }

-- "15 .. tested after 8; 16 .. tested after 5": whatever a later row mends is still wrong
abbrev pub askings : List Asked
askings =
    asked (wide 0 Cold) (over 2 most) 1 2
    ∷ asked (wide 7 (Writing 2 0)) (replicate 17 2) 1 3
    ∷ asked (wide 7 (Writing 2 0)) (over 2 most) 1 4
    ∷ asked (wide 7 (Writing 0 6)) (over 2 most) 1 5
    ∷ asked (wide 7 Cold) (over 2 most) 1 5
    ∷ asked (wide 7 Ready) (over 2 most) 1 16
    ∷ asked (wide 9 Ready) (over 2 most ++ (1 ∷ 1 ∷ [])) 1 16
    ∷ asked (wide 8 Ready) (over 2 most) 1 8
    ∷ asked (wide 8 Ready) (over 1 most) 1 15
    ∷ asked (wide 8 Ready) (over 1 most) 0 0
    ∷ asked (wide 8 Ready) (over 1 (254 ∷ replicate 7 255)) 2 15
    ∷ asked (wide 8 Ready) (over 1 (254 ∷ replicate 7 255)) 1 0
    ∷ asked (wide 8 Ready) (over 1 (replicate 8 0)) 18446744073709551615 0
    ∷ asked (wide 8 Ready) (over 1 (1 ∷ replicate 7 0)) 18446744073709551615 15
    ∷ []

abbrev pub EveryAsking : Type 0
EveryAsking =
    map (λ (r : Asked). (calls.ride r.device r.image r.turns).number) askings ≡ map (λ (r : Asked). r.number) askings

-- ---- What an accepted ride begins: a write of unit 0, with the sum and zeros after it. The total is copy A's, and no byte is stored.
abbrev begun : List ℕ → ℕ → Outcome
begun a turns = calls.ride (wide 8 Ready) (over 1 a) turns

abbrev pub EveryRide : Type 0
EveryRide =
    (begun (255 ∷ 255 ∷ replicate 6 0) 1
    ≡ record {
      number = 0;
      device = record {
        plan = planned 2 (8 ∷ 1 ∷ replicate 6 0);
        payload = 0 ∷ 0 ∷ 1 ∷ replicate 253 0;
        phase = Writing 0 0;
        stores = 5;
      };
      image = over 1 (255 ∷ 255 ∷ replicate 6 0);
    })
    × (take 9 (begun (replicate 8 0) 300).device.payload ≡ 44 ∷ 1 ∷ replicate 7 0)
    × (take 9 (begun (200 ∷ replicate 7 0) 100).device.payload ≡ 44 ∷ 1 ∷ replicate 7 0)
    × (take 9 (begun (replicate 8 255) 0).device.payload ≡ replicate 8 255 ++ (0 ∷ []))

-- ---- A total shown: a device, an image, a unit, and what it comes to.
abbrev told : ℕ → ℕ → Total
told n a = record { number = n; amount = a }

abbrev pub EveryTotal : Type 0
EveryTotal =
    calls.total_of (wide 8 Ready) (over 1 (44 ∷ 1 ∷ replicate 6 0)) Service 0
    ∷ calls.total_of (wide 8 Ready) (over 1 most) Service 0
    ∷ calls.total_of (wide 8 Ready) (over 1 most) Service 1
    ∷ calls.total_of (wide 8 Ready) (over 2 most) Service 1
    ∷ calls.total_of (wide 8 Ready) (over 2 most) Service 2
    ∷ calls.total_of (wide 8 Cold) (over 1 most) Service 2
    ∷ []
    ≡ told 0 300 ∷ told 0 18446744073709551615 ∷ told 16 0 ∷ told 8 0 ∷ told 6 0 ∷ told 5 0 ∷ []

-- ---- Lists of rides from a formatted device of widths 8 and 1, each closed by a cut: the steps of the repair, and the turns that
-- both the ledger's sum and copy A come to.
pub record Ridden : Type 0 where
  pub calls : List Call
  pub steps : ℕ
  pub sum : ℕ
  pub total : ℕ

abbrev plan81 : Plan
plan81 = planned 2 (8 ∷ 1 ∷ replicate 6 0)

abbrev ridden : List Call → ℕ → ℕ → Ridden
ridden cs steps turns = record { calls = cs; steps = steps; sum = turns; total = turns }

abbrev tallied : Ridden → Ridden
tallied r =
    let left : Outcome = run (repair r.steps) (run r.calls (calls.format (calls.start plan81).device (replicate 20 7))) in
    record {
      calls = r.calls;
      steps = r.steps;
      sum = turns_over plan81 r.calls;
      total = amount (copy_of plan81 left.image 0 copy_a);
    }

-- a ride with n of its stores made, and then more
abbrev after : ℕ → ℕ → List Call → List Call
after turns n more = ride turns ∷ replicate n step ++ more

abbrev pub tallies : List Ridden
tallies =
    -- cut before its store w + 2, at it and leaving 2, at it and leaving 6, and after it
    ridden (after 300 8 (cut_one 0 ∷ [])) 9 0
    ∷ ridden (after 300 9 (cut_one 0 ∷ [])) 9 0
    ∷ ridden (after 300 9 (cut_one 4 ∷ [])) 9 300
    ∷ ridden (after 300 10 (cut_one 0 ∷ [])) 9 300
    -- a ride that passed, a write of unit 1, and one that did not pass; a ride is refused while one is written
    ∷ ridden (after 300 19 (begin Service 1 (3 ∷ []) ∷ replicate 5 step ++ after 7 3 (ride 9 ∷ cut_one 0 ∷ []))) 9 300
    -- two rides, the second after a cut and its repair
    ∷ ridden (after 300 12 (cut_one 0 ∷ wake ∷ replicate 9 step ++ after 500 19 (cut_one 0 ∷ []))) 0 800
    -- a sum of 65 bits is refused, and adds nothing
    ∷ ridden (after 18446744073709551615 19 (after 1 19 (cut_one 0 ∷ []))) 0 18446744073709551615
    ∷ []

abbrev pub EveryTally : Type 0
EveryTally = map tallied tallies ≡ tallies
