-- WHEN A CALL IS REFUSED, and by which number: document 01, 'Refusals', as conditions on the plan, the device, the image and the
-- call's arguments. It is proved in proofs/Refuses.antt that each call answers the number that is tested first of those whose
-- condition holds, and 0 exactly if none does. What a refused call leaves is in specs/Demands.antt.
use Rattle.std.specs.Prelude.{ℕ, ◌+◌, ◌*◌, ◌≤◌, ◌<◌, true, false, cond, eqb, ◌≡◌, List, length}
use Rattle.model.specs.declared.Plan.{Plan}
use Rattle.model.specs.declared.Role.{Role}
use Rattle.model.specs.declared.Direction.{Direction}
use Rattle.model.specs.declared.Phase.TheVariants.{Cold, Ready, Writing, Recovering, Grouping}
use Rattle.model.specs.Layout.{marker, width, total}
use Rattle.model.specs.Groups.{Write}
use Rattle.model.specs.Prices.{price}
use Rattle.model.specs.Records.{IsGroup, Has, IsLast, Overlaps, Narrow, Gives, WriteOf}
use Rattle.model.specs.Refusals.{read_number, inspect_number, total_number}
use Rattle.model.specs.Calls.{Device, view}
use Rattle.model.specs.Calls as calls
use Rattle.model.specs.Demands.{at, held, MaySee, MayWrite}

-- "a refusal is given only when its condition holds", and of those whose conditions hold, the one that is tested first
pub record First (order : ℕ → ℕ) (Applies : ℕ → Type 0) (n : ℕ) : Type 0 where
  pub given : ¬ (n ≡ 0) → Applies n
  pub first : (k : ℕ) → Applies k → (1 ≤ order n) × (order n ≤ order k)

-- "0 is accepted. The lowest number that applies is given." Ticket 9: "17 for another page size, tested after 2; 18 for a cut of other
-- than p bytes, tested after 4". Ticket 10: 19, 20 and 21 are "all after 6, in this order, and then 8". Ticket 11: 22 is "tested after 6
-- and any group check". So they stand between 20 and 30, between 40 and 50, and between 60 and 70.
abbrev pub refusal_order : ℕ → ℕ
refusal_order n =
    cond (eqb n 17) 25 (cond (eqb n 18) 45 (cond (eqb n 19) 61 (cond (eqb n 20) 62 (cond (eqb n 21) 63 (cond (eqb n 22) 64 (10 * n))))))

abbrev pub Lowest : (ℕ → Type 0) → ℕ → Type 0
Lowest Applies n = First refusal_order Applies n

-- "The plan's author": 1 and 2, and another page size
pub data BadPlan (p : Plan) : ℕ → Type 0 where
  no_unit : p.count ≡ 0 → BadPlan p 1
  many_units : 8 < p.count → BadPlan p 1
  no_width : (u : ℕ) → u < p.count → width p u ≡ 0 → BadPlan p 2
  wide : (u : ℕ) → u < p.count → 256 < width p u → BadPlan p 2
  other_page : ¬ (p.page ≡ 1) → ¬ (p.page ≡ 4) → ¬ (p.page ≡ 8) → ¬ (p.page ≡ 16) → BadPlan p 17

abbrev pub GoodPlan : Plan → Type 0
GoodPlan p = (n : ℕ) → ¬ BadPlan p n

-- "The firmware": 3 and 4, which every call with an image has
pub data BadDevice (d : Device) (image : List ℕ) : ℕ → Type 0 where
  plan : {n : ℕ} → BadPlan d.plan n → BadDevice d image n
  short : length image < total d.plan → BadDevice d image 3
  -- "a phase whose unit is k or more, or whose stores made are not below the job's total"
  writing_no_unit : (u made : ℕ) → d.phase ≡ Writing u made → d.plan.count ≤ u → BadDevice d image 4
  writing_made : (u made : ℕ) → d.phase ≡ Writing u made → 2 * width d.plan u + 3 ≤ made → BadDevice d image 4
  cleaning_no_unit : (u made : ℕ) (way : Direction) → d.phase ≡ Recovering u made way → d.plan.count ≤ u
      → BadDevice d image 4
  cleaning_made : (u made : ℕ) (way : Direction) → d.phase ≡ Recovering u made way → width d.plan u + 1 ≤ made
      → BadDevice d image 4
  -- Ticket 10: "4 also refuses one on an ungrouped device, past its last write or with a payload that no such group gives". What a
  -- group gives is asked of a good plan: over another 1, 2 or 17 comes first
  grouping_alone : (i made : ℕ) → d.phase ≡ Grouping i made → d.plan.grouped ≡ false → BadDevice d image 4
  grouping_none : (i made : ℕ) → GoodPlan d.plan → d.phase ≡ Grouping i made
      → ((g : List ℕ) (ms : List Write) → ¬ Gives d.plan d.payload g ms) → BadDevice d image 4
  grouping_past : (i made : ℕ) (g : List ℕ) (ms : List Write) → GoodPlan d.plan → d.phase ≡ Grouping i made
      → Gives d.plan d.payload g ms → 2 + length ms ≤ i → BadDevice d image 4
  grouping_made : (i made u : ℕ) (g bytes : List ℕ) (ms : List Write) → GoodPlan d.plan → d.phase ≡ Grouping i made
      → Gives d.plan d.payload g ms → WriteOf d.plan d.payload ms i u bytes → 2 * width d.plan u + 3 ≤ made
      → BadDevice d image 4

-- "18 for a cut of other than p bytes"
pub data BadCut (d : Device) (image : List ℕ) (bytes : List ℕ) : ℕ → Type 0 where
  device : {n : ℕ} → BadDevice d image n → BadCut d image bytes n
  other_size : ¬ (length bytes ≡ d.plan.page) → BadCut d image bytes 18

-- "5 wrong phase": format outside Cold
pub data BadFormat (d : Device) (image : List ℕ) : ℕ → Type 0 where
  device : {n : ℕ} → BadDevice d image n → BadFormat d image n
  phase : ¬ (d.phase ≡ Cold) → BadFormat d image 5

-- wake outside Cold; Ticket 4: "14 when any unit's marker is foreign", 8 or above
pub data BadWake (d : Device) (image : List ℕ) : ℕ → Type 0 where
  device : {n : ℕ} → BadDevice d image n → BadWake d image n
  phase : ¬ (d.phase ≡ Cold) → BadWake d image 5
  foreign : (u : ℕ) → u < d.plan.count → 8 ≤ at d.plan image u marker → BadWake d image 14

-- "step in Cold or Ready"
pub data BadStep (d : Device) (image : List ℕ) : ℕ → Type 0 where
  device : {n : ℕ} → BadDevice d image n → BadStep d image n
  cold : d.phase ≡ Cold → BadStep d image 5
  ready : d.phase ≡ Ready → BadStep d image 5

-- "begin and read outside Ready"; "6 unit k or more"; "8 that unit's marker isn't 1"; "22 when the right is lacking": read wants see
pub data BadRead (d : Device) (image : List ℕ) (role : Role) (u : ℕ) : ℕ → Type 0 where
  device : {n : ℕ} → BadDevice d image n → BadRead d image role u n
  phase : ¬ (d.phase ≡ Ready) → BadRead d image role u 5
  unit : d.plan.count ≤ u → BadRead d image role u 6
  hidden : ¬ MaySee d.plan.rights role u → BadRead d image role u 22
  mark : ¬ (at d.plan image u marker ≡ 1) → BadRead d image role u 8

-- "7 payload length not w (begin)"; Ticket 10: the group record "takes no ordinary begin"; begin wants see and write
pub data BadBegin (d : Device) (image : List ℕ) (role : Role) (u : ℕ) (payload : List ℕ) : ℕ → Type 0 where
  as_read : {n : ℕ} → BadRead d image role u n → BadBegin d image role u payload n
  size : ¬ (length payload ≡ width d.plan u) → BadBegin d image role u payload 7
  the_record : d.plan.grouped ≡ true → IsLast d.plan u → BadBegin d image role u payload 20
  unwritable : ¬ MayWrite d.plan.rights role u → BadBegin d image role u payload 22

-- Ticket 7: "15 if the sum exceeds 64 bits, tested after 8; 16 if unit 0's width isn't 8, tested after 5"
pub data BadRide (d : Device) (image : List ℕ) (turns : ℕ) : ℕ → Type 0 where
  device : {n : ℕ} → BadDevice d image n → BadRide d image turns n
  phase : ¬ (d.phase ≡ Ready) → BadRide d image turns 5
  other_width : ¬ (width d.plan 0 ≡ 8) → BadRide d image turns 16
  mark : ¬ (at d.plan image 0 marker ≡ 1) → BadRide d image turns 8
  large : 18446744073709551616 ≤ held d.plan image 0 + turns → BadRide d image turns 15
  the_record : d.plan.grouped ≡ true → IsLast d.plan 0 → BadRide d image turns 20

-- Ticket 12: "Unit 1 absent or of another width is 16, too many cents 15."; 20, 21 and 8 as of a group of units 0 and 1, whose record is
-- 19 bytes: the member count, and twice a unit and its eight bytes
pub data BadPaid (d : Device) (image : List ℕ) (turns : ℕ) : ℕ → Type 0 where
  device : {n : ℕ} → BadDevice d image n → BadPaid d image turns n
  phase : ¬ (d.phase ≡ Ready) → BadPaid d image turns 5
  absent : d.plan.count ≤ 1 → BadPaid d image turns 16
  other_turns : ¬ (width d.plan 0 ≡ 8) → BadPaid d image turns 16
  other_cents : ¬ (width d.plan 1 ≡ 8) → BadPaid d image turns 16
  the_record : d.plan.grouped ≡ true → IsLast d.plan 1 → BadPaid d image turns 20
  no_record : d.plan.grouped ≡ false → BadPaid d image turns 21
  narrow : (r : ℕ) → IsLast d.plan r → width d.plan r < 19 → BadPaid d image turns 21
  record_mark : (r : ℕ) → IsLast d.plan r → ¬ (at d.plan image r marker ≡ 1) → BadPaid d image turns 8
  turns_mark : ¬ (at d.plan image 0 marker ≡ 1) → BadPaid d image turns 8
  cents_mark : ¬ (at d.plan image 1 marker ≡ 1) → BadPaid d image turns 8
  many_turns : 18446744073709551616 ≤ held d.plan image 0 + turns → BadPaid d image turns 15
  many_cents : 18446744073709551616 ≤ held d.plan image 1 + price turns → BadPaid d image turns 15

abbrev pub ride_order : ℕ → ℕ
ride_order n = cond (eqb n 16) 55 (refusal_order n)

-- Ticket 10: "in Ready only (else 5)"; "19 for bytes that don't split into 2 to 4 members with units below k; 20 for a unit twice or the
-- record itself ..; 21 if there is no record or it is too narrow; .. and then 8 for the record or a member"
pub data BadGroup (d : Device) (image g : List ℕ) : ℕ → Type 0 where
  device : {n : ℕ} → BadDevice d image n → BadGroup d image g n
  phase : ¬ (d.phase ≡ Ready) → BadGroup d image g 5
  unsplit : ((ms : List Write) → ¬ IsGroup d.plan g ms) → BadGroup d image g 19
  overlaps : (ms : List Write) → IsGroup d.plan g ms → Overlaps d.plan ms → BadGroup d image g 20
  narrow : Narrow d.plan g → BadGroup d image g 21
  record_mark : (r : ℕ) → IsLast d.plan r → ¬ (at d.plan image r marker ≡ 1) → BadGroup d image g 8
  member_mark : (ms : List Write) (u : ℕ) → IsGroup d.plan g ms → Has u ms → ¬ (at d.plan image u marker ≡ 1)
      → BadGroup d image g 8

-- a unit's total as a number: refused as read is, and last where the unit is not eight bytes wide
pub data BadTotal (d : Device) (image : List ℕ) (role : Role) (u : ℕ) : ℕ → Type 0 where
  as_read : {n : ℕ} → BadRead d image role u n → BadTotal d image role u n
  other_width : ¬ (width d.plan u ≡ 8) → BadTotal d image role u 16

-- ---- Every call's number, of every device, image and argument. "Cut and inspect give 1 to 4.", and a cut 18.
pub record Refuses (d : Device) (image : List ℕ) : Type 0 where
  pub start : Lowest (BadPlan d.plan) (calls.start d.plan).number
  pub format : Lowest (BadFormat d image) (calls.format d image).number
  pub begin : (role : Role) (u : ℕ) (payload : List ℕ)
      → Lowest (BadBegin d image role u payload) (calls.begin d image role u payload).number
  pub ride : (turns : ℕ) → First ride_order (BadRide d image turns) (calls.ride d image turns).number
  pub group : (g : List ℕ) → Lowest (BadGroup d image g) (calls.group d image g).number
  pub paid : (turns : ℕ) → First ride_order (BadPaid d image turns) (calls.paid_ride d image turns).number
  pub step : Lowest (BadStep d image) (calls.step d image).number
  pub wake : Lowest (BadWake d image) (calls.wake d image).number
  pub cut : (bytes : List ℕ) → Lowest (BadCut d image bytes) (calls.cut d image bytes).number
  pub read : (role : Role) (u : ℕ) → Lowest (BadRead d image role u) (read_number (view d image) role u)
  pub total : (role : Role) (u : ℕ) → Lowest (BadTotal d image role u) (total_number (view d image) role u)
  pub inspect : Lowest (BadDevice d image) (inspect_number (view d image))

abbrev pub RefusedExactly : Type 0
RefusedExactly = (d : Device) (image : List ℕ) → Refuses d image
