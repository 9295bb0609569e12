-- DEMANDS 1 AND 2 of document 01, as statements over the calls themselves, for any device and any image. They are proved in
-- proofs/Demands.antt; demand 3 is specs/PowerCut.antt.
--
-- 1. A refused call gives back the device and every byte as they came. An accepted one changes the bytes named here and no other.
-- 2. A step stores the byte that the mirroring rules put next; a read shows copy A; inspect names the lowest unit in need of
--    repair exactly if there is one; the drive follows its rule at every level.
--
-- The numbers stand here as the document has them, and not by a definition's name, so that a definition that says another
-- number does not meet them.
use Rattle.std.specs.Prelude.{ℕ, zero, suc, ◌+◌, ◌*◌, ◌/◌, ◌%◌, ◌≤◌, ◌<◌, ◌≡◌, List, [], ◌∷◌, ◌++◌, false, cond, eqb, length, get_or, replicate}
use Rattle.model.specs.declared.Plan.{Plan}
use Rattle.model.specs.declared.Rights.{Rights}
use Rattle.model.specs.declared.Role.{Role}
use Rattle.model.specs.declared.Role.TheVariants.{Rider, Gym, Service}
use Rattle.model.specs.declared.Direction.{Direction}
use Rattle.model.specs.declared.Direction.TheVariants.{AToB, BToA}
use Rattle.model.specs.declared.Phase.{Phase}
use Rattle.model.specs.declared.Phase.TheVariants.{Cold, Ready, Writing, Recovering, Grouping}
use Rattle.model.specs.declared.Inspection.{Inspection}
use Rattle.model.specs.declared.Inspection.TheVariants.{Refused, Suspect, AllOk}
use Rattle.model.specs.Layout.{Copy, copy_a, copy_b, Cell, marker, byte, width, copy_length, base, total, place}
use Rattle.model.specs.Refusals.{read_number, inspect_number, total_number}
use Rattle.model.specs.Calls.{Device, Answer, Outcome, outcome, view, Total}
use Rattle.model.specs.Calls as calls
use Rattle.model.specs.Groups.{Write}
use Rattle.model.specs.Prices.{price}
use Rattle.model.specs.Records.{IsLast, Gives, WriteOf}
use Rattle.model.specs.Drive.{drive_number, drive}

-- ---- Where things lie. Ticket 9: "rounded up to whole pages": n bytes are so many pages, which hold w bytes, and one page less
-- would not.
pub record Rounded (page w n : ℕ) : Type 0 where
  pub pages : ℕ
  pub whole : n ≡ pages * page
  pub holds : w ≤ n
  pub least : n < w + page

-- "Units lie one after another from image byte 0. A unit is its marker, copy A of w bytes, copy B of w bytes"; and "all units
-- together". Ticket 9: "A marker takes a page of its own, in its first byte; each copy is rounded up to whole pages."
pub record Lies (p : Plan) : Type 0 where
  pub copies : 0 < p.page → (u : ℕ) → Rounded p.page (width p u) (copy_length p u)
  pub first : base p 0 ≡ 0
  pub next : (u : ℕ) → base p (suc u) ≡ base p u + (p.page + 2 * copy_length p u)
  pub at_marker : (u : ℕ) → place p u marker ≡ base p u
  pub at_a : (u i : ℕ) → place p u (byte copy_a i) ≡ base p u + (p.page + i)
  pub at_b : (u i : ℕ) → place p u (byte copy_b i) ≡ base p u + (p.page + copy_length p u + i)
  pub all : total p ≡ base p p.count

-- what stands in a cell of the image
abbrev pub at : Plan → List ℕ → ℕ → Cell → ℕ
at p image u c = get_or image (place p u c) 0

-- ---- What the table of rights says. Ticket 11: it "gives each role, per unit: nothing, see, or see and write", which are 0, 1 and 2;
-- any other number is nothing too.
abbrev pub granted : Rights → Role → ℕ → ℕ
granted rights Rider u = get_or rights.rider u 0
granted rights Gym u = get_or rights.gym u 0
granted rights Service u = get_or rights.service u 0

pub data MaySee (rights : Rights) (role : Role) (u : ℕ) : Type 0 where
  sees : granted rights role u ≡ 1 → MaySee rights role u
  writes_too : granted rights role u ≡ 2 → MaySee rights role u

abbrev pub MayWrite : Rights → Role → ℕ → Type 0
MayWrite rights role u = granted rights role u ≡ 2

-- ---- A call on a device and an image. Accepted, its outcome is as P says; refused, "a refusal returns the device it got and
-- changes no lent byte".
pub record Does (P : Outcome → Type 0) (d : Device) (image : List ℕ) (o : Outcome) : Type 0 where
  pub accepted : o.number ≡ 0 → P o
  pub refused : ¬ (o.number ≡ 0) → o ≡ outcome o.number d image

-- "start's refusal returns k = 0, all widths 0, Cold, zero payload"; Ticket 9: "p = 1, as in a refused start"; Ticket 10: "a
-- refused start isn't" grouped; Ticket 11: "all nothing if refused". Accepted, it "keeps the plan as given".
pub record Starts (p : Plan) (a : Answer) : Type 0 where
  pub kept : a.number ≡ 0 → a.device.plan ≡ p
  pub count : ¬ (a.number ≡ 0) → a.device.plan.count ≡ 0
  pub widths : ¬ (a.number ≡ 0) → a.device.plan.widths ≡ replicate 8 0
  pub page : ¬ (a.number ≡ 0) → a.device.plan.page ≡ 1
  pub ungrouped : ¬ (a.number ≡ 0) → a.device.plan.grouped ≡ false
  pub rightless : ¬ (a.number ≡ 0) → (role : Role) (u : ℕ) → granted a.device.plan.rights role u ≡ 0
  pub phase : a.device.phase ≡ Cold
  pub payload : a.device.payload ≡ replicate 256 0
  pub stores : a.device.stores ≡ 0

-- ---- An accepted call.
-- image' is image but for the byte at a place, which is x
pub record OneByte (image image' : List ℕ) (q x : ℕ) : Type 0 where
  pub inside : q < length image
  pub size : length image' ≡ length image
  pub changed : get_or image' q 0 ≡ x
  pub others : (i : ℕ) → ¬ (i ≡ q) → get_or image' i 0 ≡ get_or image i 0

-- "zeros in all units, every marker 1, payload zero, phase Ready"; Ticket 9: "Format sets the filler to zero"; "Bytes after them are
-- never changed."
pub record Formats (d : Device) (image : List ℕ) (o : Outcome) : Type 0 where
  pub plan : o.device.plan ≡ d.plan
  pub payload : o.device.payload ≡ replicate 256 0
  pub phase : o.device.phase ≡ Ready
  pub stores : o.device.stores ≡ 0
  pub markers : (u : ℕ) → u < d.plan.count → at d.plan o.image u marker ≡ 1
  pub zeros : (i : ℕ) → i < total d.plan → ((u : ℕ) → u < d.plan.count → ¬ (i ≡ base d.plan u)) → get_or o.image i 0 ≡ 0
  pub others : (i : ℕ) → total d.plan ≤ i → get_or o.image i 0 ≡ get_or image i 0
  pub size : length o.image ≡ length image

-- "stores nothing; the payload goes into the device, zeros after it; phase Writing, 0 made"
pub record Begins (d : Device) (image : List ℕ) (u : ℕ) (payload : List ℕ) (o : Outcome) : Type 0 where
  pub plan : o.device.plan ≡ d.plan
  pub phase : o.device.phase ≡ Writing u 0
  pub stores : o.device.stores ≡ d.stores
  pub size : length o.device.payload ≡ 256
  pub held : (i : ℕ) → i < length payload → get_or o.device.payload i 0 ≡ get_or payload i 0
  pub zeros : (i : ℕ) → length payload ≤ i → get_or o.device.payload i 0 ≡ 0
  pub image' : o.image ≡ image

-- Ticket 7: "lowest byte first": n bytes as a number
unfoldable pub lowest_first : ℕ → (ℕ → ℕ) → ℕ
lowest_first zero bytes = 0
lowest_first (suc n) bytes = bytes 0 + 256 * lowest_first n (λ i. bytes (suc i))

-- what copy A of a unit holds
abbrev pub held : Plan → List ℕ → ℕ → ℕ
held p image u = lowest_first (width p u) (λ i. at p image u (byte copy_a i))

-- "begins a write of total plus turns", of unit 0; the total is "taken from copy A"
pub record Rides (d : Device) (image : List ℕ) (turns : ℕ) (o : Outcome) : Type 0 where
  pub bytes : List ℕ
  pub begins : Begins d image 0 bytes o
  pub size : length bytes ≡ 8
  pub small : (i : ℕ) → i < 8 → get_or bytes i 0 < 256
  pub sum : lowest_first 8 (λ i. get_or bytes i 0) ≡ held d.plan image 0 + turns

-- Ticket 10: a group begins with the write of its record; "the payload being the record, zeros after it"
pub record Groups (d : Device) (image : List ℕ) (g : List ℕ) (o : Outcome) : Type 0 where
  pub plan : o.device.plan ≡ d.plan
  pub phase : o.device.phase ≡ Grouping 0 0
  pub stores : o.device.stores ≡ d.stores
  pub ms : List Write
  pub gives : Gives d.plan o.device.payload g ms
  pub image' : o.image ≡ image

-- Ticket 12: "a paid ride saves both as one group, turns first": unit 0 with total plus turns, unit 1 with cents plus price
pub record Pays (d : Device) (image : List ℕ) (turns : ℕ) (o : Outcome) : Type 0 where
  pub total : List ℕ
  pub cents : List ℕ
  pub groups : Groups d image (0 ∷ (total ++ (1 ∷ cents))) o
  pub sizes : (length total ≡ 8) × (length cents ≡ 8)
  pub small : (i : ℕ) → i < 8 → (get_or total i 0 < 256) × (get_or cents i 0 < 256)
  pub turns_sum : lowest_first 8 (λ i. get_or total i 0) ≡ held d.plan image 0 + turns
  pub cents_sum : lowest_first 8 (λ i. get_or cents i 0) ≡ held d.plan image 1 + price turns

-- ---- The store that comes next, by the number of stores made.
-- "marker 2; A's bytes 0 to w-1 from the payload; marker 4; B's bytes 0 to w-1 from the payload; marker 1"
pub data WriteStore (w : ℕ) (payload : List ℕ) (made : ℕ) : Cell → ℕ → Type 0 where
  marker_a : made ≡ 0 → WriteStore w payload made marker 2
  to_a : (i : ℕ) → i < w → made ≡ 1 + i → WriteStore w payload made (byte copy_a i) (get_or payload i 0)
  marker_b : made ≡ w + 1 → WriteStore w payload made marker 4
  to_b : (i : ℕ) → i < w → made ≡ w + 2 + i → WriteStore w payload made (byte copy_b i) (get_or payload i 0)
  marker_ok : made ≡ 2 * w + 2 → WriteStore w payload made marker 1

-- "Bytes 0 to w-1 go in order, each read from the good copy at that step; then marker 1."
pub data CleanupStore (p : Plan) (image : List ℕ) (u made : ℕ) : Direction → Cell → ℕ → Type 0 where
  to_b : made < width p u → CleanupStore p image u made AToB (byte copy_b made) (at p image u (byte copy_a made))
  to_a : made < width p u → CleanupStore p image u made BToA (byte copy_a made) (at p image u (byte copy_b made))
  marker_ok : (d : Direction) → made ≡ width p u → CleanupStore p image u made d marker 1

-- Ticket 10: "Steps write the record, then each member in order, then a record of zeros."; "A group phase .. holds the write it is at and
-- the stores made there"
pub data NextStore (p : Plan) (payload image : List ℕ) : Phase → ℕ → Cell → ℕ → Type 0 where
  of_write : (u made : ℕ) (c : Cell) (x : ℕ) → WriteStore (width p u) payload made c x
      → NextStore p payload image (Writing u made) u c x
  of_cleanup : (u made : ℕ) (d : Direction) (c : Cell) (x : ℕ) → CleanupStore p image u made d c x
      → NextStore p payload image (Recovering u made d) u c x
  of_group : (g bytes : List ℕ) (ms : List Write) (i made u : ℕ) (c : Cell) (x : ℕ) → Gives p payload g ms → WriteOf p payload ms i u bytes
      → WriteStore (width p u) bytes made c x → NextStore p payload image (Grouping i made) u c x

-- ---- The cleanup that begins. "A copies B to A; B and X copy A to B."
pub data Way (m : ℕ) : Direction → Type 0 where
  from_b : m ≡ 2 → Way m BToA
  from_a : ¬ (m ≡ 2) → Way m AToB

-- the markers of the units from `first` on are 1
abbrev pub AllFrom : Plan → List ℕ → ℕ → Type 0
AllFrom p image first = (v : ℕ) → first ≤ v → v < p.count → at p image v marker ≡ 1

-- Ticket 10: "goes on, by steps, to write the members of a standing record again and clears it"; Ticket 7: "a unit's total or record is
-- taken from copy A": a payload that a group gives and whose first bytes are copy A of the last unit
pub record Stands (p : Plan) (image payload : List ℕ) : Type 0 where
  pub g : List ℕ
  pub ms : List Write
  pub gives : Gives p payload g ms
  pub r : ℕ
  pub is_last : IsLast p r
  pub same : (i : ℕ) → i < width p r → get_or payload i 0 ≡ at p image r (byte copy_a i)

-- "the cleanup of the lowest unit whose marker isn't 1, or Ready", among the units from `first` on; "begins with 0 made". "a record that no
-- group passing 19 to 21 gives is passed over". The device's payload is then `held`.
pub data Cleans (p : Plan) (image payload : List ℕ) (first : ℕ) : Phase → List ℕ → Type 0 where
  none : AllFrom p image first → ((held : List ℕ) → ¬ Stands p image held) → Cleans p image payload first Ready payload
  goes_on : (held : List ℕ) → AllFrom p image first → Stands p image held → Cleans p image payload first (Grouping 1 0) held
  lowest : (u : ℕ) (d : Direction) → first ≤ u → u < p.count
      → ¬ (at p image u marker ≡ 1)
      → ((v : ℕ) → first ≤ v → v < u → at p image v marker ≡ 1)
      → Way (at p image u marker) d
      → Cleans p image payload first (Recovering u 0 d) payload

-- "adds 1. After a write's last store the phase is Ready. After a cleanup's last, it is the cleanup of the next higher unit
-- whose marker isn't 1, or Ready." "The payload stays.", but where a cleanup goes on to a record. The last write of a group is the
-- one after its members.
pub data PhaseAfter (p : Plan) (image' payload : List ℕ) : Phase → Phase → List ℕ → Type 0 where
  writing : (u made : ℕ) → suc made < 2 * width p u + 3 → PhaseAfter p image' payload (Writing u made) (Writing u (suc made)) payload
  written : (u made : ℕ) → suc made ≡ 2 * width p u + 3 → PhaseAfter p image' payload (Writing u made) Ready payload
  cleaning : (u made : ℕ) (d : Direction) → suc made < width p u + 1
      → PhaseAfter p image' payload (Recovering u made d) (Recovering u (suc made) d) payload
  cleaned : (u made : ℕ) (d : Direction) (next : Phase) (held : List ℕ) → suc made ≡ width p u + 1
      → Cleans p image' payload (suc u) next held → PhaseAfter p image' payload (Recovering u made d) next held
  grouping : (g bytes : List ℕ) (ms : List Write) (i made u : ℕ) → Gives p payload g ms → WriteOf p payload ms i u bytes
      → suc made < 2 * width p u + 3 → PhaseAfter p image' payload (Grouping i made) (Grouping i (suc made)) payload
  onward : (g bytes : List ℕ) (ms : List Write) (i made u : ℕ) → Gives p payload g ms → WriteOf p payload ms i u bytes
      → suc made ≡ 2 * width p u + 3 → i ≤ length ms → PhaseAfter p image' payload (Grouping i made) (Grouping (suc i) 0) payload
  grouped : (g bytes : List ℕ) (ms : List Write) (made u : ℕ) → Gives p payload g ms → WriteOf p payload ms (suc (length ms)) u bytes
      → suc made ≡ 2 * width p u + 3 → PhaseAfter p image' payload (Grouping (suc (length ms)) made) Ready payload

-- Ticket 5: "each completed step adds 1, and it holds at 4,294,967,295"
pub data Counts (n : ℕ) : ℕ → Type 0 where
  more : n < 4294967295 → Counts n (suc n)
  most : 4294967295 ≤ n → Counts n n

-- "makes the next store and adds 1"
pub record Steps (d : Device) (image : List ℕ) (o : Outcome) : Type 0 where
  pub unit : ℕ
  pub cell : Cell
  pub value : ℕ
  pub store : NextStore d.plan d.payload image d.phase unit cell value
  pub image' : OneByte image o.image (place d.plan unit cell) value
  pub plan : o.device.plan ≡ d.plan
  pub phase : PhaseAfter d.plan o.image d.payload d.phase o.device.phase o.device.payload
  pub stores : Counts d.stores o.device.stores

-- "stores nothing; the cleanup of the lowest unit whose marker isn't 1, or Ready"
pub record Wakes (d : Device) (image : List ℕ) (o : Outcome) : Type 0 where
  pub plan : o.device.plan ≡ d.plan
  pub phase : Cleans d.plan image d.payload 0 o.device.phase o.device.payload
  pub stores : o.device.stores ≡ d.stores
  pub image' : o.image ≡ image

-- ---- A power cut. Bit k of a byte, the lowest first:
unfoldable pub bit : ℕ → ℕ → ℕ
bit zero x = x % 2
bit (suc k) x = bit k (x / 2)

-- "A torn marker takes each bit from the new code where m has a 1 and from the old marker where m has a 0."
pub record Mixed (m old new left : ℕ) : Type 0 where
  pub small : left < 256
  pub bits : (k : ℕ) → k < 8 → bit k left ≡ cond (eqb (bit k m) 1) (bit k new) (bit k old)

-- Ticket 9: "one for each byte of the torn page: data and filler become the given byte, a torn marker keeps the bit rule": byte i of
-- the page around the cell that was to be stored
pub data Torn (bytes : List ℕ) (old new : ℕ) : Cell → ℕ → ℕ → Type 0 where
  of_data : (c : Copy) (j i : ℕ) → Torn bytes old new (byte c j) i (get_or bytes i 0)
  of_marker : (left : ℕ) → Mixed (get_or bytes 0 0) old new left → Torn bytes old new marker 0 left
  by_marker : (i : ℕ) → Torn bytes old new marker (suc i) (get_or bytes (suc i) 0)

-- "in Writing or Recovering it tears the next store"; Ticket 10: "A group phase, torn by cut as Writing is"; "the page around the byte it
-- is storing": the page number n of the image. "No other byte is touched."
pub record Tears (d : Device) (image : List ℕ) (bytes image' : List ℕ) : Type 0 where
  pub unit : ℕ
  pub cell : Cell
  pub value : ℕ
  pub store : NextStore d.plan d.payload image d.phase unit cell value
  pub n : ℕ
  pub around : (n * d.plan.page ≤ place d.plan unit cell) × (place d.plan unit cell < suc n * d.plan.page)
  pub inside : suc n * d.plan.page ≤ length image
  pub torn : (i : ℕ) → i < d.plan.page
      → Torn bytes (at d.plan image unit cell) value cell i (get_or image' (n * d.plan.page + i) 0)
  pub before : (i : ℕ) → i < n * d.plan.page → get_or image' i 0 ≡ get_or image i 0
  pub behind : (i : ℕ) → suc n * d.plan.page ≤ i → get_or image' i 0 ≡ get_or image i 0
  pub size : length image' ≡ length image

-- "in Cold and Ready it stores nothing"
abbrev pub CutImage : Phase → Device → List ℕ → List ℕ → List ℕ → Type 0
CutImage Cold d image bytes image' = image' ≡ image
CutImage Ready d image bytes image' = image' ≡ image
CutImage (Writing u made) d image bytes image' = Tears d image bytes image'
CutImage (Recovering u made w) d image bytes image' = Tears d image bytes image'
CutImage (Grouping i made) d image bytes image' = Tears d image bytes image'

-- "The device is then Cold with a zero payload." Ticket 5: "cut keeps the number"
pub record Cuts (d : Device) (image : List ℕ) (bytes : List ℕ) (o : Outcome) : Type 0 where
  pub plan : o.device.plan ≡ d.plan
  pub payload : o.device.payload ≡ replicate 256 0
  pub phase : o.device.phase ≡ Cold
  pub stores : o.device.stores ≡ d.stores
  pub image' : CutImage d.phase d image bytes o.image

-- ---- Looking: neither hands an image back, so neither changes a byte.
-- "the part of the lent image that is copy A"; "an empty part when refused"
pub record Reads (d : Device) (image : List ℕ) (role : Role) (u : ℕ) (part : List ℕ) : Type 0 where
  pub refused : ¬ (read_number (view d image) role u ≡ 0) → part ≡ []
  pub size : read_number (view d image) role u ≡ 0 → length part ≡ width d.plan u
  pub bytes : read_number (view d image) role u ≡ 0
      → (i : ℕ) → i < width d.plan u → get_or part i 0 ≡ at d.plan image u (byte copy_a i)

-- a unit's total as a number, 0 when refused
pub record Totals (d : Device) (image : List ℕ) (role : Role) (u : ℕ) (t : Total) : Type 0 where
  pub number : t.number ≡ total_number (view d image) role u
  pub refused : ¬ (t.number ≡ 0) → t.amount ≡ 0
  pub accepted : t.number ≡ 0 → t.amount ≡ held d.plan image u

-- Ticket 3: "Inspect now names the lowest unit whose marker isn't 1"; document 01: "none exactly if all are 1. .. It works in
-- every phase; refused, it gives the number and names no unit."
abbrev pub Inspects : Device → List ℕ → Inspection → Type 0
Inspects d image (Refused n) = (n ≡ inspect_number (view d image)) × ¬ (n ≡ 0)
Inspects d image (Suspect u) =
    (inspect_number (view d image) ≡ 0) × (u < d.plan.count) × ¬ (at d.plan image u marker ≡ 1)
    × ((v : ℕ) → v < u → at d.plan image v marker ≡ 1)
Inspects d image AllOk =
    (inspect_number (view d image) ≡ 0) × ((v : ℕ) → v < d.plan.count → at d.plan image v marker ≡ 1)

-- ---- The demands, of every device, image and argument.
pub record Demands (d : Device) (image : List ℕ) : Type 0 where
  pub lies : Lies d.plan
  pub start : Starts d.plan (calls.start d.plan)
  pub format : Does (Formats d image) d image (calls.format d image)
  pub begin : (role : Role) (u : ℕ) (payload : List ℕ) → Does (Begins d image u payload) d image (calls.begin d image role u payload)
  pub ride : (turns : ℕ) → Does (Rides d image turns) d image (calls.ride d image turns)
  pub group : (g : List ℕ) → Does (Groups d image g) d image (calls.group d image g)
  pub paid : (turns : ℕ) → Does (Pays d image turns) d image (calls.paid_ride d image turns)
  pub step : Does (Steps d image) d image (calls.step d image)
  pub wake : Does (Wakes d image) d image (calls.wake d image)
  pub cut : (bytes : List ℕ) → Does (Cuts d image bytes) d image (calls.cut d image bytes)
  pub read : (role : Role) (u : ℕ) → Reads d image role u (calls.read d image role u)
  pub total : (role : Role) (u : ℕ) → Totals d image role u (calls.total_of d image role u)
  pub inspect : Inspects d image (calls.inspect d image)

abbrev pub EveryCall : Type 0
EveryCall = (d : Device) (image : List ℕ) → Demands d image

-- ---- The drive. "Bin c = floor(r / 4). Drive = 100 + 160 × l + floor(l × c / 2)": the two floors are told by what they lie
-- between, with no division.
pub record Drives (l r : ℕ) : Type 0 where
  pub bin : ℕ
  pub bin_least : 4 * bin ≤ r
  pub bin_most : r < 4 * bin + 4
  pub half : ℕ
  pub half_least : 2 * half ≤ l * bin
  pub half_most : l * bin < 2 * half + 2
  pub number : drive_number l r ≡ 0
  pub is : drive l r ≡ 100 + 160 * l + half

-- "9 level 0 or above 20; 10 rate above 255"; "Refused: drive 0."
pub record EveryDrive : Type 0 where
  pub accepted : (l r : ℕ) → 1 ≤ l → l ≤ 20 → r ≤ 255 → Drives l r
  pub no_level : (r : ℕ) → drive_number 0 r ≡ 9
  pub high_level : (l r : ℕ) → 20 < l → drive_number l r ≡ 9
  pub high_rate : (l r : ℕ) → 1 ≤ l → l ≤ 20 → 255 < r → drive_number l r ≡ 10
  pub refused : (l r : ℕ) → ¬ (drive_number l r ≡ 0) → drive l r ≡ 0
