-- What loading a curve promises, said of the number and the table that the contract of `load` cites; and what a rider is promised of
-- the drive over a table that passes the check. It is proved in proofs/Room.antt, Passes.antt and Rider.antt.
use Rattle.std.specs.Prelude.{ℕ, ◌+◌, ◌≤◌, ◌<◌, ◌≡◌, true, List, length}
use Rattle.model.specs.Numbers.{NO-ROOM}
use Rattle.model.specs.Drive.{drive_number}
use Rattle.brake.specs.Over.{drive_over}
use Rattle.brake.specs.Table.{drives}
use Rattle.curve.specs.Curve.{passes, load_number, loaded, large_number, large_loaded}

-- ---- Loading. A scratch counts by its length alone.

-- "a refusal leaves the table as it was", for whatever number and at whichever line
abbrev pub RefusedLeavesTheTable : Type 0
RefusedLeavesTheTable =
    (text table : List ℕ) (scratch : ℕ)
    → ¬ (load_number text (length table) scratch ≡ 0)
    → loaded text table scratch ≡ table

-- "11 for a table that isn't 1,280 long ..", "a scratch under 64 now counts as too short under 11": for every text, and for nothing
-- else
pub record Room (text : List ℕ) (table scratch : ℕ) : Type 0 where
  pub other_table : ¬ (table ≡ 1280) → load_number text table scratch ≡ NO-ROOM
  pub short_scratch : scratch < 64 → load_number text table scratch ≡ NO-ROOM
  pub enough : table ≡ 1280 → 64 ≤ scratch → ¬ (load_number text table scratch ≡ NO-ROOM)

abbrev pub RoomFor1280 : Type 0
RoomFor1280 = (text : List ℕ) (table scratch : ℕ) → Room text table scratch

-- "the scratch is free either way": what a longer one has to spare changes nothing
abbrev pub SpareScratch : Type 0
SpareScratch =
    (text table : List ℕ) (scratch other : ℕ)
    → 64 ≤ scratch
    → 64 ≤ other
    → (load_number text (length table) scratch ≡ load_number text (length table) other)
    × (loaded text table scratch ≡ loaded text table other)

-- Ticket 8: "For each text and table the refusal and the table afterwards equal those of the 1,280-number loader."
abbrev pub SmallAsLarge : Type 0
SmallAsLarge =
    (text table : List ℕ) (scratch large : ℕ)
    → 64 ≤ scratch
    → 1280 ≤ large
    → (load_number text (length table) scratch ≡ large_number text (length table) large)
    × (loaded text table scratch ≡ large_loaded text table large)

-- "It goes into the lent table .. only if all of it is good": the table after a load that is accepted passes the check
abbrev pub LoadPasses : Type 0
LoadPasses =
    (text table : List ℕ) (scratch : ℕ)
    → load_number text (length table) scratch ≡ 0
    → passes (loaded text table scratch) ≡ true

-- "The constant table passes the check."
abbrev pub ConstantPasses : Type 0
ConstantPasses = passes drives ≡ true

-- ---- The drive over a table that passes the check.

-- "Every entry is at most 4,095": the converter has 12 bits
abbrev pub DrivesFit : Type 0
DrivesFit =
    (table : List ℕ) → passes table ≡ true
    → (l r : ℕ) → drive_number l r ≡ 0
    → drive_over table l r ≤ 4095

-- "no line ever falls": a faster wheel never meets a weaker brake
abbrev pub Faster : Type 0
Faster =
    (table : List ℕ) → passes table ≡ true
    → (l r r' : ℕ) → drive_number l r ≡ 0 → drive_number l r' ≡ 0 → r ≤ r'
    → drive_over table l r ≤ drive_over table l r'

-- "each entry is above the same bin one level lower": a level more brakes harder, at every rate
abbrev pub Harder : Type 0
Harder =
    (table : List ℕ) → passes table ≡ true
    → (l r : ℕ) → drive_number l r ≡ 0 → drive_number (l + 1) r ≡ 0
    → drive_over table l r < drive_over table (l + 1) r
