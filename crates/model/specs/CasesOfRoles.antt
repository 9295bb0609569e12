-- Ticket 11 as rows. Device and ledger read the table of rights alike, so no theorem over the ledger sees a wrong reading of it: here is
-- each role's answer for each unit and each kind of number, and the order of 22 among the others.
use Rattle.std.specs.Prelude.{ℕ, ◌+◌, ◌≡◌, Bool, true, false, List, [], ◌∷◌, ◌++◌, map, take, replicate}
use Rattle.model.specs.declared.Phase.{Phase}
use Rattle.model.specs.declared.Phase.TheVariants.{Cold, Ready}
use Rattle.model.specs.declared.Rights.{Rights}
use Rattle.model.specs.declared.Role.{Role}
use Rattle.model.specs.declared.Role.TheVariants.{Rider, Gym, Service}
use Rattle.model.specs.Refusals.{read_number, total_number, begin_number}
use Rattle.model.specs.Calls.{Device, view, zero_payload}
use Rattle.model.specs.Calls as calls
use Rattle.model.specs.Ledger.{begin, opening, tells}

-- eight units one byte wide. 3 and 255 are no right.
abbrev rights : Rights
rights =
    record {
      rider = 0 ∷ 1 ∷ 2 ∷ 3 ∷ 255 ∷ 2 ∷ 0 ∷ 1 ∷ [];
      gym = 2 ∷ 0 ∷ 1 ∷ 2 ∷ 1 ∷ 0 ∷ 0 ∷ 2 ∷ [];
      service = 1 ∷ 2 ∷ 0 ∷ 0 ∷ 2 ∷ 1 ∷ 2 ∷ 0 ∷ [];
    }

abbrev device_with : Rights → Bool → Phase → Device
device_with table grouped phase =
    record {
      plan = record { count = 8; widths = replicate 8 1; page = 1; grouped = grouped; rights = table };
      payload = zero_payload;
      phase = phase;
      stores = 0;
    }

abbrev device : Bool → Phase → Device
device = device_with rights

-- all eight units with this marker
abbrev pub marked : ℕ → List ℕ
marked m = unit ++ unit ++ unit ++ unit ++ unit ++ unit ++ unit ++ unit
  where
    unit : List ℕ
    unit = m ∷ 0 ∷ 0 ∷ []

abbrev units : List ℕ
units = 0 ∷ 1 ∷ 2 ∷ 3 ∷ 4 ∷ 5 ∷ 6 ∷ 7 ∷ 8 ∷ []

-- ---- each unit's number, and one past the last: of a read and of a begin, with every marker OK and with none
abbrev reads_of : ℕ → Role → List ℕ
reads_of m role = map (λ (u : ℕ). read_number (view (device false Ready) (marked m)) role u) units

abbrev begins_of : ℕ → Role → List ℕ
begins_of m role = map (λ (u : ℕ). begin_number (view (device false Ready) (marked m)) role u 1) units

pub record EveryRight : Type 0 where
  pub read_rider : reads_of 1 Rider ≡ 22 ∷ 0 ∷ 0 ∷ 22 ∷ 22 ∷ 0 ∷ 22 ∷ 0 ∷ 6 ∷ []
  pub read_gym : reads_of 1 Gym ≡ 0 ∷ 22 ∷ 0 ∷ 0 ∷ 0 ∷ 22 ∷ 22 ∷ 0 ∷ 6 ∷ []
  pub read_service : reads_of 1 Service ≡ 0 ∷ 0 ∷ 22 ∷ 22 ∷ 0 ∷ 0 ∷ 0 ∷ 22 ∷ 6 ∷ []
  pub torn_rider : reads_of 2 Rider ≡ 22 ∷ 8 ∷ 8 ∷ 22 ∷ 22 ∷ 8 ∷ 22 ∷ 8 ∷ 6 ∷ []
  pub torn_gym : reads_of 2 Gym ≡ 8 ∷ 22 ∷ 8 ∷ 8 ∷ 8 ∷ 22 ∷ 22 ∷ 8 ∷ 6 ∷ []
  pub torn_service : reads_of 2 Service ≡ 8 ∷ 8 ∷ 22 ∷ 22 ∷ 8 ∷ 8 ∷ 8 ∷ 22 ∷ 6 ∷ []
  pub begin_rider : begins_of 1 Rider ≡ 22 ∷ 22 ∷ 0 ∷ 22 ∷ 22 ∷ 0 ∷ 22 ∷ 22 ∷ 6 ∷ []
  pub begin_gym : begins_of 1 Gym ≡ 0 ∷ 22 ∷ 22 ∷ 0 ∷ 22 ∷ 22 ∷ 22 ∷ 0 ∷ 6 ∷ []
  pub begin_service : begins_of 1 Service ≡ 22 ∷ 0 ∷ 22 ∷ 22 ∷ 0 ∷ 22 ∷ 0 ∷ 22 ∷ 6 ∷ []
  pub begin_torn_rider : begins_of 2 Rider ≡ 22 ∷ 22 ∷ 8 ∷ 22 ∷ 22 ∷ 8 ∷ 22 ∷ 22 ∷ 6 ∷ []
  pub begin_torn_gym : begins_of 2 Gym ≡ 8 ∷ 22 ∷ 22 ∷ 8 ∷ 22 ∷ 22 ∷ 22 ∷ 8 ∷ 6 ∷ []
  pub begin_torn_service : begins_of 2 Service ≡ 22 ∷ 8 ∷ 22 ∷ 22 ∷ 8 ∷ 22 ∷ 8 ∷ 22 ∷ 6 ∷ []

-- ---- each value for each role and unit: the role's line is all v, the two others all w
abbrev only : Role → ℕ → ℕ → Rights
only Rider v w = record { rider = replicate 8 v; gym = replicate 8 w; service = replicate 8 w }
only Gym v w = record { rider = replicate 8 w; gym = replicate 8 v; service = replicate 8 w }
only Service v w = record { rider = replicate 8 w; gym = replicate 8 w; service = replicate 8 v }

-- the numbers of eight reads, and of eight begins
abbrev valued : Role → ℕ → ℕ → List ℕ
valued role v w =
    map (λ (u : ℕ). read_number (view (device_with (only role v w) false Ready) (marked 1)) role u) (take 8 units)
    ++ map (λ (u : ℕ). begin_number (view (device_with (only role v w) false Ready) (marked 1)) role u 1) (take 8 units)

abbrev each : ℕ → ℕ → List ℕ
each read begun = replicate 8 read ++ replicate 8 begun

pub record EveryValue (role : Role) : Type 0 where
  pub nothing : valued role 0 2 ≡ each 22 22
  pub see : valued role 1 2 ≡ each 0 22
  pub see_and_write : valued role 2 0 ≡ each 0 0
  -- what is none of the three
  pub three : valued role 3 2 ≡ each 22 22
  pub largest : valued role 255 2 ≡ each 22 22

-- ---- the order: read 5, 6, 22, 8; a total 5, 6, 22, 8, 16; begin 5, 6, 20, 22, 7, 8
abbrev read : Phase → ℕ → Role → ℕ → ℕ
read phase m role u = read_number (view (device false phase) (marked m)) role u

abbrev total : Phase → ℕ → Role → ℕ → ℕ
total phase m role u = total_number (view (device false phase) (marked m)) role u

abbrev begun : Bool → Phase → ℕ → Role → ℕ → ℕ → ℕ
begun grouped phase m role u size = begin_number (view (device grouped phase) (marked m)) role u size

pub record EveryOrder : Type 0 where
  -- read
  pub read_cold : read Cold 2 Rider 8 ≡ 5
  pub read_past : read Ready 2 Rider 8 ≡ 6
  pub read_hidden : read Ready 2 Rider 0 ≡ 22
  pub read_torn : read Ready 2 Rider 1 ≡ 8
  pub read_seen : read Ready 1 Rider 1 ≡ 0
  -- a total
  pub total_cold : total Cold 2 Rider 8 ≡ 5
  pub total_past : total Ready 2 Rider 8 ≡ 6
  pub total_hidden : total Ready 2 Rider 0 ≡ 22
  pub total_torn : total Ready 2 Rider 1 ≡ 8
  pub total_narrow : total Ready 1 Rider 1 ≡ 16
  -- begin: unit 7 is the record where the device is grouped, a rider may not write it and the gym may
  pub begin_cold : begun true Cold 2 Rider 8 0 ≡ 5
  pub begin_past : begun true Ready 2 Rider 8 0 ≡ 6
  pub begin_record : begun true Ready 2 Rider 7 0 ≡ 20
  pub begin_record_too : begun true Ready 2 Gym 7 0 ≡ 20
  pub begin_barred : begun false Ready 2 Rider 7 0 ≡ 22
  pub begin_size : begun false Ready 2 Gym 7 0 ≡ 7
  pub begin_torn : begun false Ready 2 Gym 7 1 ≡ 8
  pub begin_good : begun false Ready 1 Gym 7 1 ≡ 0

-- ---- the ledger answers a begin alike
abbrev pub EveryTold : Type 0
EveryTold =
    tells (device false Ready).plan (opening (device false Ready).plan)
    (begin Rider 0 (9 ∷ []) ∷ begin Gym 2 (9 ∷ []) ∷ begin Service 2 [] ∷ begin Gym 0 (9 ∷ []) ∷ begin Gym 0 (9 ∷ []) ∷ [])
    ≡ 22 ∷ 22 ∷ 22 ∷ 0 ∷ 5 ∷ []

-- ---- the part that a read shows: copy A, of the units that the gym may see
abbrev filled : List ℕ
filled = unit 0 ++ unit 1 ++ unit 2 ++ unit 3 ++ unit 4 ++ unit 5 ++ unit 6 ++ unit 7
  where
    unit : ℕ → List ℕ
    unit u = 1 ∷ (10 + u) ∷ (20 + u) ∷ []

abbrev pub EveryShown : Type 0
EveryShown =
    map (λ (u : ℕ). calls.read (device false Ready) filled Gym u) units
    ≡ (10 ∷ []) ∷ [] ∷ (12 ∷ []) ∷ (13 ∷ []) ∷ (14 ∷ []) ∷ [] ∷ [] ∷ (17 ∷ []) ∷ [] ∷ []
