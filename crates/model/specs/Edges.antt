-- Edges that the power-cut theorem cannot see, as tables and facts: every number of every call; whole outcomes, also on images
-- that no list from a formatted device leaves; the ledger's own entries; what inspect says; the stores counted; the drive.
-- proofs/WorkedCases.antt has the theorems that the definitions give every row.
use Rattle.std.specs.Prelude.{ℕ, zero, suc, ◌≡◌, false, List, [], ◌∷◌, ◌++◌, map, replicate}
use Rattle.model.specs.declared.Direction.TheVariants.{AToB, BToA}
use Rattle.model.specs.declared.Inspection.{Inspection}
use Rattle.model.specs.declared.Inspection.TheVariants.{Refused, Suspect, AllOk}
use Rattle.model.specs.declared.Phase.{Phase}
use Rattle.model.specs.declared.Phase.TheVariants.{Cold, Ready, Writing, Recovering}
use Rattle.model.specs.declared.Plan.{Plan}
use Rattle.model.specs.declared.Role.TheVariants.{Service}
use Rattle.model.specs.Rights.{no_rights}
use Rattle.model.specs.Refusals.{Job, cold, ready, writing, recovering, read_number, inspect_number}
use Rattle.model.specs.Calls.{Device, Answer, Outcome, outcome, view, zero_payload}
use Rattle.model.specs.Calls as calls
use Rattle.model.specs.Ledger.{Call, begin, step, wake, Ledger, opening, tells, after}
use Rattle.model.specs.PowerCut.{call, run}
use Rattle.model.specs.Wear.{completed_in, torn_in, ceiling}
use Rattle.model.specs.Cases.{planned, cut_one}
use Rattle.model.specs.Drive.{drive_number, drive}

-- ---- Refusals. A row has a situation, in which whatever a later row mends is still wrong, and the number of each call there.
pub record Numbers : Type 0 where
  pub start : ℕ
  pub format : ℕ
  pub wake : ℕ
  pub step : ℕ
  pub cut : ℕ
  pub inspect : ℕ
  pub read : ℕ
  pub begin : ℕ

-- a device and an image, and the unit and the payload that read and begin are asked for
pub record Situation : Type 0 where
  pub device : Device
  pub image : List ℕ
  pub unit : ℕ
  pub payload : List ℕ

abbrev pub numbers_in : Situation → Numbers
numbers_in s =
    record {
      start = (calls.start s.device.plan).number;
      format = (calls.format s.device s.image).number;
      wake = (calls.wake s.device s.image).number;
      step = (calls.step s.device s.image).number;
      cut = (calls.cut s.device s.image (0 ∷ [])).number;
      inspect = inspect_number (view s.device s.image);
      read = read_number (view s.device s.image) Service s.unit;
      begin = (calls.begin s.device s.image Service s.unit s.payload).number;
    }

-- a device of k units with the widths 2, w, 1, 0, 0 .. in a phase, over an image
abbrev at : ℕ → ℕ → Phase → List ℕ → ℕ → List ℕ → Situation
at k w phase image u payload =
    record {
      device = record {
        plan = planned k (2 ∷ w ∷ 1 ∷ replicate 5 0);
        payload = zero_payload;
        phase = phase;
        stores = 7;
      };
      image = image;
      unit = u;
      payload = payload;
    }

-- eight bytes of a plan of widths 2 and 1, both markers m
abbrev marked : ℕ → List ℕ
marked m = m ∷ 0 ∷ 0 ∷ 0 ∷ 0 ∷ m ∷ 0 ∷ 0 ∷ []

pub record Row : Type 0 where
  pub situation : Situation
  pub expected : Numbers

abbrev row : Situation → Numbers → Row
row s n = record { situation = s; expected = n }

-- the same number from every call that has a device
abbrev all : ℕ → ℕ → Numbers
all first n = record { start = first; format = n; wake = n; step = n; cut = n; inspect = n; read = n; begin = n }

abbrev pub refusals : List Row
refusals =
    -- 1: no unit, and one too many
    row (at 0 0 (Writing 9 0) [] 9 []) (all 1 1)
    ∷ row (at 9 0 (Writing 9 0) [] 9 []) (all 1 1)
    -- 2: one of the first k widths is 0, or one too wide
    ∷ row (at 2 0 (Writing 9 0) [] 9 []) (all 2 2)
    ∷ row (at 2 257 (Writing 9 0) [] 9 []) (all 2 2)
    ∷ row (at 8 1 (Writing 9 0) [] 9 []) (all 2 2)
    -- 3: a byte too few
    ∷ row (at 2 1 (Writing 2 0) (replicate 7 0) 2 []) (all 0 3)
    -- 4: unit k, or as many stores made as the job has
    ∷ row (at 2 1 (Writing 2 0) (marked 2) 2 []) (all 0 4)
    ∷ row (at 2 1 (Writing 0 7) (marked 2) 2 []) (all 0 4)
    ∷ row (at 2 1 (Recovering 2 0 AToB) (marked 2) 2 []) (all 0 4)
    ∷ row (at 2 1 (Recovering 0 3 BToA) (marked 2) 2 []) (all 0 4)
    -- 5: each phase has its calls
    ∷ row (at 2 1 (Writing 0 6) (marked 2) 2 [])
    (record { start = 0; format = 5; wake = 5; step = 0; cut = 0; inspect = 0; read = 5; begin = 5 })
    ∷ row (at 2 1 (Recovering 0 2 AToB) (marked 2) 2 [])
    (record { start = 0; format = 5; wake = 5; step = 0; cut = 0; inspect = 0; read = 5; begin = 5 })
    ∷ row (at 2 1 Cold (marked 2) 2 [])
    (record { start = 0; format = 0; wake = 0; step = 5; cut = 0; inspect = 0; read = 5; begin = 5 })
    -- 6: unit k
    ∷ row (at 2 1 Ready (marked 2) 2 [])
    (record { start = 0; format = 5; wake = 5; step = 5; cut = 0; inspect = 0; read = 6; begin = 6 })
    -- 7: a byte of payload too few, and one too many
    ∷ row (at 2 1 Ready (marked 2) 0 (9 ∷ []))
    (record { start = 0; format = 5; wake = 5; step = 5; cut = 0; inspect = 0; read = 8; begin = 7 })
    ∷ row (at 2 1 Ready (marked 2) 0 (9 ∷ 9 ∷ 9 ∷ []))
    (record { start = 0; format = 5; wake = 5; step = 5; cut = 0; inspect = 0; read = 8; begin = 7 })
    -- 8: the unit's own marker, whatever the others are
    ∷ row (at 2 1 Ready (marked 2) 0 (9 ∷ 9 ∷ []))
    (record { start = 0; format = 5; wake = 5; step = 5; cut = 0; inspect = 0; read = 8; begin = 8 })
    ∷ row (at 2 1 Ready (1 ∷ 0 ∷ 0 ∷ 0 ∷ 0 ∷ 0 ∷ 0 ∷ 0 ∷ []) 1 (9 ∷ []))
    (record { start = 0; format = 5; wake = 5; step = 5; cut = 0; inspect = 0; read = 8; begin = 8 })
    ∷ row (at 2 1 Ready (0 ∷ 0 ∷ 0 ∷ 0 ∷ 0 ∷ 1 ∷ 0 ∷ 0 ∷ []) 1 (9 ∷ []))
    (record { start = 0; format = 5; wake = 5; step = 5; cut = 0; inspect = 0; read = 0; begin = 0 })
    -- 14: any unit's marker, after 5; begin and read give 8
    ∷ row (at 2 1 Cold (marked 7) 0 (9 ∷ 9 ∷ []))
    (record { start = 0; format = 0; wake = 0; step = 5; cut = 0; inspect = 0; read = 5; begin = 5 })
    ∷ row (at 2 1 Cold (8 ∷ 0 ∷ 0 ∷ 0 ∷ 0 ∷ 1 ∷ 0 ∷ 0 ∷ []) 0 (9 ∷ 9 ∷ []))
    (record { start = 0; format = 0; wake = 14; step = 5; cut = 0; inspect = 0; read = 5; begin = 5 })
    ∷ row (at 2 1 Cold (1 ∷ 0 ∷ 0 ∷ 0 ∷ 0 ∷ 255 ∷ 0 ∷ 0 ∷ []) 0 (9 ∷ 9 ∷ []))
    (record { start = 0; format = 0; wake = 14; step = 5; cut = 0; inspect = 0; read = 5; begin = 5 })
    ∷ row (at 2 1 Ready (marked 8) 0 (9 ∷ 9 ∷ []))
    (record { start = 0; format = 5; wake = 5; step = 5; cut = 0; inspect = 0; read = 8; begin = 8 })
    -- a foreign byte that is no unit's marker
    ∷ row (at 1 1 Cold (1 ∷ 8 ∷ 8 ∷ 8 ∷ 8 ∷ 8 ∷ 0 ∷ 0 ∷ []) 0 (9 ∷ 9 ∷ []))
    (record { start = 0; format = 0; wake = 0; step = 5; cut = 0; inspect = 0; read = 5; begin = 5 })
    -- the widest unit, and a byte after the units
    ∷ row (at 3 256 Ready (replicate 5 0 ++ (1 ∷ replicate 516 0)) 1 (replicate 256 9))
    (record { start = 0; format = 5; wake = 5; step = 5; cut = 0; inspect = 0; read = 0; begin = 0 })
    ∷ []

abbrev pub EveryRefusal : Type 0
EveryRefusal = map (λ (r : Row). numbers_in r.situation) refusals ≡ map (λ (r : Row). r.expected) refusals

-- ---- Whole outcomes: number, device, every byte. The plan has the widths 2 and 1, the payload is 5 6 and zeros.
abbrev pub plan21 : Plan
plan21 = planned 2 (2 ∷ 1 ∷ replicate 6 0)

abbrev held : List ℕ
held = 5 ∷ 6 ∷ replicate 254 0

abbrev counting : ℕ → Phase → List ℕ → Device
counting n phase payload = record { plan = plan21; payload = payload; phase = phase; stores = n }

abbrev device : Phase → List ℕ → Device
device phase payload = counting 0 phase payload

-- unit 0 as given, unit 1 as given, and a byte after the units
abbrev units : List ℕ → List ℕ → List ℕ
units unit0 unit1 = unit0 ++ unit1 ++ (9 ∷ [])

abbrev fresh0 : List ℕ
fresh0 = 1 ∷ 0 ∷ 0 ∷ 0 ∷ 0 ∷ []

abbrev fresh1 : List ℕ
fresh1 = 1 ∷ 0 ∷ 0 ∷ []

-- outcomes one after the other, the first of them with n stores counted
abbrev pub from : ℕ → List Outcome → List Outcome
from n [] = []
from n (o ∷ os) = outcome o.number (counting n o.device.phase o.device.payload) o.image ∷ from (suc n) os

-- the outcome of each of n steps
unfoldable pub trace : ℕ → Outcome → List Outcome
trace zero o = []
trace (suc n) o = call step o ∷ trace n (call step o)

-- an accepted call
abbrev gives : Phase → List ℕ → List ℕ → List ℕ → Outcome
gives phase payload unit0 unit1 = outcome 0 (device phase payload) (units unit0 unit1)

-- in a write of unit 0, and in a cleanup of both units
abbrev wrote : ℕ → List ℕ → Outcome
wrote made unit0 = gives (Writing 0 made) held unit0 fresh1

abbrev cleaning : Phase → List ℕ → List ℕ → Outcome
cleaning phase unit0 unit1 = gives phase held unit0 unit1

pub record Pair : Type 0 where
  pub computed : List Outcome
  pub expected : List Outcome

abbrev pair : List Outcome → List Outcome → Pair
pair c e = record { computed = c; expected = e }

abbrev one : Outcome → Outcome → Pair
one c e = pair (c ∷ []) (e ∷ [])

-- n steps, each of which counts one store
abbrev traced : ℕ → Outcome → List Outcome → Pair
traced n o expected = pair (trace n o) (from 1 expected)

abbrev pub outcomes : List Pair
outcomes =
    -- format: whatever stood there
    one (calls.format (device Cold held) (replicate 8 7 ++ (9 ∷ []))) (gives Ready zero_payload fresh0 fresh1)
    -- begin: zeros after the payload, no store
    ∷ one (calls.begin (device Ready held) (units fresh0 fresh1) Service 1 (3 ∷ [])) (gives (Writing 1 0) (3 ∷ replicate 255 0) fresh0 fresh1)
    -- the seven stores of a write of width 2; the payload stays
    ∷ traced 7 (wrote 0 fresh0)
    (wrote 1 (2 ∷ 0 ∷ 0 ∷ 0 ∷ 0 ∷ [])
    ∷ wrote 2 (2 ∷ 5 ∷ 0 ∷ 0 ∷ 0 ∷ [])
    ∷ wrote 3 (2 ∷ 5 ∷ 6 ∷ 0 ∷ 0 ∷ [])
    ∷ wrote 4 (4 ∷ 5 ∷ 6 ∷ 0 ∷ 0 ∷ [])
    ∷ wrote 5 (4 ∷ 5 ∷ 6 ∷ 5 ∷ 0 ∷ [])
    ∷ wrote 6 (4 ∷ 5 ∷ 6 ∷ 5 ∷ 6 ∷ [])
    ∷ gives Ready held (1 ∷ 5 ∷ 6 ∷ 5 ∷ 6 ∷ []) fresh1
    ∷ [])
    -- a cut: a torn marker bit by bit, a torn data byte as given; then Cold with a zero payload
    ∷ one (call (cut_one 253) (wrote 0 (0 ∷ 1 ∷ 2 ∷ 3 ∷ 4 ∷ []))) (gives Cold zero_payload (0 ∷ 1 ∷ 2 ∷ 3 ∷ 4 ∷ []) fresh1)
    ∷ one (call (cut_one 2) (wrote 0 (193 ∷ 1 ∷ 2 ∷ 3 ∷ 4 ∷ []))) (gives Cold zero_payload (195 ∷ 1 ∷ 2 ∷ 3 ∷ 4 ∷ []) fresh1)
    ∷ one (call (cut_one 77) (wrote 2 (2 ∷ 1 ∷ 2 ∷ 3 ∷ 4 ∷ []))) (gives Cold zero_payload (2 ∷ 1 ∷ 77 ∷ 3 ∷ 4 ∷ []) fresh1)
    ∷ one (call (cut_one 77) (wrote 4 (4 ∷ 1 ∷ 2 ∷ 3 ∷ 4 ∷ []))) (gives Cold zero_payload (4 ∷ 1 ∷ 2 ∷ 77 ∷ 4 ∷ []) fresh1)
    ∷ one (call (cut_one 77) (cleaning (Recovering 0 1 BToA) (2 ∷ 1 ∷ 2 ∷ 3 ∷ 4 ∷ []) fresh1))
    (gives Cold zero_payload (2 ∷ 1 ∷ 77 ∷ 3 ∷ 4 ∷ []) fresh1)
    -- .. in Cold and Ready it stores nothing
    ∷ one (call (cut_one 77) (gives Ready held fresh0 fresh1)) (gives Cold zero_payload fresh0 fresh1)
    ∷ one (call (cut_one 77) (gives Cold held fresh0 fresh1)) (gives Cold zero_payload fresh0 fresh1)
    -- two bad units, the lower one first: X copies A to B, A copies B to A
    ∷ one (call wake (gives Cold held (7 ∷ 1 ∷ 2 ∷ 3 ∷ 4 ∷ []) (2 ∷ 5 ∷ 6 ∷ [])))
    (cleaning (Recovering 0 0 AToB) (7 ∷ 1 ∷ 2 ∷ 3 ∷ 4 ∷ []) (2 ∷ 5 ∷ 6 ∷ []))
    ∷ traced 5 (cleaning (Recovering 0 0 AToB) (7 ∷ 1 ∷ 2 ∷ 3 ∷ 4 ∷ []) (2 ∷ 5 ∷ 6 ∷ []))
    (cleaning (Recovering 0 1 AToB) (7 ∷ 1 ∷ 2 ∷ 1 ∷ 4 ∷ []) (2 ∷ 5 ∷ 6 ∷ [])
    ∷ cleaning (Recovering 0 2 AToB) (7 ∷ 1 ∷ 2 ∷ 1 ∷ 2 ∷ []) (2 ∷ 5 ∷ 6 ∷ [])
    ∷ cleaning (Recovering 1 0 BToA) (1 ∷ 1 ∷ 2 ∷ 1 ∷ 2 ∷ []) (2 ∷ 5 ∷ 6 ∷ [])
    ∷ cleaning (Recovering 1 1 BToA) (1 ∷ 1 ∷ 2 ∷ 1 ∷ 2 ∷ []) (2 ∷ 6 ∷ 6 ∷ [])
    ∷ cleaning Ready (1 ∷ 1 ∷ 2 ∷ 1 ∷ 2 ∷ []) (1 ∷ 6 ∷ 6 ∷ [])
    ∷ [])
    -- only higher units are looked at; wake leaves a good unit be; B copies A to B
    ∷ traced 1 (cleaning (Recovering 1 1 AToB) (2 ∷ 1 ∷ 2 ∷ 3 ∷ 4 ∷ []) (2 ∷ 5 ∷ 5 ∷ []))
    (cleaning Ready (2 ∷ 1 ∷ 2 ∷ 3 ∷ 4 ∷ []) (1 ∷ 5 ∷ 5 ∷ []) ∷ [])
    ∷ one (call wake (gives Cold held fresh0 (4 ∷ 5 ∷ 6 ∷ []))) (cleaning (Recovering 1 0 AToB) fresh0 (4 ∷ 5 ∷ 6 ∷ []))
    ∷ one (call wake (gives Cold held fresh0 fresh1)) (cleaning Ready fresh0 fresh1)
    -- a foreign unit: wake leaves all as it came; a step takes it for X
    ∷ one (call wake (gives Cold held (2 ∷ 1 ∷ 2 ∷ 3 ∷ 4 ∷ []) (8 ∷ 5 ∷ 6 ∷ [])))
    (outcome 14 (device Cold held) (units (2 ∷ 1 ∷ 2 ∷ 3 ∷ 4 ∷ []) (8 ∷ 5 ∷ 6 ∷ [])))
    ∷ traced 2 (cleaning (Recovering 0 2 BToA) (255 ∷ 3 ∷ 4 ∷ 3 ∷ 4 ∷ []) (200 ∷ 5 ∷ 6 ∷ []))
    (cleaning (Recovering 1 0 AToB) (1 ∷ 3 ∷ 4 ∷ 3 ∷ 4 ∷ []) (200 ∷ 5 ∷ 6 ∷ [])
    ∷ cleaning (Recovering 1 1 AToB) (1 ∷ 3 ∷ 4 ∷ 3 ∷ 4 ∷ []) (200 ∷ 5 ∷ 5 ∷ [])
    ∷ [])
    -- a refused call gives back the device and the image as they came
    ∷ one (call step (gives Ready held fresh0 fresh1)) (outcome 5 (device Ready held) (units fresh0 fresh1))
    ∷ []

abbrev pub EveryOutcome : Type 0
EveryOutcome = map (λ (r : Pair). r.computed) outcomes ≡ map (λ (r : Pair). r.expected) outcomes

-- ---- Start, accepted and refused, and the part that read shows, also where the copies differ.
abbrev answered : ℕ → Plan → Answer
answered n p =
    record {
      number = n;
      device = record { plan = p; payload = replicate 256 0; phase = Cold; stores = 0 };
    }

abbrev start : ℕ → List ℕ → Answer
start k widths = calls.start (planned k widths)

-- no unit, no width and no right
abbrev none : Plan
none = record { count = 0; widths = replicate 8 0; page = 1; grouped = false; rights = no_rights }

abbrev pub EveryStart : Type 0
EveryStart =
    start 2 (2 ∷ 1 ∷ replicate 6 300) ∷ start 9 (2 ∷ 1 ∷ replicate 6 1) ∷ start 2 (2 ∷ 300 ∷ replicate 6 1) ∷ []
    ≡ answered 0 (planned 2 (2 ∷ 1 ∷ replicate 6 300)) ∷ answered 1 none ∷ answered 2 none ∷ []

abbrev parted : List ℕ
parted = units (1 ∷ 10 ∷ 11 ∷ 12 ∷ 13 ∷ []) (1 ∷ 20 ∷ 21 ∷ [])

abbrev reads : Phase → ℕ → List ℕ
reads phase u = calls.read (device phase held) parted Service u

abbrev pub EveryPart : Type 0
EveryPart =
    reads Ready 0 ∷ reads Ready 1 ∷ reads Ready 2 ∷ reads Cold 0 ∷ []
    ≡ (10 ∷ 11 ∷ []) ∷ (20 ∷ []) ∷ [] ∷ [] ∷ []

-- ---- The ledger after some calls on the same plan, with the saved bytes of unit 1.
pub record Entry : Type 0 where
  pub job : Job
  pub payload : List ℕ
  pub unit : ℕ
  pub marker : ℕ
  pub saved : List ℕ

abbrev entry : Job → List ℕ → ℕ → ℕ → List ℕ → Entry
entry j payload u m saved = record { job = j; payload = payload; unit = u; marker = m; saved = saved }

abbrev noted : List Call → Entry
noted cs =
    let l : Ledger = after plan21 (opening plan21) cs in
    entry l.job l.payload l.unit l.marker (l.saved 1)

abbrev write3 : Call
write3 = begin Service 1 (3 ∷ [])

-- a list of calls, and what the ledger has noted after it
pub record Noted : Type 0 where
  pub calls : List Call
  pub entry : Entry

abbrev notes : List Call → Entry → Noted
notes cs e = record { calls = cs; entry = e }

abbrev pub entries : List Noted
entries =
    notes [] (entry ready (replicate 256 0) 0 1 (0 ∷ []))
    ∷ notes (wake ∷ begin Service 1 [] ∷ step ∷ []) (entry ready (replicate 256 0) 0 1 (0 ∷ []))
    ∷ notes (write3 ∷ []) (entry (writing 1 0) (3 ∷ []) 0 1 (0 ∷ []))
    -- a torn store counts
    ∷ notes (write3 ∷ cut_one 0 ∷ []) (entry cold (3 ∷ []) 1 1 (0 ∷ []))
    ∷ notes (write3 ∷ cut_one 255 ∷ []) (entry cold (3 ∷ []) 1 2 (0 ∷ []))
    -- store w + 2 torn, leaving 2 and leaving 6
    ∷ notes (write3 ∷ step ∷ step ∷ cut_one 0 ∷ []) (entry cold (3 ∷ []) 1 2 (0 ∷ []))
    ∷ notes (write3 ∷ step ∷ step ∷ cut_one 4 ∷ []) (entry cold (3 ∷ []) 1 6 (3 ∷ []))
    ∷ notes (write3 ∷ step ∷ step ∷ step ∷ []) (entry (writing 1 3) (3 ∷ []) 1 4 (3 ∷ []))
    ∷ notes (write3 ∷ step ∷ step ∷ step ∷ step ∷ step ∷ []) (entry ready (3 ∷ []) 1 1 (3 ∷ []))
    ∷ notes (write3 ∷ step ∷ cut_one 0 ∷ wake ∷ []) (entry (recovering 1 0) (3 ∷ []) 1 2 (0 ∷ []))
    ∷ notes (write3 ∷ step ∷ cut_one 0 ∷ wake ∷ step ∷ step ∷ []) (entry ready (3 ∷ []) 1 1 (0 ∷ []))
    -- Ticket 4: 7, the highest marker that a list leaves, is no foreign one
    ∷ notes (write3 ∷ step ∷ step ∷ cut_one 4 ∷ wake ∷ step ∷ cut_one 1 ∷ []) (entry cold (3 ∷ []) 1 7 (3 ∷ []))
    ∷ notes (write3 ∷ step ∷ step ∷ cut_one 4 ∷ wake ∷ step ∷ cut_one 1 ∷ wake ∷ []) (entry (recovering 1 0) (3 ∷ []) 1 7 (3 ∷ []))
    ∷ []

abbrev pub EveryEntry : Type 0
EveryEntry = map (λ (n : Noted). noted n.calls) entries ≡ map (λ (n : Noted). n.entry) entries

-- ---- Ticket 4: "refusals that tickets add count there and in the ledger as 01's". No list leaves a ledger with this marker:
-- its wake is refused with 14 and leaves it Cold.
abbrev foreign_entry : Ledger
foreign_entry = record { job = cold; payload = zero_payload; unit = 1; marker = 8; written = λ u. []; saved = λ u. [] }

abbrev pub ForeignTold : Type 0
ForeignTold = tells plan21 foreign_entry (wake ∷ write3 ∷ []) ≡ 14 ∷ 5 ∷ []

-- ---- What inspect says: none bad, one or the other, both, a marker of no meaning, and an image that is a byte short.
abbrev bad0 : List ℕ
bad0 = 4 ∷ 0 ∷ 0 ∷ 0 ∷ 0 ∷ []

pub record Seen : Type 0 where
  pub image : List ℕ
  pub answer : Inspection

abbrev seen : List ℕ → Inspection → Seen
seen image answer = record { image = image; answer = answer }

abbrev pub inspections : List Seen
inspections =
    seen (units fresh0 fresh1) AllOk
    ∷ seen (units bad0 fresh1) (Suspect 0)
    ∷ seen (units fresh0 (2 ∷ 0 ∷ 0 ∷ [])) (Suspect 1)
    ∷ seen (units bad0 (2 ∷ 0 ∷ 0 ∷ [])) (Suspect 0)
    ∷ seen (units fresh0 (64 ∷ 0 ∷ 0 ∷ [])) (Suspect 1)
    ∷ seen (replicate 7 1) (Refused 3)
    ∷ []

-- in every phase
abbrev answers_in : Phase → List Inspection
answers_in phase = map (λ (q : Seen). calls.inspect (device phase held) q.image) inspections

abbrev pub EveryInspection : Type 0
EveryInspection =
    map answers_in (Cold ∷ Ready ∷ Writing 0 6 ∷ Recovering 1 1 BToA ∷ [])
    ≡ replicate 4 (map (λ (q : Seen). q.answer) inspections)

-- ---- The stores counted after each call of a device that has counted n.
abbrev good : List ℕ
good = units fresh0 fresh1

abbrev torn0 : List ℕ
torn0 = units (2 ∷ 0 ∷ 0 ∷ 0 ∷ 0 ∷ []) fresh1

abbrev busy : ℕ → Device
busy n = counting n (Writing 0 1) held

pub record Count : Type 0 where
  pub device : Device
  pub stores : ℕ

abbrev count : Device → ℕ → Count
count d n = record { device = d; stores = n }

abbrev pub counts : List Count
counts =
    count (calls.start plan21).device 0
    ∷ count (calls.format (counting 7 Cold held) good).device 0
    -- a format that is refused keeps it
    ∷ count (calls.format (counting 7 Ready held) good).device 7
    ∷ count (calls.begin (counting 7 Ready held) good Service 1 (3 ∷ [])).device 7
    ∷ count (calls.wake (counting 7 Cold held) torn0).device 7
    -- a step, one that is refused, and a torn store
    ∷ count (calls.step (busy 7) torn0).device 8
    ∷ count (calls.step (counting 7 Ready held) good).device 7
    ∷ count (calls.cut (busy 7) torn0 (255 ∷ [])).device 7
    -- at the top it holds
    ∷ count (calls.step (busy 4294967294) torn0).device 4294967295
    ∷ count (calls.step (busy 4294967295) torn0).device 4294967295
    ∷ []

abbrev pub EveryCount : Type 0
EveryCount = map (λ (c : Count). c.device.stores) counts ≡ map (λ (c : Count). c.stores) counts

-- ---- Wear, Ticket 6: lists of calls from a formatted device of widths 2 and 1, with its count after the list, the list's completed
-- and torn stores, and the ceiling. Width 9 stands past k and counts for nothing.
pub record Wearing : Type 0 where
  pub calls : List Call
  pub stores : ℕ
  pub completed : ℕ
  pub torn : ℕ
  pub most : ℕ

abbrev wearing : List Call → ℕ → ℕ → ℕ → ℕ → Wearing
wearing cs stores completed torn most =
    record { calls = cs; stores = stores; completed = completed; torn = torn; most = most }

abbrev plan219 : Plan
plan219 = planned 2 (2 ∷ 1 ∷ 9 ∷ replicate 5 0)

abbrev worn : List Call → Wearing
worn cs =
    wearing cs (run cs (calls.format (calls.start plan219).device (replicate 8 7))).device.stores
    (completed_in plan219 cs) (torn_in plan219 cs) (ceiling plan219 cs)

abbrev save0 : ℕ → List Call → List Call
save0 n more = begin Service 0 (3 ∷ 4 ∷ []) ∷ replicate n step ++ more

abbrev pub wearings : List Wearing
wearings =
    -- a save: the count is the ceiling
    wearing (save0 7 []) 7 7 0 7
    ∷ wearing (begin Service 1 (3 ∷ []) ∷ replicate 5 step) 5 5 0 5
    -- a save that is cut at its last store, and its repair; and one whose repair is cut at its last store as well. With the torn
    -- stores counted in, they meet the ceiling.
    ∷ wearing (save0 6 (cut_one 0 ∷ wake ∷ step ∷ step ∷ step ∷ [])) 9 9 1 10
    ∷ wearing (save0 6 (cut_one 0 ∷ wake ∷ step ∷ step ∷ cut_one 0 ∷ wake ∷ step ∷ step ∷ step ∷ [])) 11 11 2 13
    -- a cut of a unit that isn't the widest
    ∷ wearing (begin Service 1 (3 ∷ []) ∷ step ∷ step ∷ step ∷ step ∷ cut_one 0 ∷ wake ∷ step ∷ step ∷ []) 6 6 1 8
    -- cuts that tear nothing, and calls that are refused
    ∷ wearing (cut_one 0 ∷ cut_one 0 ∷ wake ∷ []) 0 0 0 6
    ∷ wearing (begin Service 2 [] ∷ begin Service 0 [] ∷ step ∷ wake ∷ []) 0 0 0 0
    ∷ []

abbrev pub EveryWear : Type 0
EveryWear = map (λ (w : Wearing). worn w.calls) wearings ≡ wearings

-- ---- The drive: each of its numbers and their order, the ends of a bin, and where l × c is odd.
pub record Driven : Type 0 where
  pub level : ℕ
  pub rate : ℕ
  pub number : ℕ
  pub drive : ℕ

abbrev driven : ℕ → ℕ → ℕ → ℕ → Driven
driven l r n x = record { level = l; rate = r; number = n; drive = x }

abbrev pub drivings : List Driven
drivings =
    driven 0 0 9 0
    ∷ driven 0 256 9 0
    ∷ driven 21 0 9 0
    ∷ driven 21 256 9 0
    ∷ driven 1 256 10 0
    ∷ driven 20 256 10 0
    ∷ driven 1 3 0 260
    ∷ driven 1 4 0 260
    ∷ driven 1 7 0 260
    ∷ driven 1 8 0 261
    ∷ driven 3 4 0 581
    ∷ driven 19 255 0 3738
    ∷ []

abbrev pub EveryDriving : Type 0
EveryDriving =
    map (λ (q : Driven). driven q.level q.rate (drive_number q.level q.rate) (drive q.level q.rate)) drivings
    ≡ drivings
