-- What each call of document 01 gives: its number, the next device, and every byte of the image.
use Rattle.std.specs.Prelude.{ℕ, zero, suc, ◌-◌, ◌<◌, ◌≡◌, List, [], Bool, false, cond, ◌&&◌, eqb, ltb, length, replicate}
use Rattle.std.proofs.Math.Option.{Option, none, some}
use Rattle.std.proofs.Math.ListN.{get_elem?}
use Rattle.model.specs.declared.Plan.{Plan}
use Rattle.model.specs.declared.Role.{Role}
use Rattle.model.specs.declared.Inspection.{Inspection}
use Rattle.model.specs.declared.Inspection.TheVariants.{Refused, Suspect, AllOk}
use Rattle.model.specs.declared.Phase.{Phase}
use Rattle.model.specs.declared.Phase.TheVariants.{Cold, Ready, Writing, Recovering, Grouping}
use Rattle.model.specs.Rights.{no_rights}
use Rattle.model.specs.Marker.{OK, direction, End, completed, torn_by}
use Rattle.model.specs.Layout.{copy_a, marker, width, total, get, copy_of, formatted}
pub use Rattle.model.specs.Groups.{padded}
use Rattle.model.specs.Groups.{last, payload_of, stands, write_at, is_last_write}
use Rattle.model.specs.Refusals.{Job, cold, ready, writing, recovering, grouping, is_ready, View, write_total, cleanup_total, start_number, format_number, begin_number, group_number, step_number, wake_number, cut_number, read_number, inspect_number, ride_number, total_number, paid_number}
use Rattle.model.specs.Stores.{Store, write_stores, cleanup_stores, stored}
use Rattle.model.specs.Turns.{amount, plus}
use Rattle.model.specs.Prices.{paid_group}

-- "The device is a plan, a 256-byte payload and a phase." Ticket 5: "a 32-bit count of completed stores". The library's struct has
-- the same fields.
pub record Device : Type 0 where
  pub plan : Plan
  pub payload : List ℕ
  pub phase : Phase
  pub stores : ℕ

-- what start hands back
pub record Answer : Type 0 where
  pub number : ℕ
  pub device : Device

-- what every other call hands back, and the image that it leaves
pub record Outcome : Type 0 where
  pub number : ℕ
  pub device : Device
  pub image : List ℕ

abbrev pub outcome : ℕ → Device → List ℕ → Outcome
outcome n d image = record { number = n; device = d; image = image }

-- ---- The next device of each call. These alone build one.
abbrev pub zero_payload : List ℕ
zero_payload = replicate 256 0

-- "Start (from a plan) keeps the plan as given, all eight widths, with Cold and a zero payload." "Start and format set it to 0"
abbrev pub as_started : Plan → Device
as_started p = record { plan = p; payload = zero_payload; phase = Cold; stores = 0 }

-- "payload zero, phase Ready"
abbrev pub as_formatted : Device → Device
as_formatted d = record { plan = d.plan; payload = zero_payload; phase = Ready; stores = 0 }

-- "the payload goes into the device, zeros after it; phase Writing, 0 made"
abbrev pub as_begun : ℕ → List ℕ → Device → Device
as_begun u held d = record { plan = d.plan; payload = held; phase = Writing u 0; stores = d.stores }

-- Ticket 10: "A group phase .. the payload being the record, zeros after it"
abbrev pub as_grouped : List ℕ → Device → Device
as_grouped held d = record { plan = d.plan; payload = held; phase = Grouping 0 0; stores = d.stores }

-- Ticket 5: "each completed step adds 1, and it holds at 4,294,967,295"
abbrev pub most_stores : ℕ
most_stores = 4294967295

unfoldable pub counted : ℕ → ℕ
counted n = cond (ltb n most_stores) (suc n) n

abbrev pub as_stepped : Phase → List ℕ → Device → Device
as_stepped phase held d = record { plan = d.plan; payload = held; phase = phase; stores = counted d.stores }

abbrev pub as_woken : Phase → List ℕ → Device → Device
as_woken phase held d = record { plan = d.plan; payload = held; phase = phase; stores = d.stores }

-- "The device is then Cold with a zero payload." Ticket 5: "A torn store doesn't count; cut keeps the number"
abbrev pub as_cut : Device → Device
as_cut d = record { plan = d.plan; payload = zero_payload; phase = Cold; stores = d.stores }

-- ---- What a call is judged by.
abbrev pub job_of : Phase → Job
job_of Cold = cold
job_of Ready = ready
job_of (Writing u made) = writing u made
job_of (Recovering u made d) = recovering u made
job_of (Grouping i made) = grouping i made

-- "3 image too short (all calls with an image)"
abbrev pub view_of : Plan → List ℕ → Phase → List ℕ → View
view_of p payload phase image =
    record {
      plan = p;
      short = ltb (length image) (total p);
      payload = payload;
      job = job_of phase;
      marker = λ u. get p image u marker;
    }

abbrev pub view : Device → List ℕ → View
view d image = view_of d.plan d.payload d.phase image

-- "A refusal returns the device it got and changes no lent byte."
abbrev pub unless_refused : ℕ → Device → List ℕ → Outcome → Outcome
unless_refused zero d image accepted = accepted
unless_refused (suc n) d image accepted = outcome (suc n) d image

-- ---- The store that comes next, and the phase after it.
unfoldable pub next : Plan → List ℕ → List ℕ → Phase → Option Store
next p payload image Cold = none
next p payload image Ready = none
next p payload image (Writing u made) = get_elem? (write_stores p u payload) made
next p payload image (Recovering u made d) = get_elem? (cleanup_stores p image u d) made
next p payload image (Grouping i made) =
    get_elem? (write_stores p (write_at p payload i).unit (write_at p payload i).bytes) made

-- the image after the next store, completed or torn; "in Cold and Ready it stores nothing"
unfoldable pub image_after : End → Device → List ℕ → List ℕ
image_after e d image = stored d.plan image e (next d.plan d.payload image d.phase)

-- Ticket 3: "the lowest unit whose marker isn't 1": of the n units from u on, or none
unfoldable pub lowest_bad : Plan → List ℕ → ℕ → ℕ → Option ℕ
lowest_bad p image zero u = none
lowest_bad p image (suc n) u = cond (eqb (get p image u marker) OK) (lowest_bad p image n (suc u)) (some u)

-- "Every cleanup begins with 0 made." The cleanup of the unit found, or Ready.
abbrev pub cleanup_of : Plan → List ℕ → Option ℕ → Phase
cleanup_of p image none = Ready
cleanup_of p image (some u) = Recovering u 0 (direction (get p image u marker))

abbrev pub cleanup_from : Plan → List ℕ → ℕ → Phase
cleanup_from p image u = cleanup_of p image (lowest_bad p image (p.count - u) u)

-- Ticket 10: "Wake's cleanup, once done, or wake itself where every marker is 1, goes on, by steps, to write the members of a
-- standing record again and clears it": whether it does, from the phase that the search for a cleanup came to. Ticket 7: "here and
-- in later tickets, a unit's total or record is taken from copy A".
abbrev pub record_in : Plan → List ℕ → List ℕ
record_in p image = copy_of p image (last p) copy_a

unfoldable pub resumes : Plan → List ℕ → Phase → Bool
resumes p image found = is_ready (job_of found) && stands p (record_in p image)

-- the members are the writes from 1 on; "the payload being the record, zeros after it"
abbrev pub resumed : Plan → List ℕ → Phase → Phase
resumed p image found = cond (resumes p image found) (Grouping 1 0) found

abbrev pub reloaded : Plan → List ℕ → Phase → List ℕ → List ℕ
reloaded p image found payload = cond (resumes p image found) (padded (record_in p image)) payload

-- "adds 1. After a write's last store the phase is Ready. After a cleanup's last, it is the cleanup of the next higher unit
-- whose marker isn't 1, or Ready." Ticket 10: "Steps write the record, then each member in order, then a record of zeros."
unfoldable pub phase_after : Plan → List ℕ → List ℕ → Phase → Phase
phase_after p payload image Cold = Cold
phase_after p payload image Ready = Ready
phase_after p payload image (Writing u made) =
    cond (eqb (suc made) (write_total (width p u))) Ready (Writing u (suc made))
phase_after p payload image (Recovering u made d) =
    cond (eqb (suc made) (cleanup_total (width p u))) (resumed p image (cleanup_from p image (suc u))) (Recovering u (suc made) d)
phase_after p payload image (Grouping i made) =
    cond (eqb (suc made) (write_total (width p (write_at p payload i).unit)))
    (cond (is_last_write p payload i) Ready (Grouping (suc i) 0))
    (Grouping i (suc made))

-- "The payload stays.", but where a cleanup's last store goes on to a standing record
unfoldable pub payload_after : Plan → List ℕ → List ℕ → Phase → List ℕ
payload_after p payload image Cold = payload
payload_after p payload image Ready = payload
payload_after p payload image (Writing u made) = payload
payload_after p payload image (Recovering u made d) =
    cond (eqb (suc made) (cleanup_total (width p u))) (reloaded p image (cleanup_from p image (suc u)) payload) payload
payload_after p payload image (Grouping i made) = payload

-- ---- The calls.
-- "start's refusal returns k = 0, all widths 0, Cold, zero payload"; Ticket 9: "p = 1, as in a refused start"; Ticket 10: "A device may
-- be started as grouped (a refused start isn't)"; Ticket 11: "all nothing if refused"
abbrev pub no_plan : Plan
no_plan = record { count = 0; widths = replicate 8 0; page = 1; grouped = false; rights = no_rights }

abbrev pub start_answer : ℕ → Plan → Answer
start_answer zero p = record { number = 0; device = as_started p }
start_answer (suc n) p = record { number = suc n; device = as_started no_plan }

unfoldable pub start : Plan → Answer
start p = start_answer (start_number p) p

-- "zeros in all units, every marker 1, payload zero, phase Ready"
unfoldable pub format : Device → List ℕ → Outcome
format d image =
    unless_refused (format_number (view d image)) d image (outcome 0 (as_formatted d) (formatted d.plan image))

-- "stores nothing; the payload goes into the device"
unfoldable pub begin : Device → List ℕ → Role → ℕ → List ℕ → Outcome
begin d image role u payload =
    unless_refused (begin_number (view d image) role u (length payload)) d image (outcome 0 (as_begun u (padded payload) d) image)

-- Ticket 7: "a unit's total or record is taken from copy A"
abbrev pub held_in : Device → List ℕ → ℕ → List ℕ
held_in d image u = copy_of d.plan image u copy_a

-- "takes a ride's turns (64 bits) and begins a write of total plus turns", of unit 0
unfoldable pub ride : Device → List ℕ → ℕ → Outcome
ride d image turns =
    unless_refused (ride_number (view d image) (held_in d image 0) turns) d image
    (outcome 0 (as_begun 0 (padded (plus (held_in d image 0) turns)) d) image)

-- Ticket 10: "A group, in Ready only (else 5), is the bytes of 2 to 4 members"
unfoldable pub group : Device → List ℕ → List ℕ → Outcome
group d image g =
    unless_refused (group_number (view d image) g) d image (outcome 0 (as_grouped (payload_of d.plan g) d) image)

-- Ticket 12: the group of unit 0 with its total and the turns, and of unit 1 with its cents and the price
abbrev pub paid_in : Device → List ℕ → ℕ → List ℕ
paid_in d image turns = paid_group (held_in d image 0) (held_in d image 1) turns

unfoldable pub paid_ride : Device → List ℕ → ℕ → Outcome
paid_ride d image turns =
    unless_refused (paid_number (view d image) (held_in d image 0) (held_in d image 1) turns) d image
    (outcome 0 (as_grouped (payload_of d.plan (paid_in d image turns)) d) image)

-- "makes the next store and adds 1"
abbrev pub step_from : Device → List ℕ → Device
step_from d image =
    as_stepped (phase_after d.plan d.payload image d.phase) (payload_after d.plan d.payload image d.phase) d

unfoldable pub step : Device → List ℕ → Outcome
step d image =
    unless_refused (step_number (view d image)) d image
    (outcome 0 (step_from d (image_after completed d image)) (image_after completed d image))

-- "stores nothing; the cleanup of the lowest unit whose marker isn't 1, or Ready"; or on to a standing record
abbrev pub wake_from : Device → List ℕ → Phase → Device
wake_from d image found = as_woken (resumed d.plan image found) (reloaded d.plan image found d.payload) d

unfoldable pub wake : Device → List ℕ → Outcome
wake d image =
    unless_refused (wake_number (view d image)) d image (outcome 0 (wake_from d image (cleanup_from d.plan image 0)) image)

-- "in Writing or Recovering it tears the next store; in Cold and Ready it stores nothing"; Ticket 9: "Cut now takes p bytes"; Ticket 10:
-- "A group phase, torn by cut as Writing is"
unfoldable pub cut : Device → List ℕ → List ℕ → Outcome
cut d image bytes =
    unless_refused (cut_number (view d image) (length bytes)) d image (outcome 0 (as_cut d) (image_after (torn_by bytes) d image))

-- "the part of the lent image that is copy A, not a copy; an empty part when refused"
abbrev pub part_unless_refused : ℕ → List ℕ → List ℕ
part_unless_refused zero part = part
part_unless_refused (suc n) part = []

unfoldable pub read : Device → List ℕ → Role → ℕ → List ℕ
read d image role u = part_unless_refused (read_number (view d image) role u) (copy_of d.plan image u copy_a)

-- "A companion call gives the number, 0 or a refusal": read_number (view d image) role u.

-- a unit's total as a number, 0 when refused
pub record Total : Type 0 where
  pub number : ℕ
  pub amount : ℕ

abbrev pub total_unless_refused : ℕ → ℕ → Total
total_unless_refused zero n = record { number = 0; amount = n }
total_unless_refused (suc refusal) n = record { number = suc refusal; amount = 0 }

unfoldable pub total_of : Device → List ℕ → Role → ℕ → Total
total_of d image role u = total_unless_refused (total_number (view d image) role u) (amount (held_in d image u))

abbrev pub AllMarkersOk : Plan → List ℕ → Type 0
AllMarkersOk p image = (u : ℕ) → u < p.count → get p image u marker ≡ OK

-- The case of inspect's answer for each number of the document and each unit named; "refused, it .. names no unit".
abbrev pub inspection : ℕ → Option ℕ → Inspection
inspection (suc refusal) unit = Refused (suc refusal)
inspection zero (some u) = Suspect u
inspection zero none = AllOk

-- Ticket 3: "Inspect now names the lowest unit whose marker isn't 1"; "none exactly if all are 1"
unfoldable pub inspect : Device → List ℕ → Inspection
inspect d image = inspection (inspect_number (view d image)) (lowest_bad d.plan image d.plan.count 0)
