-- Document 01, 'Refusals': every refusal of every call of the store, in one table.
-- Device and ledger are both judged by it, so the power-cut theorem cannot notice a wrong condition here: specs/Edges.antt
-- has a computed case for each number in each call.
use Rattle.std.specs.Prelude.{ℕ, zero, suc, ◌+◌, ◌*◌, List, [], ◌∷◌, ◌++◌, Bool, true, false, cond, not, ◌||◌, eqb, ltb, leb, length}
use Rattle.model.specs.declared.Plan.{Plan}
use Rattle.model.specs.declared.Role.{Role}
pub use Rattle.model.specs.Numbers.{BAD-COUNT, BAD-WIDTH, SHORT-IMAGE, BAD-JOB, WRONG-PHASE, NO-UNIT, WRONG-SIZE, BAD-MARKER, FOREIGN-MARKER, SUM-TOO-LARGE, NO-TOTAL, BAD-PAGE, WRONG-TEAR, BAD-GROUP, UNIT-TAKEN, NO-RECORD, NO-RIGHT}
unfoldable pub use Rattle.model.specs.Plans.{bad_count, bad_widths, bad_page}
use Rattle.model.specs.Plans.{width}
use Rattle.model.specs.Marker.{OK, is_foreign}
use Rattle.model.specs.Rights.{may_see, may_write}
use Rattle.model.specs.Turns.{amount}
use Rattle.model.specs.Prices.{price}
use Rattle.model.specs.Groups.{Write, last, is_record, members, unsplit, overlaps, narrow, given, writes, write_at}

-- A phase without its direction: "a phase (as above, without direction)" is what the ledger keeps.
pub data Job : Type 0 where
  cold : Job
  ready : Job
  writing : ℕ → ℕ → Job
  recovering : ℕ → ℕ → Job
  grouping : ℕ → ℕ → Job

abbrev pub is_cold : Job → Bool
is_cold cold = true
is_cold ready = false
is_cold (writing u made) = false
is_cold (recovering u made) = false
is_cold (grouping i made) = false

abbrev pub is_ready : Job → Bool
is_ready cold = false
is_ready ready = true
is_ready (writing u made) = false
is_ready (recovering u made) = false
is_ready (grouping i made) = false

-- "Write of width w, 2w + 3 stores", "Cleanup, w + 1 stores"
abbrev pub write_total : ℕ → ℕ
write_total w = 2 * w + 3

abbrev pub cleanup_total : ℕ → ℕ
cleanup_total w = w + 1

-- What a call is judged by. Of a device and an image it is read off them; the ledger tells it from what it keeps.
pub record View : Type 0 where
  pub plan : Plan
  pub short : Bool
  pub payload : List ℕ
  pub job : Job
  pub marker : ℕ → ℕ

-- Ticket 10: "4 also refuses one on an ungrouped device, past its last write or with a payload that no such group gives"
unfoldable pub bad_write : Plan → List ℕ → ℕ → Bool
bad_write p payload i = not p.grouped || (not (given p payload) || leb (length (writes p payload)) i)

-- "4 a phase whose unit is k or more, or whose stores made are not below the job's total"
unfoldable pub bad_job : Plan → List ℕ → Job → Bool
bad_job p payload cold = false
bad_job p payload ready = false
bad_job p payload (writing u made) = leb p.count u || leb (write_total (width p u)) made
bad_job p payload (recovering u made) = leb p.count u || leb (cleanup_total (width p u)) made
bad_job p payload (grouping i made) =
    bad_write p payload i || leb (write_total (width p (write_at p payload i).unit)) made

pub record Refusal : Type 0 where
  pub number : ℕ
  pub holds : Bool

infix 68 ◌when◌
abbrev pub ◌when◌ : ℕ → Bool → Refusal
◌when◌ n t = record { number = n; holds = t }

-- "The lowest number that applies is given": each row stands in the order in which it is tested, so that is the first that holds.
-- Document 01's numbers rise in it; a ticket says after which its own are tested. 0 if none holds.
unfoldable pub first : List Refusal → ℕ
first [] = 0
first (r ∷ rest) = cond r.holds r.number (first rest)

-- "The plan's author (start and every device call)"; Ticket 9: "17 for another page size, tested after 2"
abbrev pub plan_row : Plan → List Refusal
plan_row p = BAD-COUNT when bad_count p ∷ BAD-WIDTH when bad_widths p.widths p.count ∷ BAD-PAGE when bad_page p.page ∷ []

-- what every device call refuses: the plan's, "3 image too short", and 4
abbrev pub first_four : Plan → Bool → List ℕ → Job → List Refusal
first_four p short payload j = plan_row p ++ (SHORT-IMAGE when short ∷ BAD-JOB when bad_job p payload j ∷ [])

abbrev pub device_row : View → List Refusal
device_row v = first_four v.plan v.short v.payload v.job

-- "5 wrong phase (format and wake outside Cold, begin and read outside Ready, step in Cold or Ready); 6 unit k or more;
-- 7 payload length not w (begin)"; "8 that unit's marker isn't 1 (begin, read)". "Cut and inspect give 1 to 4."
unfoldable pub start_number : Plan → ℕ
start_number p = first (plan_row p)

unfoldable pub format_number : View → ℕ
format_number v = first (device_row v ++ (WRONG-PHASE when not (is_cold v.job) ∷ []))

-- Ticket 4: "14 when any unit's marker is foreign; wake tests it after 5."
unfoldable pub any_foreign : (ℕ → ℕ) → ℕ → Bool
any_foreign marker zero = false
any_foreign marker (suc k) = is_foreign (marker k) || any_foreign marker k

unfoldable pub wake_number : View → ℕ
wake_number v =
    first (device_row v ++ (WRONG-PHASE when not (is_cold v.job) ∷ FOREIGN-MARKER when any_foreign v.marker v.plan.count ∷ []))

unfoldable pub step_number : View → ℕ
step_number v = first (device_row v ++ (WRONG-PHASE when (is_cold v.job || is_ready v.job) ∷ []))

-- Ticket 9: "18 for a cut of other than p bytes, tested after 4"
unfoldable pub cut_number : View → ℕ → ℕ
cut_number v size = first (device_row v ++ (WRONG-TEAR when not (eqb size v.plan.page) ∷ []))

unfoldable pub inspect_number : View → ℕ
inspect_number v = first (device_row v)

-- Ticket 11: "22 when the right is lacking, tested after 6 and any group check". It stands before 8, so that a marker which a role may
-- not see shows in no answer.
unfoldable pub read_number : View → Role → ℕ → ℕ
read_number v role u =
    first
    (device_row v
    ++ (WRONG-PHASE when not (is_ready v.job)
    ∷ NO-UNIT when leb v.plan.count u
    ∷ NO-RIGHT when not (may_see v.plan.rights role u) ∷ BAD-MARKER when not (eqb (v.marker u) OK) ∷ []))

-- Ticket 10: the record "takes no ordinary begin"; 20 "also for a begin .. on it", "after 6"
unfoldable pub begin_number : View → Role → ℕ → ℕ → ℕ
begin_number v role u size =
    first
    (device_row v
    ++ (WRONG-PHASE when not (is_ready v.job)
    ∷ NO-UNIT when leb v.plan.count u
    ∷ UNIT-TAKEN when is_record v.plan u
    ∷ NO-RIGHT when not (may_write v.plan.rights role u)
    ∷ WRONG-SIZE when not (eqb size (width v.plan u))
    ∷ BAD-MARKER when not (eqb (v.marker u) OK)
    ∷ []))

-- Ticket 7: "15 if the sum exceeds 64 bits, tested after 8; 16 if unit 0's width isn't 8, tested after 5". Ticket 10: 20 "also for a ..
-- turns ride on it", "after 6". `held` are unit 0's bytes.
unfoldable pub ride_number : View → List ℕ → ℕ → ℕ
ride_number v held turns =
    first
    (device_row v
    ++ (WRONG-PHASE when not (is_ready v.job)
    ∷ NO-TOTAL when not (eqb (width v.plan 0) 8)
    ∷ UNIT-TAKEN when is_record v.plan 0
    ∷ BAD-MARKER when not (eqb (v.marker 0) OK)
    ∷ SUM-TOO-LARGE when ltb 18446744073709551615 (amount held + turns)
    ∷ []))

-- a unit's total as a number is refused as read is, and last if the unit is not eight bytes wide
unfoldable pub total_number : View → Role → ℕ → ℕ
total_number v role u =
    first
    (device_row v
    ++ (WRONG-PHASE when not (is_ready v.job)
    ∷ NO-UNIT when leb v.plan.count u ∷ NO-RIGHT when not (may_see v.plan.rights role u)
    ∷ BAD-MARKER when not (eqb (v.marker u) OK)
    ∷ NO-TOTAL when not (eqb (width v.plan u) 8)
    ∷ []))

-- Ticket 10: "in Ready only (else 5)"; 19, 20, 21, "all after 6, in this order, and then 8 for the record or a member"
unfoldable pub dirty : (ℕ → ℕ) → List Write → Bool
dirty marker [] = false
dirty marker (x ∷ xs) = not (eqb (marker x.unit) OK) || dirty marker xs

unfoldable pub group_number : View → List ℕ → ℕ
group_number v g =
    first
    (device_row v
    ++ (WRONG-PHASE when not (is_ready v.job)
    ∷ BAD-GROUP when unsplit v.plan g
    ∷ UNIT-TAKEN when overlaps v.plan g
    ∷ NO-RECORD when narrow v.plan g
    ∷ BAD-MARKER when (not (eqb (v.marker (last v.plan)) OK) || dirty v.marker (members v.plan g))
    ∷ []))

-- Ticket 12: "Unit 1 absent or of another width is 16, too many cents 15."; a group's 20, 21 and 8 for these two units. `turnsHeld` and
-- `centsHeld` are the bytes of unit 0 and of unit 1.
abbrev pub no_till : Plan → Bool
no_till p = leb p.count 1 || (not (eqb (width p 0) 8) || not (eqb (width p 1) 8))

unfoldable pub paid_number : View → List ℕ → List ℕ → ℕ → ℕ
paid_number v turnsHeld centsHeld turns =
    first
    (device_row v
    ++ (WRONG-PHASE when not (is_ready v.job)
    ∷ NO-TOTAL when no_till v.plan
    ∷ UNIT-TAKEN when is_record v.plan 1
    ∷ NO-RECORD when (not v.plan.grouped || ltb (width v.plan (last v.plan)) 19)
    ∷ BAD-MARKER when (not (eqb (v.marker (last v.plan)) OK) || (not (eqb (v.marker 0) OK) || not (eqb (v.marker 1) OK)))
    ∷ SUM-TOO-LARGE when (ltb 18446744073709551615 (amount turnsHeld + turns) || ltb 18446744073709551615 (amount centsHeld + price turns))
    ∷ []))
