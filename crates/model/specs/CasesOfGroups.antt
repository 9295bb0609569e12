-- Ticket 10's edges as tables, worked out by hand from its words. Device and ledger share a group's split and its writes, so the power-cut
-- theorem cannot notice a member that is lost there: these rows do. proofs/CasesOfGroups.antt has the theorem that the definitions give
-- every row.
use Rattle.std.specs.Prelude.{ℕ, ◌≡◌, Bool, true, false, List, [], ◌∷◌, ◌++◌, length, take, replicate}
use Rattle.model.specs.declared.Plan.{Plan}
use Rattle.model.specs.declared.Role.TheVariants.{Service}
use Rattle.model.specs.declared.Phase.{Phase}
use Rattle.model.specs.declared.Phase.TheVariants.{Cold, Ready, Grouping}
use Rattle.model.specs.Groups.{Write, write, member_count, members, payload_of, writes}
use Rattle.model.specs.Rights.{service_rights}
use Rattle.model.specs.Refusals.{group_number, begin_number, step_number}
use Rattle.model.specs.Calls.{Device, Outcome, view}
use Rattle.model.specs.Calls as calls
use Rattle.model.specs.Ledger.{Ledger, Call, group, step, cut, wake, opening, after}
use Rattle.model.specs.PowerCut.{run, repair}

-- widths 1, 1 and 5: the record holds a group of two members of one byte, and no more
abbrev plan115 : Bool → Plan
plan115 grouped = record { count = 3; widths = 1 ∷ 1 ∷ 5 ∷ replicate 5 0; page = 1; grouped = grouped; rights = service_rights }

-- 51 into unit 0 and 68 into unit 1
abbrev ride : List ℕ
ride = 0 ∷ 51 ∷ 1 ∷ 68 ∷ []

abbrev standing : List ℕ
standing = 2 ∷ 0 ∷ 51 ∷ 1 ∷ 68 ∷ replicate 251 0

abbrev formatted_device : Outcome
formatted_device = calls.format (calls.start (plan115 true)).device (replicate 17 7)

-- ---- bytes split into members, and the record that they give
-- widths 1, 2, 256, 1 and 9
abbrev wide : Plan
wide = record { count = 5; widths = 1 ∷ 2 ∷ 256 ∷ 1 ∷ 9 ∷ replicate 3 0; page = 4; grouped = true; rights = service_rights }

-- how many members the bytes are, which, and the first bytes of the record
abbrev Parted : List ℕ → ℕ → List Write → List ℕ → Type 0
Parted bytes count ms r =
    (member_count wide bytes ≡ count) × (members wide bytes ≡ ms) × (take (length r) (payload_of wide bytes) ≡ r)

abbrev Unparted : List ℕ → Type 0
Unparted bytes = Parted bytes 0 [] (0 ∷ bytes)

pub record EveryParting : Type 0 where
  pub two : Parted (0 ∷ 51 ∷ 1 ∷ 68 ∷ 69 ∷ []) 2 (write 0 (51 ∷ []) ∷ write 1 (68 ∷ 69 ∷ []) ∷ []) (2 ∷ 0 ∷ 51 ∷ 1 ∷ 68 ∷ 69 ∷ 0 ∷ [])
  -- the second first, and a payload that looks like a member
  pub in_order : Parted (1 ∷ 0 ∷ 51 ∷ 0 ∷ 1 ∷ []) 2 (write 1 (0 ∷ 51 ∷ []) ∷ write 0 (1 ∷ []) ∷ []) (2 ∷ 1 ∷ 0 ∷ 51 ∷ 0 ∷ 1 ∷ 0 ∷ [])
  pub three : Parted (3 ∷ 7 ∷ 0 ∷ 8 ∷ 1 ∷ 9 ∷ 9 ∷ []) 3 (write 3 (7 ∷ []) ∷ write 0 (8 ∷ []) ∷ write 1 (9 ∷ 9 ∷ []) ∷ [])
      (3 ∷ 3 ∷ 7 ∷ 0 ∷ 8 ∷ 1 ∷ 9 ∷ 9 ∷ 0 ∷ [])
  -- the same unit again, and the record, split as others do; they are 20
  pub four : Parted (0 ∷ 1 ∷ 0 ∷ 2 ∷ 0 ∷ 3 ∷ 4 ∷ replicate 9 5) 4
      (write 0 (1 ∷ []) ∷ write 0 (2 ∷ []) ∷ write 0 (3 ∷ []) ∷ write 4 (replicate 9 5) ∷ [])
      (4 ∷ 0 ∷ 1 ∷ 0 ∷ 2 ∷ 0 ∷ 3 ∷ 4 ∷ replicate 9 5)
  -- a member of width 256; a byte less
  pub widest : Parted (2 ∷ replicate 256 6 ++ (0 ∷ 1 ∷ [])) 2 (write 2 (replicate 256 6) ∷ write 0 (1 ∷ []) ∷ [])
      (2 ∷ 2 ∷ replicate 256 6 ++ (0 ∷ 1 ∷ []))
  pub widest_short : Unparted (2 ∷ replicate 255 6)
  pub none : Unparted []
  pub one : Unparted (0 ∷ 51 ∷ [])
  pub five : Unparted (0 ∷ 1 ∷ 0 ∷ 2 ∷ 0 ∷ 3 ∷ 0 ∷ 4 ∷ 0 ∷ 5 ∷ [])
  -- a byte too few; a byte too many, which begins a member
  pub byte_short : Unparted (0 ∷ 51 ∷ 1 ∷ 68 ∷ [])
  pub byte_more : Unparted (0 ∷ 51 ∷ 1 ∷ 68 ∷ 69 ∷ 0 ∷ [])
  pub unit_k : Unparted (0 ∷ 51 ∷ 5 ∷ [])
  pub unit255 : Unparted (0 ∷ 51 ∷ 255 ∷ [])

-- ---- the image after the group, n steps, a cut with the byte m, a wake and r steps, and the phase
pub record Left : Type 0 where
  pub phase : Phase
  pub image : List ℕ

abbrev left : List Call → Left
left cs = record { phase = (run cs formatted_device).device.phase; image = (run cs formatted_device).image }

abbrev torn : ℕ → ℕ → ℕ → Left
torn n m r = left (group ride ∷ replicate n step ++ (cut (m ∷ []) ∷ repair r))

-- Ready with unit 0 holding x and unit 1 holding y, and the record zeros
abbrev holding : ℕ → ℕ → Left
holding x y =
    record { phase = Ready; image = 1 ∷ x ∷ x ∷ 1 ∷ y ∷ y ∷ 1 ∷ replicate 10 0 }

pub record EveryTear : Type 0 where
  -- at the record's store 7, leaving A and leaving 0: 13 stores of the record, 5 of each member, 13 of the zeros
  pub not_passed : torn 6 0 6 ≡ holding 0 0
  pub passed : torn 6 2 29 ≡ holding 51 68
  -- in a member, whose own write does not pass
  pub in_member : torn 15 9 25 ≡ holding 51 68
  -- in the zeros, at their store 7: the record stands still, and stands no more
  pub not_cleared : torn 29 0 29 ≡ holding 51 68
  pub cleared : torn 29 2 6 ≡ holding 51 68
  -- the whole record, where no marker is bad, and it stands; and a second cut, in the rewrite of unit 0
  pub again : left (group ride ∷ replicate 13 step ++ (cut (0 ∷ []) ∷ wake ∷ replicate 4 step ++ (cut (0 ∷ []) ∷ repair 25))) ≡ holding 51 68

-- ---- what the ledger has as saved for the units 0 and 1, after so many stores of the group, and after a cut at the next
abbrev saved_by : List Call → List (List ℕ)
saved_by cs =
    let l : Ledger = after (plan115 true) (opening (plan115 true)) cs in
    l.saved 0 ∷ l.saved 1 ∷ l.saved 2 ∷ []

abbrev saved_at : ℕ → List (List ℕ)
saved_at n = saved_by (group ride ∷ replicate n step)

abbrev both_old : List (List ℕ)
both_old = (0 ∷ []) ∷ (0 ∷ []) ∷ replicate 5 0 ∷ []

abbrev both_new : List (List ℕ)
both_new = (51 ∷ []) ∷ (68 ∷ []) ∷ replicate 5 0 ∷ []

pub record EverySaved : Type 0 where
  -- the record's store 7 is the one at which all pass; a member's own is not
  pub begun : saved_at 0 ≡ both_old
  pub before : saved_at 6 ≡ both_old
  pub passed : saved_at 7 ≡ both_new
  pub recorded : saved_at 13 ≡ both_new
  pub in_member : saved_at 16 ≡ both_new
  pub whole : saved_at 36 ≡ both_new
  -- torn, the record's store 7 leaves 2, and another byte
  pub torn_to_a : saved_by (group ride ∷ replicate 6 step ++ (cut (0 ∷ []) ∷ [])) ≡ both_old
  pub torn_off : saved_by (group ride ∷ replicate 6 step ++ (cut (2 ∷ []) ∷ [])) ≡ both_new

-- ---- four members: the record, each in the order of the group, and the zeros
abbrev plan11119 : Plan
plan11119 = record { count = 5; widths = 1 ∷ 1 ∷ 1 ∷ 1 ∷ 9 ∷ replicate 3 0; page = 1; grouped = true; rights = service_rights }

abbrev opened : Outcome
opened = calls.format (calls.start plan11119).device (replicate 31 7)

abbrev four : List ℕ
four = 2 ∷ 52 ∷ 0 ∷ 50 ∷ 3 ∷ 53 ∷ 1 ∷ 51 ∷ []

abbrev pub EveryWrite : Type 0
EveryWrite =
    writes plan11119 (payload_of plan11119 four)
    ≡ write 4 (4 ∷ four)
    ∷ write 2 (52 ∷ [])
    ∷ write 0 (50 ∷ [])
    ∷ write 3 (53 ∷ [])
    ∷ write 1 (51 ∷ [])
    ∷ write 4 (replicate 9 0)
    ∷ []

-- ---- 19 to 21, 8, 5; 20 for a begin; 4
abbrev device : Bool → Phase → List ℕ → Device
device grouped phase payload = record { plan = plan115 grouped; payload = payload; phase = phase; stores = 0 }

abbrev marked : ℕ → ℕ → ℕ → List ℕ
marked a b c = a ∷ 0 ∷ 0 ∷ b ∷ 0 ∷ 0 ∷ c ∷ replicate 10 0

abbrev asked : Bool → Phase → List ℕ → List ℕ → ℕ
asked grouped phase image g = group_number (view (device grouped phase (replicate 256 0)) image) g

abbrev good : List ℕ
good = marked 1 1 1

abbrev narrower : Device
narrower =
    record {
      plan = record { count = 3; widths = 1 ∷ 1 ∷ 4 ∷ replicate 5 0; page = 1; grouped = true; rights = service_rights };
      payload = replicate 256 0;
      phase = Ready;
      stores = 0;
    }

abbrev step_at : Bool → List ℕ → ℕ → ℕ → ℕ
step_at grouped payload i made = step_number (view (device grouped (Grouping i made) payload) good)

-- a ride on a plan of one unit, whose marker is m
abbrev ride_on : Bool → ℕ → ℕ → ℕ
ride_on grouped w m =
    (calls.ride
    (record {
      plan = record { count = 1; widths = w ∷ replicate 7 0; page = 1; grouped = grouped; rights = service_rights };
      payload = replicate 256 0;
      phase = Ready;
      stores = 0;
    })
    (m ∷ replicate 16 0) 1).number

pub record EveryGroupNumber : Type 0 where
  pub two : asked true Ready good ride ≡ 0
  pub three : group_number (view opened.device opened.image) (0 ∷ 50 ∷ 1 ∷ 51 ∷ 2 ∷ 52 ∷ []) ≡ 0
  pub of_four : group_number (view opened.device opened.image) four ≡ 0
  -- 5: Ready only, before 19
  pub in_cold : asked true Cold good [] ≡ 5
  -- 19, before 20
  pub one : asked true Ready good (0 ∷ 51 ∷ []) ≡ 19
  pub byte_short : asked true Ready good (0 ∷ 51 ∷ 1 ∷ []) ≡ 19
  pub byte_more : asked true Ready good (0 ∷ 51 ∷ 1 ∷ 68 ∷ 0 ∷ []) ≡ 19
  pub unit_k : asked true Ready good (0 ∷ 51 ∷ 3 ∷ 68 ∷ []) ≡ 19
  pub twice_and_more : asked true Ready good (0 ∷ 51 ∷ 0 ∷ 68 ∷ 1 ∷ []) ≡ 19
  -- 20, before 21
  pub twice : asked true Ready good (0 ∷ 51 ∷ 0 ∷ 68 ∷ []) ≡ 20
  pub the_record : asked true Ready good (0 ∷ 51 ∷ 2 ∷ 1 ∷ 2 ∷ 3 ∷ 4 ∷ 5 ∷ []) ≡ 20
  -- 21, before 8: no record (then unit 2 is a unit as any other); a byte too narrow
  pub no_record : asked false Ready good ride ≡ 21
  pub no_record_either : asked false Ready (marked 1 2 2) (0 ∷ 51 ∷ 2 ∷ 1 ∷ 2 ∷ 3 ∷ 4 ∷ 5 ∷ []) ≡ 21
  pub byte_narrow : group_number (view narrower (marked 2 2 2)) ride ≡ 21
  -- 8
  pub record_marker : asked true Ready (marked 1 1 2) ride ≡ 8
  pub member_marker : asked true Ready (marked 1 4 1) ride ≡ 8
  -- begin: 20 after 6 and before 7; the last unit of an ungrouped device is as any other
  pub begin_past : begin_number (view (device true Ready []) good) Service 3 0 ≡ 6
  pub begin_record : begin_number (view (device true Ready []) good) Service 2 0 ≡ 20
  pub begin_last : begin_number (view (device false Ready []) good) Service 2 0 ≡ 7
  -- a ride: 20 after 16 and before 8, where the only unit is the record
  pub ride_record : ride_on true 8 2 ≡ 20
  pub ride_narrow : ride_on true 7 2 ≡ 16
  pub ride_alone : ride_on false 8 2 ≡ 8
  -- 4: ungrouped; past the last of four writes; as many stores made as the write has; a payload that no group gives
  pub last_store : step_at true standing 3 12 ≡ 0
  pub ungrouped : step_at false standing 0 0 ≡ 4
  pub past_last : step_at true standing 4 0 ≡ 4
  pub all_made : step_at true standing 1 5 ≡ 4
  pub no_group : step_at true (replicate 256 0) 0 0 ≡ 4
  pub byte_after : step_at true (2 ∷ 0 ∷ 51 ∷ 1 ∷ 68 ∷ 9 ∷ replicate 250 0) 0 0 ≡ 4

-- ---- a record that no group gives is passed over, and left as it is: wake over good markers, with these copies of the last unit
abbrev woken_over : Device → List ℕ → List ℕ → Phase
woken_over d a b = (calls.wake d (1 ∷ 0 ∷ 0 ∷ 1 ∷ 0 ∷ 0 ∷ 1 ∷ (a ++ b))).device.phase

-- a record as wide as the group and its count, and one that is two bytes wider
abbrev tight : List ℕ → List ℕ → Phase
tight = woken_over (device true Cold [])

abbrev roomy : List ℕ → Phase
roomy a =
    woken_over
    (record {
      plan = record { count = 3; widths = 1 ∷ 1 ∷ 7 ∷ replicate 5 0; page = 1; grouped = true; rights = service_rights };
      payload = [];
      phase = Cold;
      stores = 0;
    })
    a (replicate 7 0)

abbrev blank : List ℕ
blank = replicate 5 0

pub record EveryRecord : Type 0 where
  -- taken from copy A
  pub from_a : tight (2 ∷ 0 ∷ 51 ∷ 1 ∷ 68 ∷ []) blank ≡ Grouping 1 0
  pub not_from_b : tight blank (2 ∷ 0 ∷ 51 ∷ 1 ∷ 68 ∷ []) ≡ Ready
  pub one : tight (1 ∷ 0 ∷ 51 ∷ 0 ∷ 0 ∷ []) blank ≡ Ready
  pub twice : tight (2 ∷ 0 ∷ 51 ∷ 0 ∷ 68 ∷ []) blank ≡ Ready
  pub other_count : tight (3 ∷ 0 ∷ 51 ∷ 1 ∷ 68 ∷ []) blank ≡ Ready
  pub unit_k : tight (2 ∷ 0 ∷ 51 ∷ 3 ∷ 68 ∷ []) blank ≡ Ready
  pub ungrouped : woken_over (device false Cold []) (2 ∷ 0 ∷ 51 ∷ 1 ∷ 68 ∷ []) blank ≡ Ready
  -- zeros after the members; another byte there, the first and the last
  pub zeros : roomy (2 ∷ 0 ∷ 51 ∷ 1 ∷ 68 ∷ 0 ∷ 0 ∷ []) ≡ Grouping 1 0
  pub first_after : roomy (2 ∷ 0 ∷ 51 ∷ 1 ∷ 68 ∷ 9 ∷ 0 ∷ []) ≡ Ready
  pub last_after : roomy (2 ∷ 0 ∷ 51 ∷ 1 ∷ 68 ∷ 0 ∷ 9 ∷ []) ≡ Ready
