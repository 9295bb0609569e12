-- THE POWER-CUT THEOREM, demand 3 of document 01, as one statement. It is proved in proofs/Theorem.antt.
--
-- Format a device. Then let anything happen: begins by any role, of any unit, with any payload, rides, groups of any bytes, paid rides,
-- steps, power cuts that leave any bytes in a page, wakes, in any order, calls that are refused among them; and at last one more cut, which
-- is accepted. Then one wake and an exact number of steps bring every marker to OK and both copies of every unit to the payload of its last
-- write that passed, where a group's members pass all at once; and no group record is left standing.
use Rattle.std.specs.Prelude.{ℕ, ◌+◌, ◌≤◌, ◌<◌, ◌≡◌, List, [], ◌∷◌, ◌++◌, true, cond, length, drop, replicate}
use Rattle.model.specs.declared.Plan.{Plan}
use Rattle.model.specs.declared.Phase.TheVariants.{Ready}
use Rattle.model.specs.Marker.{OK}
use Rattle.model.specs.Layout.{Copy, marker, width, total, get, copy_of}
use Rattle.model.specs.Groups.{Write, last, padded, stands, remaining}
use Rattle.model.specs.Refusals.{write_total}
use Rattle.model.specs.Calls.{Device, Outcome, AllMarkersOk, record_in}
use Rattle.model.specs.Calls as calls
use Rattle.model.specs.Ledger.{Call, begin, ride, group, paid, step, cut, wake, opening, tells, after}

-- ---- Lists of calls: each call gets the device and the image that the one before left.
unfoldable pub call : Call → Outcome → Outcome
call (begin role u payload) o = calls.begin o.device o.image role u payload
call (ride turns) o = calls.ride o.device o.image turns
call (group g) o = calls.group o.device o.image g
call (paid turns) o = calls.paid_ride o.device o.image turns
call step o = calls.step o.device o.image
call (cut bytes) o = calls.cut o.device o.image bytes
call wake o = calls.wake o.device o.image

unfoldable pub run : List Call → Outcome → Outcome
run [] o = o
run (c ∷ cs) o = run cs (call c o)

unfoldable pub answers : List Call → Outcome → List ℕ
answers [] o = []
answers (c ∷ cs) o = (call c o).number ∷ answers cs (call c o)

-- a list closed by a cut with these bytes
abbrev pub closed_by : List ℕ → List Call → List Call
closed_by bytes cs = cs ++ (cut bytes ∷ [])

-- one wake, and then n steps
abbrev pub repair : ℕ → List Call
repair n = wake ∷ replicate n step

-- ---- What the closing cut may leave, and how many steps its cleanup takes.
pub data Repairs (p : Plan) (image : List ℕ) : ℕ → Type 0 where
  -- every marker is OK: none
  none : AllMarkersOk p image → Repairs p image 0
  -- one unit's marker isn't: 1 plus the width of that only unit
  only : (u : ℕ) → u < p.count
      → ¬ (get p image u marker ≡ OK)
      → ((v : ℕ) → v < p.count → ¬ (v ≡ u) → get p image v marker ≡ OK)
      → Repairs p image (1 + width p u)

-- Ticket 10: "The steps to Ready add 2w + 3 for each member and the record if one stands after cleanup."
unfoldable pub stores_of : Plan → List Write → ℕ
stores_of p [] = 0
stores_of p (x ∷ xs) = write_total (width p x.unit) + stores_of p xs

-- `bytes` are the record unit's
unfoldable pub added : Plan → List ℕ → ℕ
added p bytes = cond (stands p bytes) (stores_of p (remaining p (padded bytes))) 0

-- the steps of a repair: the cleanup's, and those of the record that stands after it. `cutOff` is what the closing cut left.
pub record Takes (p : Plan) (cutOff : Outcome) (steps : ℕ) : Type 0 where
  pub cleaning : ℕ
  pub needed : Repairs p cutOff.image cleaning
  pub exactly : steps ≡ cleaning + added p (record_in p (run (repair cleaning) cutOff).image)

-- ---- The repair. `before` is the image as it was before format.
pub record Repaired (p : Plan) (before : List ℕ) (saved : ℕ → List ℕ) (cutOff : Outcome) : Type 0 where
  pub steps : ℕ
  pub needed : Takes p cutOff steps
  -- the wake answers 0, and so does each step
  pub accepted : answers (repair steps) cutOff ≡ replicate (1 + steps) 0
  -- the phase is Ready after exactly that many steps, and after none fewer
  pub ready : (run (repair steps) cutOff).device.phase ≡ Ready
  pub not_earlier : (n : ℕ) → n < steps → ¬ ((run (repair n) cutOff).device.phase ≡ Ready)
  -- then every marker is OK, and both copies of every unit are its saved bytes
  pub markers : AllMarkersOk p (run (repair steps) cutOff).image
  pub copies : (u : ℕ) → u < p.count → (c : Copy) → copy_of p (run (repair steps) cutOff).image u c ≡ saved u
  -- Ticket 10: "the record unit ends as zeros"
  pub cleared : p.grouped ≡ true → saved (last p) ≡ replicate (width p (last p)) 0
  -- the bytes after the units, and the image's length, are as they were
  pub rest : drop (total p) (run (repair steps) cutOff).image ≡ drop (total p) before
  pub size : length (run (repair steps) cutOff).image ≡ length before

-- ---- After the format that gave f: every list of calls that a cut closes.
pub record Survives (p : Plan) (before : List ℕ) (f : Outcome) (bytes : List ℕ) (cs : List Call) : Type 0 where
  -- each call answers what the ledger tells: the refusal's number, or 0
  pub answered : answers (closed_by bytes cs) f ≡ tells p (opening p) (closed_by bytes cs)
  pub repaired : Repaired p before (after p (opening p) (closed_by bytes cs)).saved (run (closed_by bytes cs) f)

-- Ticket 9: "Every claim's closing cut is now an accepted one": a cut with these bytes is, where the list from f ends
abbrev pub Closes : List ℕ → List Call → Outcome → Type 0
Closes bytes cs f = (call (cut bytes) (run cs f)).number ≡ 0

-- "A formatted device is the Ready device that an accepted format returns, with the image it leaves."
abbrev pub PowerCut : Type 0
PowerCut =
    (d : Device) (image : List ℕ)
    → (calls.format d image).number ≡ 0
    → (cs : List Call) (bytes : List ℕ)
    → Closes bytes cs (calls.format d image)
    → Survives d.plan image (calls.format d image) bytes cs

-- The same from start: whatever plan start accepts, and whatever image is long enough for it, format accepts.
abbrev pub PowerCutFromStart : Type 0
PowerCutFromStart =
    (p : Plan) (image : List ℕ)
    → (calls.start p).number ≡ 0
    → total p ≤ length image
    → ((calls.format (calls.start p).device image).number ≡ 0)
    × ((cs : List Call) (bytes : List ℕ)
    → Closes bytes cs (calls.format (calls.start p).device image)
    → Survives p image (calls.format (calls.start p).device image) bytes cs)

-- Such a closing cut there is after every list, whichever of the four sizes a page has: the cuts that are accepted are those of as
-- many bytes as a page has.
abbrev pub CutAccepted : Type 0
CutAccepted =
    (d : Device) (image : List ℕ)
    → (calls.format d image).number ≡ 0
    → (cs : List Call) (bytes : List ℕ)
    → (length bytes ≡ d.plan.page → Closes bytes cs (calls.format d image))
    × (Closes bytes cs (calls.format d image) → length bytes ≡ d.plan.page)
