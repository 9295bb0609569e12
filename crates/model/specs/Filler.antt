-- FILLER IS NEVER READ, Ticket 9. What the calls answer, the devices that they give and what they do to markers and copies do not
-- depend on the bytes that fill the pages up. It is proved in proofs/Filler.antt.
use Rattle.std.specs.Prelude.{ℕ, ◌<◌, ◌≡◌, List, length}
use Rattle.model.specs.declared.Plan.{Plan}
use Rattle.model.specs.declared.Role.{Role}
use Rattle.model.specs.Layout.{Cell, InUnit, width, get}
use Rattle.model.specs.Calls.{Device, Outcome, outcome}
use Rattle.model.specs.Calls as calls
use Rattle.model.specs.Ledger.{Call}
use Rattle.model.specs.PowerCut.{run, answers}

-- two images of one length with the same bytes in every marker and copy: they may differ in filler, and after the units
pub record SameCells (p : Plan) (x y : List ℕ) : Type 0 where
  pub size : length x ≡ length y
  pub cells : (u : ℕ) → u < p.count → (c : Cell) → InUnit (width p u) c → get p x u c ≡ get p y u c

-- two outcomes that differ in no more
pub record SameOutcome (o o' : Outcome) : Type 0 where
  pub number : o.number ≡ o'.number
  pub device : o.device ≡ o'.device
  pub image : SameCells o.device.plan o.image o'.image

-- whatever the device, and whether or not its calls are refused
pub record Unread (d : Device) (x y : List ℕ) : Type 0 where
  pub answered : (cs : List Call) → answers cs (outcome 0 d x) ≡ answers cs (outcome 0 d y)
  pub left : (cs : List Call) → SameOutcome (run cs (outcome 0 d x)) (run cs (outcome 0 d y))
  pub shown : (role : Role) (u : ℕ) → calls.read d x role u ≡ calls.read d y role u
  pub totalled : (role : Role) (u : ℕ) → calls.total_of d x role u ≡ calls.total_of d y role u
  pub inspected : calls.inspect d x ≡ calls.inspect d y

abbrev pub FillerUnread : Type 0
FillerUnread = (d : Device) (x y : List ℕ) → SameCells d.plan x y → Unread d x y
