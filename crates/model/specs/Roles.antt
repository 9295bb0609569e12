-- WHAT A ROLE FINDS OUT, AND WHAT IT CHANGES: Ticket 11, 'Rider, gym, service'. Both are proved in proofs/Roles.antt, of any role.
--
-- 1. Two devices that differ only in units which a role may not see answer that role alike, whatever it asks for.
-- 2. Whatever a role asks for, a unit that it may not write keeps every byte.
use Rattle.std.specs.Prelude.{ℕ, ◌<◌, ◌≡◌, List, [], ◌∷◌, length}
use Rattle.model.specs.declared.Phase.TheVariants.{Ready}
use Rattle.model.specs.declared.Role.{Role}
use Rattle.model.specs.Layout.{unit_of}
use Rattle.model.specs.Refusals.{read_number}
use Rattle.model.specs.Calls.{Device, Outcome, outcome, view}
use Rattle.model.specs.Calls as calls
use Rattle.model.specs.Demands.{MaySee, MayWrite}

-- ---- "any list of the rider's reads and begins with steps between; cut, wake and groups are left out of this list". A total is a read.
pub data Ask : Type 0 where
  read : ℕ → Ask
  total : ℕ → Ask
  begin : ℕ → List ℕ → Ask
  step : Ask

-- what a call leaves; a read only looks, so the next call gets the device and the image that the read got
unfoldable pub ask : Role → Ask → Device → List ℕ → Outcome
ask role (read u) d image = outcome (read_number (view d image) role u) d image
ask role (total u) d image = outcome (calls.total_of d image role u).number d image
ask role (begin u payload) d image = calls.begin d image role u payload
ask role step d image = calls.step d image

-- the part of the image that a call shows, and the amount: those of a read and of a total
unfoldable pub shown : Role → Ask → Device → List ℕ → List ℕ
shown role (read u) d image = calls.read d image role u
shown role (total u) d image = []
shown role (begin u payload) d image = []
shown role step d image = []

unfoldable pub amounts : Role → Ask → Device → List ℕ → ℕ
amounts role (read u) d image = 0
amounts role (total u) d image = (calls.total_of d image role u).amount
amounts role (begin u payload) d image = 0
amounts role step d image = 0

-- "answers": all that a call hands back
pub record Reply : Type 0 where
  pub number : ℕ
  pub part : List ℕ
  pub amount : ℕ
  pub device : Device

abbrev pub reply : Role → Ask → Device → List ℕ → Reply
reply role a d image =
    record {
      number = (ask role a d image).number;
      part = shown role a d image;
      amount = amounts role a d image;
      device = (ask role a d image).device;
    }

-- of each call in turn; and the image after the last
unfoldable pub replies : Role → List Ask → Device → List ℕ → List Reply
replies role [] d image = []
replies role (a ∷ asks) d image =
    reply role a d image ∷ replies role asks (ask role a d image).device (ask role a d image).image

unfoldable pub leaves : Role → List Ask → Device → List ℕ → List ℕ
leaves role [] d image = image
leaves role (a ∷ asks) d image = leaves role asks (ask role a d image).device (ask role a d image).image

-- ---- "Two Ready devices alike in plan, grouping, rights, count and payload" (the plan has grouping and rights) "over images of equal
-- length that are alike in every unit a rider may see, give that rider equal answers"
abbrev pub Unseen : Type 0
Unseen =
    (role : Role) (d d' : Device) (image image' : List ℕ)
    → d.phase ≡ Ready → d'.phase ≡ Ready
    → d.plan ≡ d'.plan → d.stores ≡ d'.stores → d.payload ≡ d'.payload
    → length image ≡ length image'
    → ((u : ℕ) → u < d.plan.count → MaySee d.plan.rights role u → unit_of d.plan image u ≡ unit_of d.plan image' u)
    → (asks : List Ask) → replies role asks d image ≡ replies role asks d' image'

-- ---- A unit that a role may not write keeps its marker, both copies and its filler.
abbrev pub Untouched : Type 0
Untouched =
    (role : Role) (d : Device) (image : List ℕ)
    → d.phase ≡ Ready
    → (asks : List Ask)
    → (u : ℕ) → u < d.plan.count → ¬ MayWrite d.plan.rights role u
    → unit_of d.plan (leaves role asks d image) u ≡ unit_of d.plan image u
