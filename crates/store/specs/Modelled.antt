-- The library's structs as the model's records, field by field, and what every call's contract says with them.
use Rattle.std.specs.Prelude.{ℕ, ◌≡◌, List, Result, Ok, Err}
use Rattle.store.specs.declared.Device.{Device}
use Rattle.store.specs.declared.Answer.{Answer}
use Rattle.model.specs.declared.refusals.Refusal.{Refusal}
use Rattle.model.specs.Numbers.{numbered}
use Rattle.model.specs.declared.Plan.{Plan}
use Rattle.model.specs.declared.Phase.{Phase}
use Rattle.model.specs.Calls as model

abbrev pub modelled : Device → model.Device
modelled d = record { plan = d.plan; payload = d.payload; phase = d.phase; stores = d.stores }

-- start, format and cut leave a zero payload
abbrev pub blanked : Plan → Phase → ℕ → model.Device
blanked p phase stores = record { plan = p; payload = model.zero_payload; phase = phase; stores = stores }

-- The answer r, with the image that the call left, is the outcome o: number, next device, every byte.
pub record Gives (r : Answer) (left : List ℕ) (o : model.Outcome) : Type 0 where
  pub number : r.number ≡ o.number
  pub device : modelled r.device ≡ o.device
  pub image : left ≡ o.image

-- start has no image
pub record Starts (r : Answer) (a : model.Answer) : Type 0 where
  pub number : r.number ≡ a.number
  pub device : modelled r.device ≡ a.device

-- a total is looked at, and has neither; refused, it shows 0
abbrev pub shown : Result ℕ Refusal → ℕ
shown (Ok amount) = amount
shown (Err e) = 0

pub record Shows (r : Result ℕ Refusal) (t : model.Total) : Type 0 where
  pub number : numbered r ≡ t.number
  pub amount : shown r ≡ t.amount
