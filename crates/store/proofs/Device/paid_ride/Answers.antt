-- `Device::paid_ride` meets its contract.
use mathlib.Core.Path.{refl, ap, ◌∙◌}
use mathlib.Core.List.{List}
use Prim.Native.Nat.{ℕ}
use Rattle.model.specs.declared.Plan.{Plan}
use Rattle.model.specs.Refusals.{View}
use Rattle.model.specs.Layout.{copy_a, copy_of}
use Rattle.model.specs.Refusals.{paid_number}
use Rattle.model.specs.Calls.{paid_ride}
use Rattle.store.proofs.Laws.{judged, refused, accepted, at_phase}
use Rattle.model.specs.Groups.{payload_of}
use Rattle.store.proofs.Paid.{paid_fits}
use Rattle.store.proofs.Device.paid_ride.Goals as goal

pub returns-in-Err : goal.returns-in-Err
unfolding paid_ride
returns-in-Err c = let a = c.args in
    refused a.self a.image.now _ _ _ _ c.refused.ensures (c.in-Err.ensures ∙ judged (λ (v : View) (p : Plan) (xs : List ℕ). paid_number v (copy_of p xs 0 copy_a) (copy_of p xs 1 copy_a) a.turns) c.view.ensures.seen c.view.ensures.plan c.view.ensures.image)

pub fare-members-requires : goal.fare-members-requires
fare-members-requires c = let a = c.args in
    paid_fits a.self a.image.now a.turns (c.in_default.ensures ∙ judged (λ (v : View) (p : Plan) (xs : List ℕ). paid_number v (copy_of p xs 0 copy_a) (copy_of p xs 1 copy_a) a.turns) c.view.ensures.seen c.view.ensures.plan c.view.ensures.image)

pub returns : goal.returns
unfolding paid_ride
returns c = let a = c.args in
    accepted a.self a.image.now _ _ _ _ (c.in_default.ensures ∙ judged (λ (v : View) (p : Plan) (xs : List ℕ). paid_number v (copy_of p xs 0 copy_a) (copy_of p xs 1 copy_a) a.turns) c.view.ensures.seen c.view.ensures.plan c.view.ensures.image)
    (at_phase a.self _ _ _ _ _ _ _ c.at.ensures refl (c.record_of-record.ensures ∙ ap (payload_of a.self.plan) c.fare-members.ensures) refl)
