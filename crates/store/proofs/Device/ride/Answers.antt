-- `Device::ride` meets its contract.
use mathlib.Core.Path.{refl, ◌∙◌}
use mathlib.Core.List.{List}
use Prim.Native.Nat.{ℕ}
use Rattle.model.specs.declared.Plan.{Plan}
use Rattle.model.specs.Refusals.{View}
use Rattle.model.specs.Layout.{copy_a, copy_of}
use Rattle.model.specs.Refusals.{ride_number}
use Rattle.model.specs.Calls.{ride}
use Rattle.store.proofs.Laws.{judged, refused, accepted, at_phase}
use Rattle.store.proofs.Rides.{ride_fits, ride_sum}
use Rattle.store.proofs.Device.ride.Goals as goal

pub returns-in-Err : goal.returns-in-Err
unfolding ride
returns-in-Err c = let a = c.args in
    refused a.self a.image.now _ _ _ _ c.refused.ensures (c.in-Err.ensures ∙ judged (λ (v : View) (p : Plan) (xs : List ℕ). ride_number v (copy_of p xs 0 copy_a) a.turns) c.view.ensures.seen c.view.ensures.plan c.view.ensures.image)

pub ridden-requires : goal.ridden-requires
ridden-requires c = let a = c.args in
    ride_fits a.self a.image.now a.turns (c.in_default.ensures ∙ judged (λ (v : View) (p : Plan) (xs : List ℕ). ride_number v (copy_of p xs 0 copy_a) a.turns) c.view.ensures.seen c.view.ensures.plan c.view.ensures.image)

pub returns : goal.returns
unfolding ride
returns c = let a = c.args in
    let e = (c.in_default.ensures ∙ judged (λ (v : View) (p : Plan) (xs : List ℕ). ride_number v (copy_of p xs 0 copy_a) a.turns) c.view.ensures.seen c.view.ensures.plan c.view.ensures.image) in
    accepted a.self a.image.now _ _ _ _ e
    (at_phase a.self _ _ _ _ _ _ _ c.at.ensures refl (c.ridden.ensures ∙ ride_sum a.self a.image.now a.turns e) refl)
