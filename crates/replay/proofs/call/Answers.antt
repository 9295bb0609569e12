-- `replay::call` meets its contract: by the kind.
use Rattle.model.specs.PowerCut.{call}
use Rattle.replay.proofs.call.Goals as goal

pub returns-in-Begin : goal.returns-in-Begin
unfolding call
returns-in-Begin c = rw (← c.in-Begin.ensures c.args.asked.unit c.args.asked.own.now) c.begin.ensures

pub returns-in-Cut : goal.returns-in-Cut
unfolding call
returns-in-Cut c = rw (← c.in-Cut.ensures c.args.asked.unit c.args.asked.own.now) c.cut.ensures

pub returns-in-Wake : goal.returns-in-Wake
unfolding call
returns-in-Wake c = rw (← c.in-Wake.ensures c.args.asked.unit c.args.asked.own.now) c.wake.ensures

pub returns-in-Ride : goal.returns-in-Ride
unfolding call
returns-in-Ride c = rw (← c.in-Ride.ensures c.args.asked.unit c.args.asked.own.now, ← c.turns_of.ensures) c.ride.ensures

pub returns-in-Group : goal.returns-in-Group
unfolding call
returns-in-Group c = rw (← c.in-Group.ensures c.args.asked.unit c.args.asked.own.now) c.group.ensures

pub returns-in-PaidRide : goal.returns-in-PaidRide
unfolding call
returns-in-PaidRide c = rw (← c.in-PaidRide.ensures c.args.asked.unit c.args.asked.own.now, ← c.turns_of-in-PaidRide.ensures) c.paid_ride.ensures

pub returns-in-Step : goal.returns-in-Step
unfolding call
returns-in-Step c = rw (← c.in-Step.ensures c.args.asked.unit c.args.asked.own.now) c.step.ensures
