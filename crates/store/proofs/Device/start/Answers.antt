-- `Device::start` meets its contract.
use Rattle.model.specs.Calls.{start}
use Rattle.store.proofs.Laws.{start_refused, start_accepted}
use Rattle.store.proofs.Device.start.Goals as goal

pub returns-in-Err : goal.returns-in-Err
unfolding start
returns-in-Err c = start_refused c.args.plan _ _ _ _ c.refused.ensures c.in-Err.ensures c.blank.ensures

pub returns : goal.returns
unfolding start
returns c = start_accepted c.args.plan _ _ c.in_default.ensures c.blank-2.ensures
