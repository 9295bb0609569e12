-- `replay::come_back` meets its contract: the steps are the repair's, and more.
use Rattle.recovery.proofs.Lived.{came_back}
use Rattle.replay.proofs.come_back.Goals as goal

pub returns : goal.returns
returns c = let a = c.args in
    came_back a.plan a.image.now 65535 _ _ _ _ c.start-started.ensures c.wake-woken.ensures c.steps.ensures
