-- `replay::outage` meets its contract: the power-cut theorem over the answers of its two halves.
use native.Mathlib.Omega.{arith}
use Rattle.recovery.specs.Encoding.{calls_of}
use Rattle.recovery.proofs.Lived.{restored}
use Rattle.replay.proofs.outage.Goals as goal

pub returns : goal.returns
returns c =
    let a = c.args in
    restored a.plan a.image.now (calls_of a.calls.now) a.page.now _ _ _ 65535 (omega arith) (omega arith) c.until_cut.ensures c.come_back.ensures
