-- `replay::until_cut` meets its contract: a list and the cut that closes it.
use Rattle.recovery.specs.Encoding.{calls_of}
use Rattle.recovery.proofs.Lived.{cut_off}
use Rattle.replay.proofs.until_cut.Goals as goal

pub returns : goal.returns
returns c =
    let a = c.args in
    cut_off a.plan a.image.now (calls_of a.calls.now) a.page.now _ _ _ _ _ _ _ c.start-started.ensures c.format-formatted.ensures
    c.replay-last.ensures c.cut.ensures
