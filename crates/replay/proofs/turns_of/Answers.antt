-- The first eight bytes, or none.
use Rattle.std.proofs.Common.{length, ◌∙◌, ap}
use borrow.Author.Tests.{lt-ltb, le-ltb}
use Rattle.model.specs.Turns.{amount}
use Rattle.recovery.specs.Encoding.{turns_in}
use Rattle.replay.proofs.turns_of.Goals as goal

pub returns-in-Some : goal.returns-in-Some
unfolding turns_in
returns-in-Some c =
    let chunk = (c.in-Some.ensures).cases in
    rw (le-ltb (length c.args.bytes.now) 8 chunk.enough) (c.amount_of.ensures ∙ ap amount chunk.same)

pub returns-in-None : goal.returns-in-None
unfolding turns_in
returns-in-None c = rw (lt-ltb (length c.args.bytes.now) 8 (c.in-None.ensures).cases)
