-- `play::run_input` meets its contract: what was read stands at the front of the room.
use Rattle.std.proofs.Common.{ℕ, take, arith, length-take-le}
use Rattle.std.proofs.lemmas.List.{length-replicate}
use Rattle.std.specs.Prelude.{Result, Ok, Err, IfOk}
use Rattle.play.specs.Input.{ReadsUpTo}
use Rattle.play.proofs.run_input.Goals as goal

always : {X E : Type 0} (r : Result X E) (P : Type 0) → P → IfOk r (λ _. P)
always (Ok x) P p = p
always (Err e) P p = tt

pub returns : goal.returns
returns g c =
    let R = g.R.Read in
    let read = c.in_ok-count.ensures in
    let zeros = length-replicate {A = ℕ} 65537 0 in
    let front = length-take-le c.in_ok-count.count c.read_full.new.room read.inside in
    let text : ReadsUpTo 65537 (R.remaining c.args.input.now) (R.remaining c.read_full.new.from) = (
      take c.in_ok-count.count c.read_full.new.room,
      (read.bytes, omega (arith, front, read.inside, read.size, zeros), λ few. read.end (omega (arith, front, read.size, zeros, few))),
    )
    in
    always _ _ text
