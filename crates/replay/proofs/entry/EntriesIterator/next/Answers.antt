-- The first call of those that are left, and the others.
use Rattle.std.proofs.Common.{arith, length, ap}
use Rattle.recovery.proofs.Laws.{ended, stopped, next}
use Rattle.replay.proofs.entry.EntriesIterator.next.Goals as goal

pub returns-in_err-head-clause-steps : goal.returns-in_err-head-clause-steps
returns-in_err-head-clause-steps c =
    let none = ended c.args.self.now.bytes.now (c.in_err-head.ensures).cases in
    rw c.from_residual.ensures (none, none)

pub returns-in_err-own-clause-steps : goal.returns-in_err-own-clause-steps
returns-in_err-own-clause-steps c =
    let head = c.in_ok-head.ensures in
    let none = stopped c.args.self.now.bytes.now c.in_ok-head.head.now c.in_ok-head.rest.now head.cases.0 head.cases.1 (omega arith) c.from.result
    (omega arith) (c.in_err-own.ensures).cases in
    rw c.from_residual-in_err-own.ensures (none, none)

pub returns-clause-steps : goal.returns-clause-steps
returns-clause-steps c =
    let head = c.in_ok-head.ensures in
    let own = c.in_ok-own.ensures.cases in
    next c.args.self.now.bytes.now c.in_ok-head.head.now c.in_ok-head.rest.now head.cases.0 head.cases.1 (omega arith) c.from.result
    (omega arith) c.from_be_bytes-unit.result (omega arith) _ _ own.0 own.1 own.2

pub returns-clause-goes : goal.returns-clause-goes
returns-clause-goes c =
    let fewer = ap length (returns-clause-steps c) in
    record { on = λ finite. (tt, tt, omega (arith, fewer)); keeps = tt; rests = λ finite. tt }
