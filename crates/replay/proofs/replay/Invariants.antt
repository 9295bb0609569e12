-- `replay::replay` meets its contract. The loop's invariant: the calls that are left, made on what is reached, give the answer.
use Rattle.std.proofs.Common.{◌≡◌}
use Rattle.model.specs.Calls.{outcome}
use Rattle.model.specs.PowerCut.{run}
use Rattle.store.specs.Modelled.{modelled}
use Rattle.recovery.specs.Encoding.{calls_of}
use Rattle.replay.specs.Entries.{calls_left}
use Rattle.replay.proofs.replay.Given as goal

abbrev pub invariant-loop-entry : goal.invariant-loop-entry
invariant-loop-entry l =
    run (calls_left l.entry-iterator) (outcome l.last.number (modelled l.last.device) l.image)
    ≡ run (calls_of l.fn.calls) (outcome 0 (modelled l.fn.device) l.initial.image)
