-- `replay::replay` meets its contract: an entry's call is made on what is reached.
use Rattle.std.proofs.Common.{ap, sym, ◌∙◌, List}
use Rattle.model.specs.Calls.{outcome}
use Rattle.model.specs.Ledger.{Call}
use Rattle.model.specs.PowerCut.{run}
use Rattle.store.specs.Modelled.{modelled}
use Rattle.recovery.proofs.Laws.{goes_on, ends}
use Rattle.replay.proofs.replay.Goals as goal

pub loop-entry-preserved : goal.loop-entry-preserved
loop-entry-preserved c =
    let l = c.loop-entry in
    goes_on _ _ l.last.number (modelled l.last.device) l.image _ _ c.call-last.ensures
    ∙ ap (λ (cs : List Call). run cs (outcome l.last.number (modelled l.last.device) l.image)) (sym c.in-Some.ensures.steps)
    ∙ l.invariant

pub returns : goal.returns
returns c = ends _ _ _ _ c.in-None.ensures.steps.0 c.loop-entry.invariant
