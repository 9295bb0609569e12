-- `advance::step_cleaning` meets its contract: whether the store was the last tells the phase after it, and where the repair goes on.
use Rattle.std.proofs.lemmas.Result.{err_from_is_err_and}
use mathlib.Core.Path.{ap, ◌∙◌}
use Rattle.lookup.proofs.Laws.{span_sound, span_inside}
use Rattle.std.specs.Option.{ok_or}
use Rattle.model.specs.declared.refusals.Refusal.TheVariants.{BadJob}
use Rattle.model.specs.Numbers.{numbered}
use Rattle.advance.proofs.Parts.{clean_refused, clean_over, clean_on}
use Rattle.advance.proofs.step_cleaning.Goals as goal

pub clean_choice-requires : goal.clean_choice-requires
clean_choice-requires c = let s = c.requires in
    (span_sound c.args.plan s.plan _ s.unit _ s.is, span_inside c.args.plan s.plan _ s.unit _ _ s.long s.is)

pub returns-in_err-choice : goal.returns-in_err-choice
returns-in_err-choice c = let a = c.args in
    let p = err_from_is_err_and c.from_residual.result c.from_residual.ensures.1 in
    let e = c.in_err-choice.ensures in
    rw (p.1, p.2) (clean_refused a.plan a.unit a.made a.image.now a.span c.requires a.direction a.payload.now _
    (ap numbered e.value ∙ ap (λ o. numbered (ok_or o BadJob)) e.ok_part) (rw e.ok_part at c.clean_choice.ensures))

pub store_at-requires : goal.store_at-requires
store_at-requires c = let s = c.requires in
    let picked = rw c.in_ok-choice.ensures.ok_part at c.clean_choice.ensures in
    (picked.inside, span_inside c.args.plan s.plan _ s.unit _ _ s.long s.is)

pub returns-then-choice : goal.returns-then-choice
returns-then-choice c = let a = c.args in
    clean_over a.plan a.unit a.made a.image.now a.span c.requires a.direction a.payload.now _ (rw c.in_ok-choice.ensures.ok_part at c.clean_choice.ensures)
    _ c.store_at.ensures c.if-choice.true c.cleanup_from-found.ensures c.resume.ensures.0 c.resume.ensures.1

pub returns : goal.returns
returns c = let a = c.args in
    clean_on a.plan a.unit a.made a.image.now a.span c.requires a.direction a.payload.now _ (rw c.in_ok-choice.ensures.ok_part at c.clean_choice.ensures)
    _ c.store_at.ensures c.if-choice.false
