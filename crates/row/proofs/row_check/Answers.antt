-- `row::row_check` meets its contract: a turn of the loop is one entry, and one of the rules.
use Rattle.std.proofs.Common.{◌+◌, ◌<◌, ap, sym, ◌∙◌, arith, Bool, cond, ℕ}
use Rattle.std.proofs.Math.Seq.{drop-set-lt}
use Rattle.row.specs.Row.{in_rule}
use Rattle.row.proofs.Turn.{rule_goes_on, rule_ends, values_end, stored_on, stored_end, drop_more}
use Rattle.row.proofs.row_check.Goals as goal

pub returns-then-not-in_rule-clause-number : goal.returns-then-not-in_rule-clause-number
returns-then-not-in_rule-clause-number c = let a = c.args in
    let l = c.loop-bin in
    let more : l.bin-index < 64 = omega arith in
    let goes = rw (c.next-value.ensures.read, l.invariant.0) at c.next-value.ensures.value in
    let ends = rule_ends a.i l.row a.row.now c.requires.0 l.bin-index _ l.invariant.2 more l.before _ _ c.in_rule.ensures c.if-not-in_rule.true in
    ap (λ (good : Bool). cond good 0 13) (sym (sym l.invariant.3 ∙ ap (in_rule l.before _) goes ∙ ends))

pub loop-bin-preserved : goal.loop-bin-preserved
loop-bin-preserved c = let a = c.args in
    let l = c.loop-bin in
    let more : l.bin-index < 64 = omega arith in
    let goes = rw (c.next-value.ensures.read, l.invariant.0) at c.next-value.ensures.value in
    let rule = rule_goes_on a.i l.row a.row.now c.requires.0 l.bin-index _ l.invariant.2 more l.before _ _ c.in_rule.ensures c.if-not-in_rule.false in (
      c.next-value.ensures.read ∙ ap (λ (n : ℕ). n + 1) l.invariant.0,
      stored_on l.row _ _ l.bin-index _ (omega arith) (rw goes at l.invariant.1),
      drop-set-lt (l.bin-index + 1) l.row l.bin-index _ (omega arith) ∙ drop_more l.bin-index l.row a.row.now l.invariant.2,
      sym rule ∙ sym (ap (in_rule l.before _) goes) ∙ l.invariant.3,
    )

pub returns-clause-number : goal.returns-clause-number
unfolding in_rule
returns-clause-number c = let l = c.loop-bin in
    let v = values_end l.entries.line.now l.entries.at 64 l.bin-index (omega arith) in
    ap (λ (good : Bool). cond good 0 13) (sym (ap (in_rule l.before _) v) ∙ l.invariant.3)

pub returns-clause-row : goal.returns-clause-row
returns-clause-row c = let l = c.loop-bin in
    stored_end l.row _ _ l.bin-index (omega arith) (values_end l.entries.line.now l.entries.at 64 l.bin-index (omega arith)) l.invariant.1
