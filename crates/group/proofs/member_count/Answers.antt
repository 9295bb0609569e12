-- `group::member_count` meets its contract: the bytes before those that are left are so many members.
use native.Mathlib.Omega.{arith}
use mathlib.Core.Path.{sym, ◌∙◌}
use borrow.Author.Tests.{eqb-true}
use Rattle.std.proofs.lemmas.Bool.{eqb-false}
use Rattle.group.proofs.Count.{walked_none, walked_no_unit, walked_short, walked_more, walked_many, walked_few, walked_is}
use Rattle.group.proofs.member_count.Goals.{then-plan-unit-via-then-plan-unit, then-plan-unit-via-else-plan-unit+then-members-eq4}
use Rattle.group.proofs.member_count.Goals as goal

pub loop-unit-init : goal.loop-unit-init
loop-unit-init c = (omega arith, walked_none _ _)

pub loop-unit-preserved : goal.loop-unit-preserved
loop-unit-preserved c = (omega arith, walked_more c.loop-unit.invariant.1 c.in-Some.ensures c.if-plan-unit.false)

pub returns-then-plan-unit : goal.returns-then-plan-unit
returns-then-plan-unit c =
    elim c.then-plan-unit.branch [
      | then-plan-unit-via-then-plan-unit w ↦ sym (walked_no_unit c.loop-unit.invariant.1 c.in-Some.ensures w.if-plan-unit.true)
      | then-plan-unit-via-else-plan-unit+then-members-eq4 w ↦
          sym (walked_many c.loop-unit.invariant.1 c.in-Some.ensures (omega (arith, w.if-members-eq4.true)) w.if-plan-unit.false)
    ]

pub returns-then-not-is_empty : goal.returns-then-not-is_empty
returns-then-not-is_empty c = sym (walked_short c.loop-unit.invariant.1 (omega (arith, eqb-false _ 0 (sym c.is_empty.ensures ∙ c.if-not-is_empty.true))) c.in_default.ensures)

pub returns-then-members-lt2 : goal.returns-then-members-lt2
returns-then-members-lt2 c = sym (walked_few c.loop-unit.invariant.1 (eqb-true _ 0 (sym c.is_empty.ensures ∙ c.if-not-is_empty.false)) c.if-members-lt2.true)

pub returns-else-members-lt2 : goal.returns-else-members-lt2
returns-else-members-lt2 c = sym (walked_is c.loop-unit.invariant.1 (eqb-true _ 0 (sym c.is_empty.ensures ∙ c.if-not-is_empty.false)) (omega arith) (omega arith))
