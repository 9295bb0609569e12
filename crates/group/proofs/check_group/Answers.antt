-- `group::check_group` meets its contract: 19, then 20, then 21.
use mathlib.Core.Path.{sym, ◌∙◌}
use Rattle.group.proofs.Record.{splits_not, splits_some, narrow_is, fault_19, fault_20, fault_21}
use Rattle.group.proofs.check_group.Goals as goal

pub returns-then-member_count-eq0 : goal.returns-then-member_count-eq0
returns-then-member_count-eq0 c = fault_19 _ _ (splits_not _ _ c.member_count.ensures c.if-member_count-eq0.true)

pub returns-then-overlap : goal.returns-then-overlap
returns-then-overlap c = let e = splits_some _ _ c.member_count.ensures c.if-member_count-eq0.false in
    fault_20 _ _ e (sym (c.overlap.ensures e) ∙ c.if-overlap.true)

pub returns-then-too_narrow : goal.returns-then-too_narrow
returns-then-too_narrow c = let e = splits_some _ _ c.member_count.ensures c.if-member_count-eq0.false in
    fault_21 _ _ e (sym (c.overlap.ensures e) ∙ c.if-overlap.false) _ (narrow_is _ _ c.too_narrow.ensures ∙ c.if-too_narrow.true)

pub returns : goal.returns
returns c = let e = splits_some _ _ c.member_count.ensures c.if-member_count-eq0.false in
    fault_21 _ _ e (sym (c.overlap.ensures e) ∙ c.if-overlap.false) _ (narrow_is _ _ c.too_narrow.ensures ∙ c.if-too_narrow.false)
