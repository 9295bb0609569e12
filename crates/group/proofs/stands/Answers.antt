-- `group::stands` meets its contract: the code finds the group that gives the record, if there is one.
use Rattle.group.proofs.Record.{reach_small, record_none, record_fault, record_count, record_rest}
use native.Mathlib.Omega.{arith}
use Prim.Native.Nat.{ℕ, zero, suc, ◌<◌}
use mathlib.Core.Path.{◌≡◌, refl, sym, ◌∙◌}
use mathlib.Core.Bool.{Bool, false, true≢false}
use lib.Dec.{eqb}
use borrow.Author.Tests.{eqb-true}
use Rattle.model.proofs.Numbered.{number_some}
use Rattle.group.proofs.stands.Goals as goal

pub returns-then-is_empty : goal.returns-then-is_empty
returns-then-is_empty c = record_none c.args.plan c.args.bytes.now c.requires.1 c.requires.0 (eqb-true _ 0 (sym c.is_empty.ensures ∙ c.if-is_empty.true))

some : (n : ℕ) (t : Bool) → t ≡ eqb n 0 → t ≡ false → 0 < n
some zero t e f = absurd (true≢false (sym e ∙ f))
some (suc n) t e f = omega arith

pub overflow_add-past : goal.overflow_add-past
overflow_add-past c = omega (arith, reach_small c.args.plan c.args.bytes.now _ c.extent_of-past.ensures)

pub slice_bounds-group-end : goal.slice_bounds-group-end
slice_bounds-group-end c = omega (arith, some _ _ c.is_empty.ensures c.if-is_empty.false, reach_small c.args.plan c.args.bytes.now _ c.extent_of-past.ensures)

pub returns-in_default : goal.returns-in_default
returns-in_default c = record_fault c.args.plan c.args.bytes.now c.requires.1 c.requires.0 c.extent_of-past.ensures c.in_default.ensures (number_some c.in_default.field-0)

pub returns-then-member_count-members : goal.returns-then-member_count-members
returns-then-member_count-members c = record_count c.args.plan c.args.bytes.now c.requires.1 c.requires.0 c.extent_of-past.ensures c.member_count.ensures c.if-member_count-members.true

pub returns : goal.returns
returns c = record_rest c.args.plan c.args.bytes.now c.requires.1 c.requires.0 c.extent_of-past.ensures (some _ _ c.is_empty.ensures c.if-is_empty.false) c.in-Ok.ensures refl c.member_count.ensures c.if-member_count-members.false c.only_zeros.ensures
