-- `grouping::check_members` meets its contract: the members that are left decide.
use Prim.Native.Nat.{ℕ}
use native.Mathlib.Omega.{arith}
use Rattle.model.specs.Layout.{marker, get}
use Rattle.grouping.proofs.Laws.{unit_small, bad_member, good_member, no_more}
use Rattle.grouping.proofs.check_members.Goals as goal

pub check_marker-requires : goal.check_marker-requires
check_marker-requires c =
    (c.requires.0, c.requires.1, unit_small (λ (u : ℕ). get c.args.view.plan c.args.view.image.now u marker) c.requires.2 c.loop-unit.invariant c.in-Some.ensures)

pub loop-unit-preserved : goal.loop-unit-preserved
loop-unit-preserved c = good_member _ c.requires.2 c.loop-unit.invariant c.in-Some.ensures c.in_ok-check_marker.ensures

pub returns-in_err-check_marker : goal.returns-in_err-check_marker
returns-in_err-check_marker c = grind (arith, bad_member _ c.requires.2 c.loop-unit.invariant c.in-Some.ensures _ c.in_err-check_marker.ensures)

pub returns : goal.returns
returns c = no_more _ c.requires.2 c.loop-unit.invariant c.in_default.ensures
