-- `layout::width_of` meets its contract: past the eighth there is no width in the list.
use native.Mathlib.Omega.{arith}
use lib.ListN.{get_or-eq_default, length}
use mathlib.Core.Path.{◌≡◌, sym}
use borrow.Author.Rules.{rules}
use Rattle.layout.proofs.width_of.Goals as goal

pub returns-else-at-lt8 : goal.returns-else-at-lt8
returns-else-at-lt8 c = let l : length c.args.plan.widths ≡ 8 = search rules in
    sym (get_or-eq_default c.args.plan.widths 0 (omega arith))
