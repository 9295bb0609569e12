-- `layout::copy_length` meets its contract: a remainder is taken off by a mask.
use native.Mathlib.Omega.{arith}
use lib.Bits.{and_le_l}
use Rattle.layout.proofs.Laws.{rounded_by_mask, size_bounds}
use Rattle.layout.proofs.copy_length.Goals as goal

pub overflow_sub-last : goal.overflow_sub-last
overflow_sub-last c = omega (arith, (size_bounds _ c.requires).0)

pub overflow_add-most : goal.overflow_add-most
overflow_add-most c = record { fits = omega (arith, (size_bounds _ c.requires).1) }

pub overflow_sub-result : goal.overflow_sub-result
overflow_sub-result c = and_le_l _ _

pub returns : goal.returns
returns c = (rounded_by_mask c.args.page c.args.width c.requires, omega (arith, (size_bounds _ c.requires).1))
