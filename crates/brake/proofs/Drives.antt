-- The table's one computed test.
use mathlib.Core.Path.{refl}
use Rattle.brake.specs.Table.{drives}
use Rattle.brake.proofs.Table.{Tested}

pub tested : Tested drives
unfolding drives
tested = record { size = refl; passes = tt }
