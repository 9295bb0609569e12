-- The rows of specs/Cases.antt, computed.
use mathlib.Core.Path.{refl}
use Rattle.model.specs.Refusals.{first}
use Rattle.model.specs.Drive.{drive_number}
use Rattle.brake.specs.Over.{drive_over_number, drive_over}
use Rattle.brake.specs.Table.{drives}
use Rattle.brake.specs.Cases.{EveryRow, rows}

pub every_row : EveryRow
unfolding rows drives drive_over_number drive_over drive_number first
every_row = refl
