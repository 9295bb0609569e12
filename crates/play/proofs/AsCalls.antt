-- A line of a script is a list of the power-cut theorem's calls, form by form.
use mathlib.Core.Path.{refl}
use Rattle.script.specs.declared.Form.TheVariants.{Plan, Write, Step, Cut, Wake, Show}
use Rattle.model.specs.PowerCut.{call, run}
use Rattle.model.proofs.InARow.{steps_run}
use Rattle.play.specs.Plays.{plays}
use Rattle.play.specs.AsCalls.{LinesAreCalls}

pub plays_run : LinesAreCalls
unfolding plays run call
plays_run (Plan at count page) line d image = refl
plays_run (Write unit at count) line d image = refl
plays_run (Step n) line d image = steps_run n d image
plays_run (Cut at count) line d image = refl
plays_run Wake line d image = refl
plays_run Show line d image = refl
