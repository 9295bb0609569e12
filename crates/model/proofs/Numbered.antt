-- Numbers of what a call comes to: no refusal has the number 0, and one that is handed on keeps its number.
use Rattle.std.specs.Prelude.{◌≡◌, Result, Ok, Err}
use Rattle.std.specs.Result.{IsErrAnd}
use mathlib.Core.Path.{ap}
use native.Mathlib.Omega.{arith}
use Rattle.model.specs.declared.refusals.Refusal.{Refusal}
use Rattle.model.specs.declared.refusals.Refusal.TheVariants.{BadCount, BadWidth, ShortImage, BadJob, WrongPhase, NoUnit, WrongSize, BadMarker, BadLevel, BadRate, NoRoom, BadLine, BadEntry, ForeignMarker, SumTooLarge, NoTotal, BadPage, WrongTear, BadGroup, UnitTaken, NoRecord, NoRight}
use Rattle.model.specs.Numbers.{number_of, numbered}

pub number_some : (r : Refusal) → ¬ (number_of r ≡ 0)
number_some BadCount e = absurd (omega (arith, e))
number_some BadWidth e = absurd (omega (arith, e))
number_some ShortImage e = absurd (omega (arith, e))
number_some BadJob e = absurd (omega (arith, e))
number_some WrongPhase e = absurd (omega (arith, e))
number_some NoUnit e = absurd (omega (arith, e))
number_some WrongSize e = absurd (omega (arith, e))
number_some BadMarker e = absurd (omega (arith, e))
number_some BadLevel e = absurd (omega (arith, e))
number_some BadRate e = absurd (omega (arith, e))
number_some NoRoom e = absurd (omega (arith, e))
number_some BadLine e = absurd (omega (arith, e))
number_some BadEntry e = absurd (omega (arith, e))
number_some ForeignMarker e = absurd (omega (arith, e))
number_some SumTooLarge e = absurd (omega (arith, e))
number_some NoTotal e = absurd (omega (arith, e))
number_some BadPage e = absurd (omega (arith, e))
number_some WrongTear e = absurd (omega (arith, e))
number_some BadGroup e = absurd (omega (arith, e))
number_some UnitTaken e = absurd (omega (arith, e))
number_some NoRecord e = absurd (omega (arith, e))
number_some NoRight e = absurd (omega (arith, e))

-- what the exit of a `?` returns
pub handed_on : {A : Type 0} (r : Result A Refusal) (e : Refusal) → IsErrAnd r (λ x. x ≡ e) → numbered r ≡ number_of e
handed_on (Ok a) e h = absurd h
handed_on (Err x) e h = ap number_of h
