-- `search::lowest_bad` meets its contract. The loop's invariant: the search from here on gives the answer.
use mathlib.Core.Path.{◌≡◌}
use Rattle.search.specs.Found.{lowest_from}
use Rattle.model.specs.Layout.{base}
use Rattle.search.proofs.lowest_bad.Given as goal

abbrev pub invariant-loop-unit : goal.invariant-loop-unit
invariant-loop-unit l = (l.at ≡ base l.plan l.unit) × (lowest_from l.plan l.image l.unit ≡ lowest_from l.plan l.image l.from)
