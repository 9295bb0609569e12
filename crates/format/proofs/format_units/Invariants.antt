-- `format::format_units` meets its contract. The loop's invariant: the units so far are fresh, the rest is as it was.
use mathlib.Core.Path.{◌≡◌}
use mathlib.Core.List.{◌++◌}
use lib.ListN.{length, drop}
use Rattle.model.specs.Layout.{fresh}
use Rattle.model.specs.Layout as layout
use Rattle.format.proofs.format_units.Given as goal

abbrev pub invariant-loop-unit : goal.invariant-loop-unit
invariant-loop-unit l = (l.base ≡ layout.base l.plan l.unit) × (length l.image ≡ length l.initial.image) × (l.image ≡ fresh l.plan l.unit ++ drop l.base l.initial.image)
