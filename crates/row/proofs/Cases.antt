-- The rows of specs/Cases.antt, computed.
use mathlib.Core.Path.{refl}
use Rattle.row.specs.Row.{in_rule}
use Rattle.row.specs.Cases.{EverySmall, EveryRising, EveryAbove, EveryFirst}

pub every_small : EverySmall
unfolding in_rule
every_small = refl

pub every_rising : EveryRising
unfolding in_rule
every_rising = refl

pub every_above : EveryAbove
unfolding in_rule
every_above = refl

pub every_first : EveryFirst
unfolding in_rule
every_first = refl
