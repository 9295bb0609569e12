-- `play::play` meets its contract, by the form.
use mathlib.Core.Path.{refl}
use borrow.Author.Rules.{rules}
use Rattle.play.specs.Plays.{plays}
use Rattle.play.proofs.Told.{told}
use Rattle.play.proofs.play.Goals as goal

pub returns-in-Plan-clause-played : goal.returns-in-Plan-clause-played
unfolding plays
returns-in-Plan-clause-played g c =
    rw c.in-Plan.is (record { device = tt; image = refl; answered = tt; bad = refl; fits = search rules })

pub returns-in-Write-clause-played : goal.returns-in-Write-clause-played
unfolding plays
returns-in-Write-clause-played g c =
    rw c.in-Write.is (told _ _ _ _ _ _ _ _ refl refl c.write.ensures c.tell.ensures.told)

pub returns-in-Step-clause-played : goal.returns-in-Step-clause-played
unfolding plays
returns-in-Step-clause-played g c =
    rw c.in-Step.is (told _ _ _ _ _ _ _ _ refl refl c.steps.ensures c.tell-in-Step.ensures.told)

pub returns-in-Cut-clause-played : goal.returns-in-Cut-clause-played
unfolding plays
returns-in-Cut-clause-played g c =
    rw c.in-Cut.is (told _ _ _ _ _ _ _ _ refl refl c.cut.ensures c.tell-in-Cut.ensures.told)

pub returns-in-Wake-clause-played : goal.returns-in-Wake-clause-played
unfolding plays
returns-in-Wake-clause-played g c =
    rw c.in-Wake.is (told _ _ _ _ _ _ _ _ refl refl c.wake.ensures c.tell-in-Wake.ensures.told)

pub returns-in_ok-show-in-Show-clause-played : goal.returns-in_ok-show-in-Show-clause-played
unfolding plays
returns-in_ok-show-in-Show-clause-played g c =
    rw c.in-Show.is (record { device = refl; image = refl; answered = tt; bad = refl; fits = search rules })
