-- `search::any_foreign` meets its contract: the range's units are all that there are.
use borrow.Author.Rules.{rules}
use borrow.Author.Tests.{tests}
use native.Mathlib.Omega.{arith}
use mathlib.Core.Path.{refl, ◌∙◌}
use Prim.Native.Nat.{ℕ}
use Rattle.std.proofs.lemmas.Iterator.{YieldsList-from_range}
use Rattle.std.proofs.lemmas.Iterator.Search.{any_from_yields_List}
use Rattle.model.specs.Layout.{marker, get}
use Rattle.model.specs.Marker.{is_foreign}
use Rattle.search.proofs.Search.{range_foreign}
use Rattle.search.proofs.any_foreign.Goals as goal

pub returns : goal.returns
returns c = let p = c.args.plan in
    any_from_yields_List (λ (u : ℕ). is_foreign (get p c.args.image.now u marker)) _ _ _ c.any.ensures.ran (YieldsList-from_range 0 p.count p.count refl (omega arith)) (λ x b q k. search (rules, tests))
    ∙ range_foreign _ p.count
