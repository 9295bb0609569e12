-- `mirror::store_at` meets its contract: a store in the span is a store in the image.
use native.Mathlib.Omega.{arith}
use mathlib.Core.Path.{ap, ◌∙◌}
use mathlib.Core.List.{List, ◌++◌}
use Prim.Native.Nat.{ℕ, ◌-◌}
use lib.ListN.{take, drop}
use Rattle.mirror.proofs.Part.{set_part}
use Rattle.mirror.proofs.store_at.Goals as goal

pub returns : goal.returns
returns c = let a = c.args in
    let xs = a.image.now in
    let s = a.span in
    let size = s.end - s.base in
    ap (λ (t : List ℕ). take s.base xs ++ (t ++ drop size (drop s.base xs))) c.put.ensures
    ∙ set_part xs s.base size a.at a.byte (omega (arith, c.requires)) (omega (arith, c.requires))
