-- `mirror::put_page` meets its contract: a byte, and the rest of the page behind it.
use native.Mathlib.Omega.{arith}
use mathlib.Core.Path.{ap, ◌∙◌}
use native.Mathlib.Numerals.{add-one}
use Prim.Native.Nat.{ℕ, ◌+◌}
use lib.Seq.{sets}
use lib.ListN.{set, drop, length-set, length-drop}
use Rattle.group.proofs.Walk.{part_all}
use Rattle.mirror.proofs.Part.{run_part}
use Rattle.mirror.proofs.put_page.Goals as goal

pub returns : goal.returns
returns c = let a = c.args in
    run_part (set a.span.now a.from a.first) (drop 1 a.page.now) _ (a.from + 1) _ (c.copy_from_slice.ensures.after ∙ part_all a.page.now 1)
    (omega (arith, length-drop 1 a.page.now, c.requires.0)) (omega (arith, length-set a.span.now a.from a.first, c.requires.0, c.requires.1))
    ∙ ap (λ (i : ℕ). sets (set a.span.now a.from a.first) i (drop 1 a.page.now)) (add-one a.from)
