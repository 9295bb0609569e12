-- `mirror::tear_at` meets its contract: a run of stores in the span is one in the image.
use lib.Bits.{bit_and, and_le_l}
use native.Mathlib.Omega.{arith}
use mathlib.Core.Path.{ap, ap₂, ◌∙◌}
use mathlib.Core.List.{List, ◌∷◌, ◌++◌}
use Prim.Native.Nat.{ℕ, ◌+◌, ◌-◌}
use lib.ListN.{get_or, take, drop, length-drop}
use lib.Seq.{sets}
use Rattle.layout.proofs.Laws.{page_by_mask}
use Rattle.mirror.specs.Tears.{first_left}
use Rattle.mirror.proofs.Part.{sets_part}
use Rattle.mirror.proofs.tear_at.Goals as goal

pub overflow_sub-from-2 : goal.overflow_sub-from-2
overflow_sub-from-2 c = and_le_l _ _

pub bounds-image-first : goal.bounds-image-first
bounds-image-first c = let a = c.args in
    omega (arith, page_by_mask a.span.a a.store.at c.requires.0.page, c.requires.0.marker, c.requires.2, c.requires.3)

pub put_page-requires : goal.put_page-requires
put_page-requires c = let a = c.args in
    let e = page_by_mask a.span.a a.store.at c.requires.0.page in
    (omega (arith, c.requires.0.marker, c.requires.1), omega (arith, e, c.requires.1, c.requires.2, c.requires.3))

pub returns : goal.returns
returns c = let a = c.args in
    let xs = a.image.now in
    let s = a.span in
    let size = s.end - s.base in
    let e = page_by_mask s.a a.store.at c.requires.0.page in
    ap (λ (t : List ℕ). take s.base xs ++ (t ++ drop size (drop s.base xs))) c.put_page.ensures
    ∙ sets_part (_ ∷ drop 1 a.page.now) xs s.base size (a.store.at - bit_and a.store.at (s.a - 1)) (omega (arith, c.requires.2, c.requires.3)) (omega (arith, e, length-drop 1 a.page.now, c.requires.0.marker, c.requires.1, c.requires.2))
    ∙ ap₂ (λ (q x : ℕ). sets xs (s.base + q) (x ∷ drop 1 a.page.now)) e (c.torn_byte-left.ensures ∙ ap (λ (q : ℕ). first_left a.store.at (get_or xs (s.base + q) 0) a.store.byte (get_or a.page.now 0 0)) e)
