-- Zeros in a span, and formatted units one after the other.
use Prim.Native.Nat.{ℕ, ◌+◌, ◌-◌, ◌≤◌}
use mathlib.Core.Path.{◌≡◌, ◌∙◌, sym}
use mathlib.Core.List.{List, ◌∷◌, ◌++◌, append_assoc}
use native.Mathlib.Omega.{arith}
use native.Mathlib.Numerals.{add-one}
use lib.ListN.{length, take, drop, replicate, length-take, length-drop}
use lib.Seq.{take_at, drop_at, drop-drop}
use Rattle.model.specs.declared.Plan.{Plan}
use Rattle.model.specs.Marker.{OK}
use Rattle.model.specs.Layout.{unit_length, base, fresh}
use Rattle.model.proofs.RefusalLaws.{PlanOk}
use Rattle.model.proofs.LayoutLaws.{length_fresh}

-- one more unit: ys is the span of unit u after it was formatted, b where it begins and l its length
pub fresh_more : (p : Plan) → PlanOk p → (u b l : ℕ) (before image ys : List ℕ) → b ≡ base p u → l ≡ unit_length p u
    → b + l ≤ length image → image ≡ fresh p u ++ drop b before
    → ys ≡ OK ∷ replicate (length (take ((b + l) - b) (drop b image)) - 1) 0
    → take b image ++ (ys ++ drop ((b + l) - b) (drop b image)) ≡ fresh p (u + 1) ++ drop (b + l) before
unfolding fresh
fresh_more p ok u b l before image ys eb el room e f =
    let sub : (b + l) - b ≡ l = omega arith in
    let len : length (take l (drop b image)) ≡ l = simp (length-take, length-drop) (omega arith) in
    let is : ys ≡ OK ∷ replicate (unit_length p u - 1) 0 = rw (sub, len, el) at f in
    let long : length (fresh p u) ≡ b = length_fresh p ok u ∙ sym eb in
    rw (sub, e, is, take_at (fresh p u) (drop b before) b long, drop_at (fresh p u) (drop b before) b long, drop-drop l b before, add-one u)
    (sym (append_assoc (fresh p u) (OK ∷ replicate (unit_length p u - 1) 0) (drop (b + l) before)))
