-- The stores of a group's write, from the part of the payload where its bytes were found.
use Prim.Native.Nat.{ℕ, zero, suc, ◌+◌, ◌<◌}
use mathlib.Core.Path.{◌≡◌, refl, ap, ap₂, sym, ◌∙◌, subst}
use mathlib.Core.List.{List, [], ◌∷◌, ◌++◌}
use mathlib.Core.Bool.{false}
use native.Mathlib.Omega.{arith}
use lib.ListN.{get_or, drop}
use borrow.Author.Tests.{leb-false}
use Rattle.model.specs.declared.Plan.{Plan}
use Rattle.model.specs.Marker.{OK, B, A}
use Rattle.model.specs.Plans.{width}
use Rattle.model.specs.Layout.{Copy, copy_a, copy_b, marker, byte}
use Rattle.model.specs.Groups.{write_at}
use Rattle.model.specs.Refusals.{grouping, write_total, bad_write, bad_job}
use Rattle.model.specs.Stores.{Store, store, copying, write_stores}
use Rattle.model.proofs.RefusalLaws.{PlanOk, false_or}
use Rattle.model.proofs.GroupLaws.{part_sized}
use Rattle.group.specs.declared.Part.{Part}
use Rattle.group.specs.Parts.{PartOf}

copying_same : (u : ℕ) (c : Copy) (f g : ℕ → ℕ) (n i : ℕ) → ((j : ℕ) → j < i + n → f j ≡ g j) → copying u c f n i ≡ copying u c g n i
unfolding copying
copying_same u c f g zero i h = refl
copying_same u c f g (suc n) i h =
    ap₂ (λ (x : ℕ) (xs : List Store). store u (byte c i) x ∷ xs) (h i (omega arith))
    (copying_same u c f g n (suc i) (λ j l. h j (omega (arith, l))))

-- a write stores as many bytes as its unit is wide
pub stores_same : (p : Plan) (u : ℕ) (xs ys : List ℕ) → ((j : ℕ) → j < width p u → get_or xs j 0 ≡ get_or ys j 0)
    → write_stores p u xs ≡ write_stores p u ys
unfolding write_stores
stores_same p u xs ys h =
    ap₂ (λ (a b : List Store). (store u marker A ∷ a) ++ ((store u marker B ∷ b) ++ (store u marker OK ∷ [])))
    (copying_same u copy_a _ _ (width p u) 0 (λ j l. h j (omega (arith, l))))
    (copying_same u copy_b _ _ (width p u) 0 (λ j l. h j (omega (arith, l))))

module _ {p : Plan} {payload : List ℕ} {i : ℕ} {r : Part} (found : PartOf p payload i r) where
  pub part_stores : write_stores p r.unit (drop r.from payload) ≡ write_stores p (write_at p payload i).unit (write_at p payload i).bytes
  part_stores =
      stores_same p r.unit (drop r.from payload) (write_at p payload i).bytes found.bytes
      ∙ ap (λ (u : ℕ). write_stores p u (write_at p payload i).bytes) found.unit

  pub part_good : bad_write p payload i ≡ false
  part_good = found.good

  pub part_there : PlanOk p → r.unit < p.count
  part_there ok = subst (λ (u : ℕ). u < p.count) (sym found.unit) (part_sized p ok payload i part_good).unit

  pub part_made : (made : ℕ) → bad_job p payload (grouping i made) ≡ false → made < write_total (width p r.unit)
  unfolding bad_job
  part_made made fine =
      subst (λ (u : ℕ). made < write_total (width p u)) (sym found.unit)
      (leb-false (write_total (width p (write_at p payload i).unit)) made (false_or (bad_write p payload i) _ fine).1)

-- of a job that is not refused there is a write
pub good_write : (p : Plan) (payload : List ℕ) (i made : ℕ) → bad_job p payload (grouping i made) ≡ false → bad_write p payload i ≡ false
unfolding bad_job
good_write p payload i made fine = (false_or (bad_write p payload i) _ fine).0
