-- Which store comes next, by the number of stores made, and the phase after it.
use Prim.Native.Nat.{ℕ, zero, suc, ◌+◌, ◌≤◌, ◌<◌}
use mathlib.Core.Path.{◌≡◌, refl, ap, ◌∙◌}
use mathlib.Core.List.{List, ◌++◌}
use mathlib.Core.Option.{none, some}
use mathlib.Core.Bool.{true, false}
use lib.Dec.{eqb}
use native.Mathlib.Omega.{arith}
use lib.ListN.{get_or, get_elem?}
use borrow.Author.Tests.{eq-eqb, ne_eqb}
use Rattle.model.specs.declared.Plan.{Plan}
use Rattle.model.specs.declared.Direction.{Direction}
use Rattle.model.specs.declared.Phase.TheVariants.{Ready, Writing, Recovering}
use Rattle.model.specs.Marker.{OK, A, B, direction}
use Rattle.model.specs.Layout.{Copy, copy_a, copy_b, marker, byte, width, get}
use Rattle.model.specs.Refusals.{ready, grouping, write_total, cleanup_total}
use Rattle.model.specs.Stores.{Store, store, copying, write_stores, source, target, cleanup_stores}
use Rattle.model.specs.Calls.{next, lowest_bad, cleanup_of, cleanup_from, phase_after, resumed, reloaded, payload_after}
use Rattle.model.proofs.Compare.{below, above, order}
use Rattle.model.proofs.Tasks.{Task, alone, phase_at, task_write, follows, phased, part, phased_cond}
use Rattle.model.specs.Groups.{is_last_write}

-- ---- within a run of copied bytes, and past it
module _ (u : ℕ) (c : Copy) (f : ℕ → ℕ) (rest : List Store) where
  abbrev byte_store : ℕ → Store
  byte_store i = store u (byte c i) (f i)

  copying_at : (n j i : ℕ) → i < n → get_elem? (copying u c f n j ++ rest) i ≡ some (byte_store (j + i))
  unfolding copying
  copying_at zero j i h = absurd (omega arith)
  copying_at (suc n) j zero h = ap (λ (k : ℕ). some (byte_store k)) (omega arith)
  copying_at (suc n) j (suc i) h = copying_at n (suc j) i (omega arith) ∙ ap (λ (k : ℕ). some (byte_store k)) (omega arith)

  copying_past : (n j k i : ℕ) → k ≡ n + i → get_elem? (copying u c f n j ++ rest) k ≡ get_elem? rest i
  unfolding copying
  copying_past zero j k i e = ap (get_elem? rest) (omega arith)
  copying_past (suc n) j zero i e = absurd (omega arith)
  copying_past (suc n) j (suc k) i e = copying_past n (suc j) k i (omega arith)

-- ---- a write's stores
module _ (p : Plan) (payload image : List ℕ) (u : ℕ) where
  abbrev w : ℕ
  w = width p u

  pub next_a : next p payload image (Writing u 0) ≡ some (store u marker A)
  unfolding next write_stores
  next_a = refl

  pub next_to_a : (i : ℕ) → i < w → next p payload image (Writing u (suc i)) ≡ some (store u (byte copy_a i) (get_or payload i 0))
  unfolding next write_stores
  next_to_a i h =
      copying_at u copy_a (λ i. get_or payload i 0) _ w 0 i h
      ∙ ap (λ (k : ℕ). some (store u (byte copy_a k) (get_or payload k 0))) (omega arith)

  pub next_b : next p payload image (Writing u (suc w)) ≡ some (store u marker B)
  unfolding next write_stores
  next_b = copying_past u copy_a (λ i. get_or payload i 0) _ w 0 w 0 (omega arith)

  pub next_to_b : (i : ℕ) → i < w
      → next p payload image (Writing u (suc (w + suc i))) ≡ some (store u (byte copy_b i) (get_or payload i 0))
  unfolding next write_stores
  next_to_b i h =
      copying_past u copy_a (λ i. get_or payload i 0) _ w 0 (w + suc i) (suc i) refl
      ∙ copying_at u copy_b (λ i. get_or payload i 0) _ w 0 i h
      ∙ ap (λ (k : ℕ). some (store u (byte copy_b k) (get_or payload k 0))) (omega arith)

  pub next_ok : next p payload image (Writing u (suc (w + suc w))) ≡ some (store u marker OK)
  unfolding next write_stores
  next_ok =
      copying_past u copy_a (λ i. get_or payload i 0) _ w 0 (w + suc w) (suc w) refl
      ∙ copying_past u copy_b (λ i. get_or payload i 0) _ w 0 w 0 (omega arith)

  -- ---- a cleanup's stores
  pub next_copy : (d : Direction) (i : ℕ) → i < w
      → next p payload image (Recovering u i d) ≡ some (store u (byte (target d) i) (get p image u (byte (source d) i)))
  unfolding next cleanup_stores
  next_copy d i h =
      copying_at u (target d) (λ i. get p image u (byte (source d) i)) _ w 0 i h
      ∙ ap (λ (k : ℕ). some (store u (byte (target d) k) (get p image u (byte (source d) k)))) (omega arith)

  pub next_settle : (d : Direction) → next p payload image (Recovering u w d) ≡ some (store u marker OK)
  unfolding next cleanup_stores
  next_settle d = copying_past u (target d) (λ i. get p image u (byte (source d) i)) _ w 0 w 0 (omega arith)

-- a group's write has the stores of a write
pub next_task : (p : Plan) (payload image : List ℕ) (t : Task) (n : ℕ)
    → next p payload image (phase_at t n) ≡ next p (task_write p payload t).bytes image (Writing (task_write p payload t).unit n)
unfolding next
next_task p payload image (alone v) n = refl
next_task p payload image (part i) n = refl

-- ---- the phase after a store
module _ (p : Plan) (payload image : List ℕ) (u n : ℕ) where
  pub write_goes_on : ¬ (suc n ≡ write_total (width p u)) → phase_after p payload image (Writing u n) ≡ Writing u (suc n)
  unfolding phase_after
  write_goes_on h = rw (ne_eqb (suc n) (write_total (width p u)) h, phase_after)

  pub write_ends : suc n ≡ write_total (width p u) → phase_after p payload image (Writing u n) ≡ Ready
  unfolding phase_after
  write_ends h = rw (eq-eqb (suc n) (write_total (width p u)) h, phase_after)

  pub cleanup_goes_on : (d : Direction) → ¬ (suc n ≡ cleanup_total (width p u))
      → phase_after p payload image (Recovering u n d) ≡ Recovering u (suc n) d
  unfolding phase_after
  cleanup_goes_on d h = rw (ne_eqb (suc n) (cleanup_total (width p u)) h, phase_after)

  pub cleanup_ends : (d : Direction) → suc n ≡ cleanup_total (width p u)
      → phase_after p payload image (Recovering u n d) ≡ resumed p image (cleanup_from p image (suc u))
  unfolding phase_after
  cleanup_ends d h = rw (eq-eqb (suc n) (cleanup_total (width p u)) h, phase_after)

  pub cleanup_holds : (d : Direction) → ¬ (suc n ≡ cleanup_total (width p u))
      → payload_after p payload image (Recovering u n d) ≡ payload
  unfolding payload_after
  cleanup_holds d h = rw (ne_eqb (suc n) (cleanup_total (width p u)) h, payload_after)

  pub cleanup_loads : (d : Direction) → suc n ≡ cleanup_total (width p u)
      → payload_after p payload image (Recovering u n d) ≡ reloaded p image (cleanup_from p image (suc u)) payload
  unfolding payload_after
  cleanup_loads d h = rw (eq-eqb (suc n) (cleanup_total (width p u)) h, payload_after)

-- ---- the same of a write, a begin's or a group's
module _ (p : Plan) (payload image : List ℕ) (t : Task) (n : ℕ) where
  pub task_goes_on : ¬ (suc n ≡ write_total (width p (task_write p payload t).unit))
      → phase_after p payload image (phase_at t n) ≡ phase_at t (suc n)
  unfolding phase_after
  task_goes_on h = go t (ne_eqb (suc n) (write_total (width p (task_write p payload t).unit)) h)
    where
      go : (t : Task) → eqb (suc n) (write_total (width p (task_write p payload t).unit)) ≡ false
          → phase_after p payload image (phase_at t n) ≡ phase_at t (suc n)
      go (alone u) e = rw (e, phase_after)
      go (part i) e = rw (e, phase_after)

  pub task_ends : (d : Direction) → suc n ≡ write_total (width p (task_write p payload t).unit)
      → phase_after p payload image (phase_at t n) ≡ phased d (follows p payload t)
  unfolding phase_after
  task_ends d h = go t (eq-eqb (suc n) (write_total (width p (task_write p payload t).unit)) h)
    where
      go : (t : Task) → eqb (suc n) (write_total (width p (task_write p payload t).unit)) ≡ true
          → phase_after p payload image (phase_at t n) ≡ phased d (follows p payload t)
      go (alone u) e = rw (e, phase_after)
      go (part i) e = rw (e, phase_after) (phased_cond d (is_last_write p payload i) ready (grouping (suc i) 0))

  pub task_holds : payload_after p payload image (phase_at t n) ≡ payload
  unfolding payload_after
  task_holds = go t
    where
      go : (t : Task) → payload_after p payload image (phase_at t n) ≡ payload
      go (alone u) = refl
      go (part i) = refl

-- ---- looking for a marker that isn't OK
module _ (p : Plan) (image : List ℕ) where
  none_bad : (n u : ℕ) → ((v : ℕ) → u ≤ v → v < u + n → get p image v marker ≡ OK) → lowest_bad p image n u ≡ none
  unfolding lowest_bad
  none_bad zero u h = refl
  none_bad (suc n) u h =
      rw (eq-eqb _ OK (h u (omega arith) (omega arith)), lowest_bad)
      (none_bad n (suc u) (λ v l r. h v (omega arith) (omega arith)))

  one_bad : (n u t : ℕ) → u ≤ t → t < u + n → ((v : ℕ) → u ≤ v → v < t → get p image v marker ≡ OK)
      → ¬ (get p image t marker ≡ OK) → lowest_bad p image n u ≡ some t
  unfolding lowest_bad
  one_bad zero u t l r h x = absurd (omega arith)
  one_bad (suc n) u t l r h x =
      elim (order u t) [
        | below q ↦
            rw (eq-eqb (get p image u marker) OK (h u (omega arith) q), lowest_bad)
            (one_bad n (suc u) t q (omega arith) (λ v i j. h v (omega arith) j) x)
        | above q ↦
            let e : u ≡ t = omega arith in
            rw (e, ne_eqb (get p image t marker) OK x)
      ]

  pub none_found : (n u : ℕ) → ((v : ℕ) → u ≤ v → v < u + n → get p image v marker ≡ OK)
      → cleanup_of p image (lowest_bad p image n u) ≡ Ready
  none_found n u h = ap (cleanup_of p image) (none_bad n u h)

  pub lowest_found : (n u t : ℕ) → u ≤ t → t < u + n → ((v : ℕ) → u ≤ v → v < t → get p image v marker ≡ OK)
      → ¬ (get p image t marker ≡ OK)
      → cleanup_of p image (lowest_bad p image n u) ≡ Recovering t 0 (direction (get p image t marker))
  lowest_found n u t l r h x = ap (cleanup_of p image) (one_bad n u t l r h x)
