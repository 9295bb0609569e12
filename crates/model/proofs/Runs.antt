-- A run of stores, as a torn page is one: what it changes, and what it leaves.
use Prim.Native.Nat.{ℕ, zero, suc, ◌+◌, ◌≤◌, ◌<◌}
use mathlib.Core.Path.{◌≡◌, refl, ap, ◌∙◌}
use mathlib.Core.List.{List, [], ◌∷◌}
use native.Mathlib.Omega.{arith}
use lib.ListN.{length, get_or, set, drop, length-set}
use lib.Seq.{sets, get_or-set_same, get_or-set_other, drop-set-lt}

pub sets_below : (vs xs : List ℕ) (i j : ℕ) → j < i → get_or (sets xs i vs) j 0 ≡ get_or xs j 0
sets_below [] xs i j h = refl
sets_below (v ∷ vs) xs i j h = sets_below vs (set xs i v) (suc i) j (omega arith) ∙ get_or-set_other xs i j v 0 (omega arith)

pub sets_above : (vs xs : List ℕ) (i j : ℕ) → i + length vs ≤ j → get_or (sets xs i vs) j 0 ≡ get_or xs j 0
sets_above [] xs i j h = refl
sets_above (v ∷ vs) xs i j h = sets_above vs (set xs i v) (suc i) j (omega arith) ∙ get_or-set_other xs i j v 0 (omega arith)

pub sets_at : (vs xs : List ℕ) (i j : ℕ) → j < length vs → i + length vs ≤ length xs → get_or (sets xs i vs) (i + j) 0 ≡ get_or vs j 0
sets_at [] xs i j l h = absurd (omega arith)
sets_at (v ∷ vs) xs i zero l h =
    ap (λ (q : ℕ). get_or (sets (set xs i v) (suc i) vs) q 0) {x = i + 0} {y = i} (omega arith)
    ∙ sets_below vs (set xs i v) (suc i) i (omega arith)
    ∙ get_or-set_same xs i v 0 (omega arith)
sets_at (v ∷ vs) xs i (suc j) l h =
    ap (λ (q : ℕ). get_or (sets (set xs i v) (suc i) vs) q 0) {x = i + suc j} {y = suc i + j} (omega arith)
    ∙ sets_at vs (set xs i v) (suc i) j (omega arith) (omega (arith, length-set xs i v))

pub drop_sets : (vs xs : List ℕ) (i n : ℕ) → i + length vs ≤ n → drop n (sets xs i vs) ≡ drop n xs
drop_sets [] xs i n h = refl
drop_sets (v ∷ vs) xs i n h = drop_sets vs (set xs i v) (suc i) n (omega arith) ∙ drop-set-lt n xs i v (omega arith)
