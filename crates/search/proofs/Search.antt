-- The search for a bad marker, a unit at a time: b is where unit u begins.
use Prim.Native.Nat.{ℕ, zero, suc, ◌+◌, ◌-◌, ◌≤◌, ◌<◌}
use mathlib.Core.Path.{◌≡◌, refl, ap, sym, ◌∙◌}
use mathlib.Core.List.{List, [], ◌∷◌, ◌++◌}
use mathlib.Core.Option.{Option, none, some}
use mathlib.Core.Bool.{Bool, true, false, ◌||◌}
use Rattle.std.specs.List.{list_any, range_with_len}
use Rattle.std.proofs.lemmas.List.Folds.{list_any-append}
use native.Mathlib.Omega.{arith}
use lib.ListN.{get_or}
use borrow.Author.Tests.{eq-eqb, ne_eqb}
use Rattle.model.specs.declared.Plan.{Plan}
use Rattle.model.specs.declared.Phase.{Phase}
use Rattle.model.specs.declared.Phase.TheVariants.{Ready, Recovering}
use Rattle.model.specs.Marker.{OK, is_foreign, direction}
use Rattle.model.specs.Refusals.{any_foreign}
use Rattle.model.specs.Layout.{marker, base, total, get}
use Rattle.model.proofs.RefusalLaws.{PlanOk}
use Rattle.model.proofs.LayoutLaws.{base_bound, unit_some}
use Rattle.model.specs.Calls.{lowest_bad, cleanup_of, cleanup_from}
use Rattle.std.specs.Prelude.{None, Some}
use Rattle.std.specs.Prelude as prelude
use Rattle.search.specs.declared.Bad.{Bad}
use Rattle.search.specs.Found.{lowest_from, found}

-- a unit's marker lies before the end of the last unit
pub marker_inside : (p : Plan) → PlanOk p → (u : ℕ) → u < p.count → base p u < total p
marker_inside p ok u h = omega (arith, base_bound p ok u p.count h, unit_some p ok u)

module _ (p : Plan) (image : List ℕ) (u b : ℕ) (is : b ≡ base p u) where
  pub marker_at : get_or image b 0 ≡ get p image u marker
  unfolding get
  marker_at = ap (λ (i : ℕ). get_or image i 0) (omega arith)

  pub search_skip : u < p.count → get_or image b 0 ≡ OK → lowest_from p image (u + 1) ≡ lowest_from p image u
  unfolding lowest_bad
  search_skip h e =
      let more : p.count - u ≡ suc (p.count - (u + 1)) = omega arith in
      let one : u + 1 ≡ suc u = omega arith in
      rw (more, one, eq-eqb (get p image u marker) OK (sym marker_at ∙ e))

  pub search_stop : u < p.count → ¬ (get_or image b 0 ≡ OK) → Some (record { unit = u; marker = get_or image b 0 }) ≡ found p image (lowest_from p image u)
  unfolding lowest_bad
  search_stop h e =
      let more : p.count - u ≡ suc (p.count - (u + 1)) = omega arith in
      rw (more, marker_at, ne_eqb (get p image u marker) OK (λ q. e (marker_at ∙ q)))

pub search_end : (p : Plan) (image : List ℕ) (u : ℕ) → p.count ≤ u → None ≡ found p image (lowest_from p image u)
unfolding lowest_bad
search_end p image u h =
    let none : p.count - u ≡ 0 = omega arith in
    rw none

-- ---- what the calls make of it
abbrev pub cleaned : prelude.Option Bad → Phase
cleaned None = Ready
cleaned (Some bad) = Recovering bad.unit 0 (direction bad.marker)

pub found_cleaned : (p : Plan) (image : List ℕ) (u : ℕ) → cleaned (found p image (lowest_from p image u)) ≡ cleanup_from p image u
found_cleaned p image u = go (lowest_from p image u)
  where
    go : (o : Option ℕ) → cleaned (found p image o) ≡ cleanup_of p image o
    go none = refl
    go (some u) = refl

abbrev pub named : prelude.Option Bad → Option ℕ
named None = none
named (Some bad) = some bad.unit

-- the search finds the unit that inspect names
pub found_named : (p : Plan) (image : List ℕ) → named (found p image (lowest_from p image 0)) ≡ lowest_bad p image p.count 0
found_named p image =
    let all : p.count - 0 ≡ p.count = omega arith in
    go (lowest_from p image 0) ∙ rw all
  where
    go : (o : Option ℕ) → named (found p image o) ≡ o
    go none = refl
    go (some u) = refl

-- ---- the search for a foreign marker
range_more : (a b n : ℕ) → a + n ≡ b → range_with_len a (suc n) ≡ range_with_len a n ++ b ∷ []
range_more a b zero e = ap (λ (k : ℕ). k ∷ []) (omega arith)
range_more a b (suc n) e = ap (λ (xs : List ℕ). a ∷ xs) (range_more (a + 1) b n (omega arith))

last_first : (x y : Bool) → x || (y || false) ≡ y || x
last_first true true = refl
last_first true false = refl
last_first false true = refl
last_first false false = refl

-- all units from the lowest up, as the search goes, are those from the highest down
pub range_foreign : (markers : ℕ → ℕ) (n : ℕ) → list_any (λ u. is_foreign (markers u)) (range_with_len 0 n) ≡ any_foreign markers n
unfolding any_foreign
range_foreign markers zero = refl
range_foreign markers (suc n) =
    let test = λ (u : ℕ). is_foreign (markers u) in
    ap (list_any test) (range_more 0 n n (omega arith)) ∙ list_any-append test (range_with_len 0 n) (n ∷ [])
    ∙ rw (range_foreign markers n) (last_first (any_foreign markers n) (is_foreign (markers n)))
