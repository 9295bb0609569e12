-- The widths of a plan, as the code stores them.
use Rattle.std.proofs.Common.{◌≡◌, refl, ◌∙◌, ap, arith, ℕ, zero, suc, ◌-◌, ◌≤◌, List, [], ◌∷◌, ◌++◌, take, length, min}
use lib.ListN.{set, replicate}
use lib.Seq.{sets, length-sets}
use Rattle.token.specs.Token.{number_at}
use Rattle.list.specs.Items.{values_at}
use Rattle.list.proofs.Laws.{sets_out, values_end, values_out}
use Rattle.script.specs.Widths.{widths_at}

sets_cons : (x : ℕ) (out : List ℕ) (i : ℕ) (values : List ℕ) → sets (x ∷ out) (suc i) values ≡ x ∷ sets out i values
sets_cons x out i [] = refl
sets_cons x out i (v ∷ values) = sets_cons x (set out i v) (suc i) values

-- values stored over k zeros are the first k of them, zeros past them
sets_zeros : (k n : ℕ) (values : List ℕ) → k ≤ n → sets (replicate k 0) 0 values ≡ take k (values ++ replicate n 0)
sets_zeros zero n values h = sets_out [] 0 values (omega arith)
sets_zeros (suc k) zero [] h = absurd (omega arith)
sets_zeros (suc k) (suc n) [] h = ap (λ (l : List ℕ). 0 ∷ l) (sets_zeros k n [] (omega arith))
sets_zeros (suc k) n (v ∷ values) h = sets_cons v (replicate k 0) 0 values ∙ ap (λ (l : List ℕ). v ∷ l) (sets_zeros k n values (omega arith))

pub widths_all : (line : List ℕ) (at count : ℕ) → sets (replicate 8 0) 0 (values_at number_at line at count) ≡ widths_at line at count
unfolding widths_at
widths_all line at count = sets_zeros 8 8 (values_at number_at line at count) (omega arith)

-- where the loop ends, what it stored is all
pub widths_done : (line widths : List ℕ) (place at count i end : ℕ) → end ≡ min count 8 → end ≤ i
    → sets widths i (values_at number_at line place (count - i)) ≡ sets (replicate 8 0) 0 (values_at number_at line at count)
    → widths ≡ widths_at line at count
widths_done line widths place at count i end m h e =
    let n : length widths ≡ 8 = omega (arith, length-sets widths i (values_at number_at line place (count - i)), ap length e, length-sets (replicate 8 0) 0 (values_at number_at line at count)) in
    let kept : widths ≡ sets widths i (values_at number_at line place (count - i)) = grind (arith, values_end, values_out) in
    kept ∙ e ∙ widths_all line at count
