-- A plan that start accepts has units of at most 8 * 528 bytes together.
use Prim.Native.Nat.{ℕ, zero, suc, ◌≤◌}
use mathlib.Core.Path.{◌≡◌, refl, sym, ◌∙◌}
use native.Mathlib.Omega.{arith}
use Rattle.model.specs.declared.Plan.{Plan}
use Rattle.model.specs.Layout.{total}
use Rattle.model.specs.Refusals.{start_number}
use Rattle.model.specs.Calls.{start, start_answer}
use Rattle.store.specs.declared.Answer.{Answer}
use Rattle.store.specs.Modelled.{Starts}
use Rattle.model.proofs.RefusalLaws.{start_says, count_bounds}
use Rattle.lookup.proofs.Laws.{base_small}

pub total_most : (p : Plan) → start_number p ≡ 0 → total p ≤ 4224
total_most p e =
    let ok = start_says p e in
    omega (arith, base_small p ok p.count (omega arith), (count_bounds p ok).1)

start_number_lem : (p : Plan) → (start p).number ≡ start_number p
unfolding start
start_number_lem p = go (start_number p)
  where
    go : (n : ℕ) → (start_answer n p).number ≡ n
    go zero = refl
    go (suc n) = refl

-- what a start that answers 0 says of the plan
pub accepted : (p : Plan) (r : Answer) → Starts r (start p) → r.number ≡ 0 → start_number p ≡ 0
accepted p r s e = sym (start_number_lem p) ∙ (sym s.number ∙ e)
