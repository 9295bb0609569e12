-- Laws of the definitions: what one turn of a loop does, and what its end leaves.
use Rattle.std.proofs.Common.{◌≡◌, refl, sym, ap, arith, ℕ, zero, suc, ◌+◌, ◌-◌, ◌<◌, ◌≤◌, List, [], ◌∷◌, length, add-one, ne_eqb, ◌≢◌}
use lib.ListN.{set}
use lib.Seq.{sets, set_out}
use Rattle.token.specs.declared.Item.{Item}
use Rattle.token.specs.Token.{lost, item, eat_at}
use Rattle.token.proofs.Lost.{lost_eats}
use Rattle.list.specs.List.{items, ends_at, items_at, list_at}
use Rattle.list.specs.Items.{values_at}

module _ (reads : List ℕ → ℕ → Item) where
  pub items_step : (line : List ℕ) (at most count : ℕ) → count < most → items_at reads line at (most - count) count ≡
      ends_at (eat_at line (reads line at).next 41) (count + 1) (items_at reads line (eat_at line (reads line at).next 32) (most - (count + 1)) (count + 1))
  unfolding items_at
  items_step line at most count h = let e : most - count ≡ suc (most - (count + 1)) = omega arith in rw e

  pub items_end : (line : List ℕ) (at most count : ℕ) → most ≤ count → items 0 lost ≡ items_at reads line at (most - count) count
  unfolding items_at
  items_end line at most count h = let e : most - count ≡ 0 = omega arith in rw e

  -- where nothing is read any more there is no list
  pub lost_items : (line : List ℕ) → length line ≤ lost → reads line lost ≡ item 0 lost → (most count : ℕ)
      → items_at reads line lost most count ≡ items 0 lost
  unfolding items_at
  lost_items line fits e zero count = refl
  lost_items line fits e (suc most) count =
      simp (e, lost_eats line fits) (lost_items line fits e most (count + 1))

  pub lost_list : (line : List ℕ) (most : ℕ) → list_at reads line lost most ≡ items 0 lost
  unfolding list_at
  lost_list line most = refl

  -- a list that ends where it begins
  pub list_empty : (line : List ℕ) (at most next : ℕ) → length line < lost → next ≡ eat_at line at 41 → next ≤ length line
      → list_at reads line at most ≡ items 0 next
  unfolding list_at
  list_empty line at most next fits e h =
      let there : at ≢ lost = λ l. omega (arith, e, ap (λ (p : ℕ). eat_at line p 41) l, lost_eats line (omega arith) 41) in
      simp (ne_eqb at lost there, ← e, ne_eqb next lost (λ l. omega arith))

  -- one more value stored: the item that was read, and the place past its space
  pub values_step : (line out : List ℕ) (at count i : ℕ) (item : Item) (next : ℕ) → i < count
      → item ≡ reads line at → next ≡ eat_at line item.next 32
      → sets (set out i item.value) (i + 1) (values_at reads line next (count - (i + 1))) ≡ sets out i (values_at reads line at (count - i))
  unfolding values_at
  values_step line out at count i item next h ei en =
      let e : count - i ≡ suc (count - (i + 1)) = omega arith in
      rw (en, ei, e, add-one)

  pub values_end : (line out : List ℕ) (at count i : ℕ) → count ≤ i → out ≡ sets out i (values_at reads line at (count - i))
  unfolding values_at
  values_end line out at count i h = let e : count - i ≡ 0 = omega arith in rw e

-- stores past the end change nothing
pub sets_out : (out : List ℕ) (i : ℕ) (values : List ℕ) → length out ≤ i → sets out i values ≡ out
sets_out out i [] h = refl
sets_out out i (v ∷ values) h = rw (set_out out i v h) (sets_out out (suc i) values (omega arith))

pub values_out : (reads : List ℕ → ℕ → Item) (line out : List ℕ) (at count i : ℕ) → length out ≤ i → out ≡ sets out i (values_at reads line at (count - i))
values_out reads line out at count i h = sym (sets_out out i (values_at reads line at (count - i)) h)
