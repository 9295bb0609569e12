-- A caller's laws: a list has as many values as its count says, and stored into a buffer they are its front.
use Rattle.std.proofs.Common.{◌≡◌, refl, ap, arith, ℕ, zero, suc, ◌≤◌, List, length, take}
use Prim.Native.Char.{code}
use lib.Seq.{sets, sets-eq, take_at}
use Rattle.token.specs.declared.Item.{Item}
use Rattle.token.specs.Token.{eat_at}
use Rattle.list.specs.Items.{values_at}

module _ (reads : List ℕ → ℕ → Item) (line : List ℕ) where
  pub values_length : (at count : ℕ) → length (values_at reads line at count) ≡ count
  unfolding values_at
  values_length at zero = refl
  values_length at (suc count) = ap suc (values_length (eat_at line (reads line at).next (code " ")) count)

  pub values_front : (out : List ℕ) (at count : ℕ) → count ≤ length out
      → take count (sets out 0 (values_at reads line at count)) ≡ values_at reads line at count
  values_front out at count h =
      let n : length (values_at reads line at count) ≡ count = values_length at count in
      rw (sets-eq (values_at reads line at count) out 0 (omega arith)) (take_at (values_at reads line at count) _ count n)
