-- What a list keeps of an item fits: a byte is below 256, a number below 65536.
use Rattle.std.proofs.Common.{◌≡◌, refl, arith, ℕ, ◌+◌, ◌-◌, ◌*◌, ◌≤◌, List, Bool, true, false, cond, ltb, leb}
use Rattle.std.proofs.Math.Nat.{mul-le-mul_left}
use borrow.Author.Tests.{ltb-true, leb-true}
use Rattle.token.specs.declared.Item.{Item}
use Rattle.token.specs.Token.{lost, item, digit_at, extend_at, hex_at, at_most, entry_at, number_at}

chosen : (test : Bool) (i : Item) (most : ℕ) → (test ≡ true → i.value ≤ most) → (cond test i (item 0 lost)).value ≤ most
chosen true i most h = h refl
chosen false i most h = omega arith

extended : (line : List ℕ) (base most : ℕ) (i : Item) → i.value ≤ most → (extend_at line base i).value ≤ base * most + (base - 1)
unfolding extend_at
extended line base most i h =
    let d : ℕ = digit_at line i.next in
    chosen (ltb d base) (item (base * i.value + d) (i.next + 1)) (base * most + (base - 1))
    (λ t. omega (arith, ltb-true d base t, mul-le-mul_left base h))

pub hex_small : (line : List ℕ) (at : ℕ) → (hex_at line at).value ≤ 255
unfolding hex_at
hex_small line at = extended line 16 15 _ (extended line 16 0 (item 0 at) (omega arith))

pub number_small : (line : List ℕ) (at : ℕ) → (number_at line at).value ≤ 65535
unfolding number_at at_most
number_small line at = let i : Item = entry_at line at in chosen (leb i.value 65535) i 65535 (λ t. leb-true _ _ t)
