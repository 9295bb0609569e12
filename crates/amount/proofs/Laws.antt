-- The model's eight bytes of a number, and the number of eight bytes, are the library's.
use Prim.Native.Nat.{ℕ, zero, suc, ◌+◌, ◌/◌, ◌<◌, ◌≤◌}
use mathlib.Core.Path.{◌≡◌, sym, ◌∙◌}
use mathlib.Core.List.{List, [], ◌∷◌}
use native.Mathlib.Omega.{arith}
use lib.ListN.{length, get_or, drop, length-drop}
use lib.Seq.{get_or-drop}
use mir.Syntax.{w8, w64}
use mir.Val.{Fits}
use Rattle.std.specs.Int.{to_le_bytes, from_le_bytes}
use Rattle.std.proofs.lemmas.Nat.{le_bytes_8}
use Rattle.model.specs.Turns.{amount, in_bytes}
use Rattle.model.proofs.TurnLaws.{power, bytes_size, bytes_amount}

pub read_amount : (bytes : List ℕ) → length bytes ≡ 8 → from_le_bytes w64 bytes ≡ amount bytes
unfolding amount
read_amount (a ∷ b ∷ c ∷ d ∷ e ∷ f ∷ g ∷ h ∷ []) l = omega arith
read_amount bytes l = absurd (omega arith)

small : (n v i : ℕ) → get_or (in_bytes n v) i 0 < 256
unfolding in_bytes
small zero v i = omega arith
small (suc n) v zero = omega arith
small (suc n) v (suc i) = small n (v / 256) i

pub written : (v : ℕ) → v < 18446744073709551616 → to_le_bytes w64 v ≡ in_bytes 8 v
written v fits =
    let size = bytes_size 8 v in
    le_bytes_8 (in_bytes 8 v) v size (small 8 v) (sym (read_amount (in_bytes 8 v) size ∙ bytes_amount 8 v fits))

-- n bytes hold less than 256 to the n
amount_small : (n : ℕ) (xs : List ℕ) → length xs ≤ n → ((k : ℕ) → Fits w8 (get_or xs k 0)) → amount xs < power n
unfolding amount
amount_small zero [] l h = omega arith
amount_small zero (x ∷ xs) l h = absurd (omega arith)
amount_small (suc n) [] l h = omega (arith, amount_small n [] (omega arith) h)
amount_small (suc n) (x ∷ xs) l h = omega (arith, h 0, amount_small n xs (omega arith) (λ k. h (suc k)))

pub rest_small : (n j : ℕ) (xs : List ℕ) → length xs ≤ n + j → ((k : ℕ) → Fits w8 (get_or xs k 0)) → amount (drop j xs) < power n
rest_small n j xs l h = amount_small n (drop j xs) (simp length-drop (omega arith)) (λ k. rw get_or-drop (h (j + k)))
