-- Every list of calls has bytes that say it.
use Prim.Native.Nat.{ℕ, zero, suc, ◌+◌, ◌*◌, ◌/◌, ◌%◌, ◌<◌}
use mathlib.Core.Path.{◌≡◌, refl, ap, ◌∙◌}
use mathlib.Core.List.{List, [], ◌∷◌, ◌++◌}
use native.Mathlib.Omega.{arith}
use native.Mathlib.Nat.{div-add-mod'}
use lib.ListN.{length, length-append}
use lib.Seq.{take_all, take-append_seam, drop-append_seam}
use Rattle.model.specs.declared.Role.TheVariants.{Rider, Gym, Service}
use Rattle.model.specs.Ledger.{Call, begin, ride, group, paid, step, cut, wake}
use Rattle.model.specs.Turns.{in_bytes}
use Rattle.model.proofs.TurnLaws.{bytes_size, bytes_amount}
use Rattle.recovery.specs.Encoding.{turns_in, call_of, calls_from, calls_of, encoded, bytes_of_call, bytes_of, Bytes, Handed, Encodes}
use Rattle.recovery.proofs.Laws.{skip, whole}

decoded : (kind u : ℕ) (own rest : List ℕ) → calls_of (encoded kind u own ++ rest) ≡ call_of kind u own ∷ calls_of rest
unfolding calls_from
decoded kind u own rest =
    let n : ℕ = length own in
    let size : n / 256 * 256 + n % 256 ≡ n = div-add-mod' n 256 in
    let unit : u / 256 * 256 + u % 256 ≡ u = div-add-mod' u 256 in
    let past : 4 + n ≡ suc (suc (suc (suc n))) = omega arith in
    whole kind (u / 256 ∷ u % 256 ∷ n / 256 ∷ n % 256 ∷ (own ++ rest)) (omega (arith, length-append own rest))
    ∙ rw (size, unit, past, take-append_seam own rest, skip n (own ++ rest), drop-append_seam own rest)

turns_in_lem : (turns : ℕ) → turns < 18446744073709551616 → turns_in (in_bytes 8 turns) ≡ turns
unfolding turns_in
turns_in_lem turns h =
    let size : length (in_bytes 8 turns) ≡ 8 = bytes_size 8 turns in
    rw (size, take_all 8 (in_bytes 8 turns) (omega (arith, size))) (bytes_amount 8 turns (omega arith))

abbrev Decodes : Call → Type 0
Decodes c = (rest : List ℕ) → calls_of (bytes_of_call c ++ rest) ≡ c ∷ calls_of rest

ride_decodes : (turns : ℕ) → turns < 18446744073709551616 → Decodes (ride turns)
unfolding call_of
ride_decodes turns h rest = decoded 4 0 (in_bytes 8 turns) rest ∙ ap (λ (n : ℕ). ride n ∷ calls_of rest) (turns_in_lem turns h)

paid_decodes : (turns : ℕ) → turns < 18446744073709551616 → Decodes (paid turns)
unfolding call_of
paid_decodes turns h rest = decoded 10 0 (in_bytes 8 turns) rest ∙ ap (λ (n : ℕ). paid n ∷ calls_of rest) (turns_in_lem turns h)

ahead : (c : Call) (cs : List Call) → Decodes c → calls_of (bytes_of cs) ≡ cs → calls_of (bytes_of_call c ++ bytes_of cs) ≡ c ∷ cs
ahead c cs d e = d (bytes_of cs) ∙ ap (λ (l : List Call). c ∷ l) e

decodes : (cs : List Call) → Handed cs → calls_of (bytes_of cs) ≡ cs
unfolding bytes_of calls_from call_of
decodes [] h = refl
decodes (step ∷ cs) h = ahead step cs (decoded 0 0 []) (decodes cs h)
decodes (begin Service u payload ∷ cs) h = ahead (begin Service u payload) cs (decoded 1 u payload) (decodes cs h.3)
decodes (begin Rider u payload ∷ cs) h = ahead (begin Rider u payload) cs (decoded 8 u payload) (decodes cs h.3)
decodes (begin Gym u payload ∷ cs) h = ahead (begin Gym u payload) cs (decoded 9 u payload) (decodes cs h.3)
decodes (cut bytes ∷ cs) h = ahead (cut bytes) cs (decoded 2 0 bytes) (decodes cs h.2)
decodes (wake ∷ cs) h = ahead wake cs (decoded 3 0 []) (decodes cs h)
decodes (group g ∷ cs) h = ahead (group g) cs (decoded 5 0 g) (decodes cs h.2)
decodes (ride turns ∷ cs) h = ahead (ride turns) cs (ride_decodes turns h.0) (decodes cs h.1)
decodes (paid turns ∷ cs) h = ahead (paid turns) cs (paid_decodes turns h.0) (decodes cs h.1)

-- and they are bytes
both : (xs ys : List ℕ) → Bytes xs → Bytes ys → Bytes (xs ++ ys)
both [] ys h k = k
both (x ∷ xs) ys h k = (h.0, both xs ys h.1 k)

framed : (kind u : ℕ) (own rest : List ℕ) → kind < 256 → u < 65536 → length own < 65536 → Bytes own → Bytes rest
    → Bytes (encoded kind u own ++ rest)
framed kind u own rest k hu n h r = (k, (omega arith, (omega arith, (omega arith, (omega arith, both own rest h r)))))

all_bytes : (n v : ℕ) → Bytes (in_bytes n v)
unfolding in_bytes
all_bytes zero v = tt
all_bytes (suc n) v = (omega arith, all_bytes n (v / 256))

in_bytes_lem : (cs : List Call) → Handed cs → Bytes (bytes_of cs)
unfolding bytes_of
in_bytes_lem [] h = tt
in_bytes_lem (step ∷ cs) h = framed 0 0 [] (bytes_of cs) (omega arith) (omega arith) (omega arith) tt (in_bytes_lem cs h)
in_bytes_lem (begin Service u payload ∷ cs) h = framed 1 u payload (bytes_of cs) (omega arith) h.0 h.1 h.2 (in_bytes_lem cs h.3)
in_bytes_lem (begin Rider u payload ∷ cs) h = framed 8 u payload (bytes_of cs) (omega arith) h.0 h.1 h.2 (in_bytes_lem cs h.3)
in_bytes_lem (begin Gym u payload ∷ cs) h = framed 9 u payload (bytes_of cs) (omega arith) h.0 h.1 h.2 (in_bytes_lem cs h.3)
in_bytes_lem (cut bytes ∷ cs) h = framed 2 0 bytes (bytes_of cs) (omega arith) (omega arith) h.0 h.1 (in_bytes_lem cs h.2)
in_bytes_lem (group g ∷ cs) h = framed 5 0 g (bytes_of cs) (omega arith) (omega arith) h.0 h.1 (in_bytes_lem cs h.2)
in_bytes_lem (ride turns ∷ cs) h =
    framed 4 0 (in_bytes 8 turns) (bytes_of cs) (omega arith) (omega arith) (omega (arith, bytes_size 8 turns)) (all_bytes 8 turns) (in_bytes_lem cs h.1)
in_bytes_lem (paid turns ∷ cs) h =
    framed 10 0 (in_bytes 8 turns) (bytes_of cs) (omega arith) (omega arith) (omega (arith, bytes_size 8 turns)) (all_bytes 8 turns) (in_bytes_lem cs h.1)
in_bytes_lem (wake ∷ cs) h = framed 3 0 [] (bytes_of cs) (omega arith) (omega arith) (omega arith) tt (in_bytes_lem cs h)

pub encodes : Encodes
encodes cs h = (decodes cs h, in_bytes_lem cs h)
