-- Lists of calls as bytes. A call is
--   a byte for its kind: 1 begin by service, 2 cut, 3 wake, 4 ride, 5 group, 8 begin by a rider, 9 begin by the gym, 10 paid ride,
--   any other step;
--   two bytes, the high one first: the unit, which only a begin looks at;
--   two bytes, the high one first: how many bytes of its own follow;
--   and these: a begin's payload; the bytes of a cut or of a group; a ride's turns, paid or not, are the first eight, lowest byte first,
--   or 0 if there are fewer.
-- So any bytes are a list of calls. Those at the end that are too few for a call are none.
use Rattle.std.specs.Prelude.{ℕ, zero, suc, ◌+◌, ◌*◌, ◌/◌, ◌%◌, ◌<◌, ◌≡◌, List, [], ◌∷◌, ◌++◌, cond, eqb, ltb, leb, length, get_or, take, drop}
use Rattle.model.specs.declared.Role.TheVariants.{Rider, Gym, Service}
use Rattle.model.specs.Turns.{amount, in_bytes}
use Rattle.model.specs.Ledger.{Call, begin, ride, group, paid, step, cut, wake}

abbrev pub two : ℕ → ℕ → ℕ
two high low = high * 256 + low

unfoldable pub turns_in : List ℕ → ℕ
turns_in own = cond (ltb (length own) 8) 0 (amount (take 8 own))

unfoldable pub call_of : ℕ → ℕ → List ℕ → Call
call_of kind unit own =
    cond (eqb kind 1) (begin Service unit own)
    (cond (eqb kind 2) (cut own)
    (cond (eqb kind 3) wake
    (cond (eqb kind 4) (ride (turns_in own))
    (cond (eqb kind 5) (group own) (cond (eqb kind 8) (begin Rider unit own)
    (cond (eqb kind 9) (begin Gym unit own) (cond (eqb kind 10) (paid (turns_in own)) step)))))))

-- the unit and the size, in what follows the kind
abbrev pub unit_in : List ℕ → ℕ
unit_in rest = two (get_or rest 0 0) (get_or rest 1 0)

abbrev pub size_in : List ℕ → ℕ
size_in rest = two (get_or rest 2 0) (get_or rest 3 0)

-- the calls of the bytes from byte `at` on
unfoldable pub calls_from : ℕ → List ℕ → List Call
calls_from at [] = []
calls_from (suc at) (x ∷ rest) = calls_from at rest
calls_from zero (kind ∷ rest) =
    cond (leb (4 + size_in rest) (length rest))
    (call_of kind (unit_in rest) (take (size_in rest) (drop 4 rest)) ∷ calls_from (4 + size_in rest) rest)
    []

abbrev pub calls_of : List ℕ → List Call
calls_of bytes = calls_from 0 bytes

-- ---- And back: every list of calls that the library can be handed has its bytes.
abbrev pub encoded : ℕ → ℕ → List ℕ → List ℕ
encoded kind unit own = kind ∷ unit / 256 ∷ unit % 256 ∷ length own / 256 ∷ length own % 256 ∷ own

abbrev pub bytes_of_call : Call → List ℕ
bytes_of_call step = encoded 0 0 []
bytes_of_call (begin Service u payload) = encoded 1 u payload
bytes_of_call (begin Rider u payload) = encoded 8 u payload
bytes_of_call (begin Gym u payload) = encoded 9 u payload
bytes_of_call (cut bytes) = encoded 2 0 bytes
bytes_of_call wake = encoded 3 0 []
bytes_of_call (ride turns) = encoded 4 0 (in_bytes 8 turns)
bytes_of_call (group g) = encoded 5 0 g
bytes_of_call (paid turns) = encoded 10 0 (in_bytes 8 turns)

unfoldable pub bytes_of : List Call → List ℕ
bytes_of [] = []
bytes_of (c ∷ cs) = bytes_of_call c ++ bytes_of cs

abbrev pub Bytes : List ℕ → Type 0
Bytes [] = Unit
Bytes (x ∷ xs) = (x < 256) × Bytes xs

-- what the library's calls can be handed: a unit of 16 bits, bytes, less than 65,536 of them, and turns of 64 bits
abbrev pub Handed : List Call → Type 0
Handed [] = Unit
Handed (begin role u payload ∷ cs) = (u < 65536) × (length payload < 65536) × Bytes payload × Handed cs
Handed (cut bytes ∷ cs) = (length bytes < 65536) × Bytes bytes × Handed cs
Handed (group g ∷ cs) = (length g < 65536) × Bytes g × Handed cs
Handed (ride turns ∷ cs) = (turns < 18446744073709551616) × Handed cs
Handed (paid turns ∷ cs) = (turns < 18446744073709551616) × Handed cs
Handed (step ∷ cs) = Handed cs
Handed (wake ∷ cs) = Handed cs

-- proved in proofs/Encodes.antt
abbrev pub Encodes : Type 0
Encodes = (cs : List Call) → Handed cs → (calls_of (bytes_of cs) ≡ cs) × Bytes (bytes_of cs)
