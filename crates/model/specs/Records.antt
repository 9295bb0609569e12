-- WHAT A GROUP AND ITS RECORD ARE, Ticket 10, told without a computation. specs/Groups.antt computes them, for the device and for the
-- ledger alike, so the power-cut theorem cannot notice what goes wrong there. specs/Demands.antt and specs/Refuses.antt speak of groups in
-- the words of this file only, and proofs/Records.antt has that both say the same.
use Rattle.std.specs.Prelude.{ℕ, suc, ◌+◌, ◌-◌, ◌≤◌, ◌<◌, ◌≡◌, List, [], ◌∷◌, ◌++◌, true, false, length, get_or, take, replicate}
use Rattle.model.specs.declared.Plan.{Plan}
use Rattle.model.specs.Plans.{width}
use Rattle.model.specs.Groups.{Write, write}

-- ---- "A group .. is the bytes of 2 to 4 members, each a unit number byte and that unit's payload", "with units below k".
pub data Splits (p : Plan) : List ℕ → List Write → Type 0 where
  none : Splits p [] []
  member : {rest : List ℕ} {ms : List Write} (u : ℕ) (payload : List ℕ) → u < p.count → length payload ≡ width p u
      → Splits p rest ms → Splits p (u ∷ (payload ++ rest)) (write u payload ∷ ms)

pub record IsGroup (p : Plan) (g : List ℕ) (ms : List Write) : Type 0 where
  pub splits : Splits p g ms
  pub least : 2 ≤ length ms
  pub most : length ms ≤ 4

-- ---- "20 for a unit twice or the record itself": the last unit of a grouped device
pub data Has (u : ℕ) : List Write → Type 0 where
  here : {ms : List Write} (payload : List ℕ) → Has u (write u payload ∷ ms)
  there : {ms : List Write} (x : Write) → Has u ms → Has u (x ∷ ms)

pub data Twice : List Write → Type 0 where
  again : {ms : List Write} (x : Write) → Has x.unit ms → Twice (x ∷ ms)
  later : {ms : List Write} (x : Write) → Twice ms → Twice (x ∷ ms)

abbrev pub IsLast : Plan → ℕ → Type 0
IsLast p r = r ≡ p.count - 1

pub data Overlaps (p : Plan) (ms : List Write) : Type 0 where
  twice : Twice ms → Overlaps p ms
  the_record : (r : ℕ) → p.grouped ≡ true → IsLast p r → Has r ms → Overlaps p ms

-- ---- "21 if there is no record or it is too narrow": it takes a byte more than the group
pub data Narrow (p : Plan) (g : List ℕ) : Type 0 where
  no_record : p.grouped ≡ false → Narrow p g
  too_narrow : (r : ℕ) → IsLast p r → width p r < 1 + length g → Narrow p g

-- ---- "The record is the member count, the members, then zeros."; "the payload being the record, zeros after it"; "passing 19 to 21"
pub record Gives (p : Plan) (payload g : List ℕ) (ms : List Write) : Type 0 where
  pub is_group : IsGroup p g ms
  pub apart : ¬ Overlaps p ms
  pub fits : ¬ Narrow p g
  pub size : length payload ≡ 256
  pub count : get_or payload 0 0 ≡ length ms
  pub members : (i : ℕ) → i < length g → get_or payload (suc i) 0 ≡ get_or g i 0
  pub zeros : (i : ℕ) → 1 + length g ≤ i → get_or payload i 0 ≡ 0

-- ---- "Steps write the record, then each member in order, then a record of zeros": write i is of this unit, with these bytes.
pub data Nth : List Write → ℕ → Write → Type 0 where
  head : {ms : List Write} (x : Write) → Nth (x ∷ ms) 0 x
  tail : {ms : List Write} {i : ℕ} {y : Write} (x : Write) → Nth ms i y → Nth (x ∷ ms) (suc i) y

pub data WriteOf (p : Plan) (payload : List ℕ) (ms : List Write) : ℕ → ℕ → List ℕ → Type 0 where
  the_record : (r : ℕ) → IsLast p r → WriteOf p payload ms 0 r (take (width p r) payload)
  a_member : (i : ℕ) (x : Write) → Nth ms i x → WriteOf p payload ms (suc i) x.unit x.bytes
  the_zeros : (r : ℕ) → IsLast p r → WriteOf p payload ms (suc (length ms)) r (replicate (width p r) 0)
