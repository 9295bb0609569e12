-- A group's payload by place: how far its members reach, and where the bytes of a write begin.
use Rattle.std.specs.Prelude.{ℕ, zero, suc, ◌+◌, ◌<◌, ◌≤◌, ◌≡◌, List, [], ◌∷◌, false, length, get_or, take, drop}
use Rattle.group.specs.declared.Part.{Part}
use Rattle.model.specs.declared.Plan.{Plan}
use Rattle.model.specs.Plans.{width}
use Rattle.model.specs.Groups.{write_at, is_last_write}
use Rattle.model.specs.Refusals.{bad_write}

-- how many bytes the first n members take, as far as there are bytes
unfoldable pub extent : Plan → ℕ → List ℕ → ℕ
extent p zero bytes = 0
extent p (suc n) [] = 0
extent p (suc n) (u ∷ bytes) = suc (length (take (width p u) bytes)) + extent p n (drop (width p u) bytes)

-- write i of a group, found in its payload: past the payload's end there are zeros
pub record PartOf (p : Plan) (payload : List ℕ) (i : ℕ) (r : Part) : Type 0 where
  pub good : bad_write p payload i ≡ false
  pub unit : r.unit ≡ (write_at p payload i).unit
  pub from : r.from ≤ 256
  pub bytes : (j : ℕ) → j < width p r.unit → get_or (drop r.from payload) j 0 ≡ get_or (write_at p payload i).bytes j 0
  pub last : r.last ≡ is_last_write p payload i
  -- the record, four members, the zeros
  pub few : i < 6
