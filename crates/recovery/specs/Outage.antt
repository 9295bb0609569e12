-- THE POWER-CUT THEOREM AS A PROMISE OF THE CODE: what `outage` leaves, in the words of the ledger, the layout and the encoding alone.
-- No definition of a call is named here or in what is named here, so a mistake made alike in a call and in its definition can't pass.
use Rattle.std.specs.Prelude.{ℕ, ◌+◌, ◌≤◌, ◌<◌, ◌≡◌, List, [], ◌∷◌, ◌++◌, map, true, cond, eqb, length, drop, replicate}
use Rattle.model.specs.declared.Plan.{Plan}
use Rattle.model.specs.declared.Phase.TheVariants.{Ready}
use Rattle.model.specs.Marker.{OK}
use Rattle.model.specs.Plans.{PageSize}
use Rattle.model.specs.Layout.{Copy, copy_a, marker, width, total, get, copy_of}
use Rattle.model.specs.Groups.{last}
use Rattle.model.specs.Turns.{amount}
use Rattle.model.specs.Ledger.{Ledger, Call, cut, opening, after}
use Rattle.model.specs.PowerCut.{added}
use Rattle.model.specs.Prices.{price}
use Rattle.model.specs.Totals.{turns_over, sum, OnlyRides}
use Rattle.model.specs.Paid.{OnlyPaid, rides_over}
use Rattle.store.specs.declared.Answer.{Answer}
use Rattle.recovery.specs.Encoding.{calls_of}

-- "A plan has a count k, 1 to 8 .. A width w is 1 to 256 bytes. .. The image is .. at least as long as all units together."; Ticket 9:
-- "A plan gains a page size p: 1, 4, 8 or 16."
pub record Fits (p : Plan) (image : List ℕ) : Type 0 where
  pub count : (1 ≤ p.count) × (p.count ≤ 8)
  pub widths : (u : ℕ) → u < p.count → (1 ≤ width p u) × (width p u ≤ 256)
  pub page : PageSize p.page
  pub long : total p ≤ length image

-- the calls, and the cut that closes them
abbrev pub closed : List ℕ → List ℕ → List Call
closed calls page = calls_of calls ++ (cut page ∷ [])

-- the steps that the repair takes: none if the marker of the unit last written is OK, else 1 plus the width of that unit; and those of
-- the record that was written last, if it stands
abbrev pub repair_steps : Plan → Ledger → ℕ
repair_steps p l = cond (eqb l.marker OK) 0 (1 + width p l.unit) + added p (l.written (last p))

-- `cs` are the calls with their cut, r is the answer, `left` the image, and `before` the image before format.
pub record Restored (p : Plan) (before : List ℕ) (cs : List Call) (r : Answer) (left : List ℕ) : Type 0 where
  -- the last step that was tried is refused with 5, since the device is Ready
  pub number : r.number ≡ 5
  pub phase : r.device.phase ≡ Ready
  -- the start after the cut set the count to 0, so it is the number of steps
  pub steps : r.device.stores ≡ repair_steps p (after p (opening p) cs)
  -- every marker is OK, and both copies of every unit are its saved bytes
  pub markers : (u : ℕ) → u < p.count → get p left u marker ≡ OK
  pub copies : (u : ℕ) → u < p.count → (c : Copy) → copy_of p left u c ≡ (after p (opening p) cs).saved u
  -- the group record is zeros
  pub cleared : p.grouped ≡ true → (c : Copy) → copy_of p left (last p) c ≡ replicate (width p (last p)) 0
  -- where unit 0 is written by rides alone, it holds the turns of those that passed
  pub turns : OnlyRides p 0 cs → amount (copy_of p left 0 copy_a) ≡ turns_over p cs
  -- where units 0 and 1 are written by paid rides alone, unit 1 holds the prices of the same rides
  pub cents : OnlyPaid p cs → 1 < p.count → amount (copy_of p left 1 copy_a) ≡ sum (map price (rides_over p cs))
  -- the bytes after the units, and the image's length, are as they were
  pub rest : drop (total p) left ≡ drop (total p) before
  pub size : length left ≡ length before
