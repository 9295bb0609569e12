-- THE POWER-CUT THEOREM FOR A CONSOLE THAT LOSES ITS RAM. It is proved in proofs/Restart.antt.
--
-- The device record stands in RAM, and a real power cut takes it. Once power is back, the firmware starts another device from its plan
-- and wakes that one. The theorem of specs/PowerCut.antt goes on with the device that `cut` hands back, as a test rig can. Here each
-- accepted cut of the list, the closing one too, may be followed by a start: it makes no difference to any answer, nor to what the
-- wake and its steps bring back. A refused cut is none: the power is still there.
--
-- The count of stores is what is lost: start sets it to 0, where `cut` keeps it. Whoever wants the chip's total over power cuts has to
-- keep it outside of the record.
use Rattle.std.specs.Prelude.{ℕ, ◌≡◌, List, [], ◌∷◌}
use Rattle.model.specs.declared.Plan.{Plan}
use Rattle.model.specs.Calls.{Device, Outcome, outcome}
use Rattle.model.specs.Calls as calls
use Rattle.model.specs.Ledger.{Call, cut, opening, after}
use Rattle.model.specs.PowerCut.{call, run, closed_by, Closes, Repaired}

-- the device is gone, and start makes another; the image stays, and the number of the call
abbrev pub restarted : Plan → Outcome → Outcome
restarted p o = outcome o.number (calls.start p).device o.image

-- A list of calls leads from the first outcome to the second; a start with plan p may follow each accepted cut.
pub data Leads (p : Plan) : List Call → Outcome → Outcome → Type 0 where
  ended : {o : Outcome} → Leads p [] o o
  called : {c : Call} {cs : List Call} {o end : Outcome} → Leads p cs (call c o) end → Leads p (c ∷ cs) o end
  lost : {bytes : List ℕ} {cs : List Call} {o end : Outcome} → (call (cut bytes) o).number ≡ 0
      → Leads p cs (restarted p (call (cut bytes) o)) end → Leads p (cut bytes ∷ cs) o end

-- The theorem: whichever of its cuts were followed by a start, the list is repaired as specs/PowerCut.antt says.
abbrev pub PowerCutRestarting : Type 0
PowerCutRestarting =
    (d : Device) (image : List ℕ)
    → (calls.format d image).number ≡ 0
    → (cs : List Call) (bytes : List ℕ) (end : Outcome)
    → Closes bytes cs (calls.format d image)
    → Leads d.plan (closed_by bytes cs) (calls.format d image) end
    → Repaired d.plan image (after d.plan (opening d.plan) (closed_by bytes cs)).saved end

-- an outcome without its count of stores
abbrev pub uncounted : Outcome → Outcome
uncounted o =
    outcome o.number
    (record { plan = o.device.plan; payload = o.device.payload; phase = o.device.phase; stores = 0 })
    o.image

-- And after every call of a list, number, device and image are those that the list comes to without any start, but for the count.
abbrev pub RestartingAlike : Type 0
RestartingAlike =
    (d : Device) (image : List ℕ)
    → (calls.format d image).number ≡ 0
    → (cs : List Call) (end : Outcome)
    → Leads d.plan cs (calls.format d image) end
    → uncounted end ≡ uncounted (run cs (calls.format d image))
