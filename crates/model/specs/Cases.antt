-- Document 01, 'Cases at the edges', as one table. proofs/WorkedCases.antt has the theorem that the definitions give every row.
use Rattle.std.specs.Prelude.{ℕ, zero, suc, ◌≡◌, false, List, [], ◌∷◌, ◌++◌, map, length, take, replicate}
use Rattle.model.specs.declared.Plan.{Plan}
use Rattle.model.specs.declared.Role.TheVariants.{Service}
use Rattle.model.specs.Rights.{service_rights}
use Rattle.model.specs.Layout.{total}
use Rattle.model.specs.Calls.{Outcome}
use Rattle.model.specs.Calls as calls
use Rattle.model.specs.Ledger.{Call, begin, step, cut, wake, opening, tells, after}
use Rattle.model.specs.PowerCut.{run, answers}
use Rattle.model.specs.Drive.{drive_number, drive}

pub data Question : Type 0 where
  -- a bench script: the widths of its plan, and the calls after it
  script : List ℕ → List Call → Question
  -- a level and a rate
  driven : ℕ → ℕ → Question

pub data Result : Type 0 where
  -- the plan is refused
  refused : ℕ → Result
  -- each call's number, which the ledger tells too, the image at the end, and the ledger's saved bytes of unit 0
  ends : List ℕ → List ℕ → List ℕ → List ℕ → Result
  -- number and drive
  drives : ℕ → ℕ → Result

abbrev pub paged : ℕ → List ℕ → ℕ → Plan
paged count widths page = record { count = count; widths = widths; page = page; grouped = false; rights = service_rights }

abbrev pub planned : ℕ → List ℕ → Plan
planned count widths = paged count widths 1

-- "format over an image of exactly the units' length"; what stood there before is no matter
abbrev plan_of : List ℕ → Plan
plan_of widths = planned (length widths) (take 8 (widths ++ replicate 8 0))

abbrev formatted_by : Plan → Outcome
formatted_by p = calls.format (calls.start p).device (replicate (total p) 7)

abbrev played : ℕ → Plan → List Call → Result
played zero p cs =
    ends
    (answers cs (formatted_by p))
    (tells p (opening p) cs)
    (run cs (formatted_by p)).image
    ((after p (opening p) cs).saved 0)
played (suc n) p cs = refused (suc n)

abbrev pub result_of : Question → Result
result_of (script widths cs) = played (calls.start (plan_of widths)).number (plan_of widths) cs
result_of (driven l r) = drives (drive_number l r) (drive l r)

pub record Case : Type 0 where
  pub question : Question
  pub result : Result

abbrev case : Question → Result → Case
case q r = record { question = q; result = r }

-- "`(cut HH)` is a cut of one byte"
abbrev pub cut_one : ℕ → Call
cut_one m = cut (m ∷ [])

-- `(write 0 (0a 0b))`, n steps and a cut, on the plan `(2 1)`; and the same with more calls after it
abbrev saved : ℕ → ℕ → List Call → Question
saved n m more = script (2 ∷ 1 ∷ []) (begin Service 0 (10 ∷ 11 ∷ []) ∷ replicate n step ++ (cut_one m ∷ more))

-- all of n calls are accepted, and unit 1 is left alone
abbrev leaves : ℕ → List ℕ → List ℕ → Result
leaves n unit0 saved0 = ends (replicate n 0) (replicate n 0) (unit0 ++ (1 ∷ 0 ∷ 0 ∷ [])) saved0

abbrev repaired : List Call
repaired = wake ∷ step ∷ step ∷ step ∷ []

abbrev pub table : List Case
table =
    -- C1: the whole case of 'Bench program', at its two shows; it ends old
    case (saved 3 0 []) (leaves 5 (2 ∷ 10 ∷ 11 ∷ 0 ∷ 0 ∷ []) (0 ∷ 0 ∷ []))
    ∷ case (saved 3 0 repaired) (leaves 9 (1 ∷ 0 ∷ 0 ∷ 0 ∷ 0 ∷ []) (0 ∷ 0 ∷ []))
    -- C2: with (cut 02) the marker is 0 and it ends 0a 0b
    ∷ case (saved 3 2 []) (leaves 5 (0 ∷ 10 ∷ 11 ∷ 0 ∷ 0 ∷ []) (10 ∷ 11 ∷ []))
    ∷ case (saved 3 2 repaired) (leaves 9 (1 ∷ 10 ∷ 11 ∷ 10 ∷ 11 ∷ []) (10 ∷ 11 ∷ []))
    -- C3: with (step 4) before the cut, 0a 0b
    ∷ case (saved 4 0 repaired) (leaves 10 (1 ∷ 10 ∷ 11 ∷ 10 ∷ 11 ∷ []) (10 ∷ 11 ∷ []))
    -- C4: cut ff at store 1: marker 2, old
    ∷ case (saved 0 255 []) (leaves 2 (2 ∷ 0 ∷ 0 ∷ 0 ∷ 0 ∷ []) (0 ∷ 0 ∷ []))
    ∷ case (saved 0 255 repaired) (leaves 6 (1 ∷ 0 ∷ 0 ∷ 0 ∷ 0 ∷ []) (0 ∷ 0 ∷ []))
    -- C5: recovering from marker 6, cut 02 at the last store: 6 becomes 4, copies equal
    ∷ case (saved 3 4 []) (leaves 5 (6 ∷ 10 ∷ 11 ∷ 0 ∷ 0 ∷ []) (10 ∷ 11 ∷ []))
    ∷ case (saved 3 4 (wake ∷ step ∷ step ∷ cut_one 2 ∷ [])) (leaves 9 (4 ∷ 10 ∷ 11 ∷ 10 ∷ 11 ∷ []) (10 ∷ 11 ∷ []))
    -- C6: a ninth script width gives `plan 1`
    ∷ case (script (replicate 9 1) []) (refused 1)
    -- C7: width 256 passes, 257 is 2
    ∷ case (script (256 ∷ []) []) (ends [] [] (1 ∷ replicate 512 0) (replicate 256 0))
    ∷ case (script (257 ∷ []) []) (refused 2)
    -- C8 to C11: drive(20, 255) = 3930, drive(1, 0) = 260, drive(1, 8) = 261, drive(21, 256) is 9
    ∷ case (driven 20 255) (drives 0 3930)
    ∷ case (driven 1 0) (drives 0 260)
    ∷ case (driven 1 8) (drives 0 261)
    ∷ case (driven 21 256) (drives 9 0)
    -- C12: write with `()` to width 1 is 7
    ∷ case (script (1 ∷ []) (begin Service 0 [] ∷ [])) (ends (7 ∷ []) (7 ∷ []) (1 ∷ 0 ∷ 0 ∷ []) (0 ∷ []))
    ∷ []

abbrev pub EveryCase : Type 0
EveryCase = map (λ (c : Case). result_of c.question) table ≡ map (λ (c : Case). c.result) table
