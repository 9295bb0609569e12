-- Ticket 9's edges as tables: rounding, where units lie, each number of 17 and 18 in its order, and whole images after torn pages, which
-- the power-cut theorem cannot see. They are computed in proofs/CasesOfPages.antt.
use Rattle.std.specs.Prelude.{ℕ, ◌≡◌, List, [], ◌∷◌, ◌++◌, map, replicate}
use Rattle.model.specs.declared.Plan.{Plan}
use Rattle.model.specs.declared.Role.TheVariants.{Service}
use Rattle.model.specs.declared.Direction.TheVariants.{AToB, BToA}
use Rattle.model.specs.declared.Inspection.TheVariants.{Suspect, AllOk}
use Rattle.model.specs.declared.Phase.{Phase}
use Rattle.model.specs.declared.Phase.TheVariants.{Cold, Ready, Writing, Recovering}
use Rattle.model.specs.Layout.{copy_a, copy_b, marker, byte, whole_pages, total, place}
use Rattle.model.specs.Calls.{Device, zero_payload}
use Rattle.model.specs.Calls as calls
use Rattle.model.specs.Cases.{paged}

-- ---- "rounded up to whole pages": page, width, bytes
pub record Rounding : Type 0 where
  pub page : ℕ
  pub width : ℕ
  pub bytes : ℕ

abbrev rounding : ℕ → ℕ → ℕ → Rounding
rounding page w n = record { page = page; width = w; bytes = n }

abbrev pub roundings : List Rounding
roundings =
    rounding 1 1 1 ∷ rounding 1 6 6 ∷ rounding 1 256 256
    ∷ rounding 4 1 4 ∷ rounding 4 4 4 ∷ rounding 4 5 8 ∷ rounding 4 256 256
    ∷ rounding 8 7 8 ∷ rounding 8 8 8 ∷ rounding 8 9 16 ∷ rounding 8 256 256
    ∷ rounding 16 1 16 ∷ rounding 16 16 16 ∷ rounding 16 17 32 ∷ rounding 16 255 256 ∷ rounding 16 256 256 ∷ []

abbrev pub EveryRounding : Type 0
EveryRounding = map (λ (r : Rounding). whole_pages r.page r.width) roundings ≡ map (λ (r : Rounding). r.bytes) roundings

-- ---- two units of 6 bytes and 1, at each size: where marker, first and last byte of A and of B lie, and where the units end
abbrev six_and_one : ℕ → Plan
six_and_one page = paged 2 (6 ∷ 1 ∷ replicate 6 0) page

abbrev places : ℕ → List ℕ
places page =
    let p : Plan = six_and_one page in
    place p 0 marker ∷ place p 0 (byte copy_a 0) ∷ place p 0 (byte copy_a 5) ∷ place p 0 (byte copy_b 0) ∷ place p 0 (byte copy_b 5)
    ∷ place p 1 marker ∷ place p 1 (byte copy_a 0) ∷ place p 1 (byte copy_b 0) ∷ total p ∷ []

abbrev pub EveryPlace : Type 0
EveryPlace =
    places 1 ∷ places 4 ∷ places 8 ∷ places 16 ∷ []
    ≡ (0 ∷ 1 ∷ 6 ∷ 7 ∷ 12 ∷ 13 ∷ 14 ∷ 15 ∷ 16 ∷ [])
    ∷ (0 ∷ 4 ∷ 9 ∷ 12 ∷ 17 ∷ 20 ∷ 24 ∷ 28 ∷ 32 ∷ [])
    ∷ (0 ∷ 8 ∷ 13 ∷ 16 ∷ 21 ∷ 24 ∷ 32 ∷ 40 ∷ 48 ∷ [])
    ∷ (0 ∷ 16 ∷ 21 ∷ 32 ∷ 37 ∷ 48 ∷ 64 ∷ 80 ∷ 96 ∷ [])
    ∷ []

-- ---- 17 and 18: start, and a cut, in a phase, over an image of so many bytes, with so many
pub record Asked : Type 0 where
  pub plan : Plan
  pub phase : Phase
  pub long : ℕ
  pub bytes : ℕ
  pub start : ℕ
  pub cut : ℕ

abbrev asked : Plan → Phase → ℕ → ℕ → ℕ → ℕ → Asked
asked p phase n bytes start cut = record { plan = p; phase = phase; long = n; bytes = bytes; start = start; cut = cut }

abbrev pub askings : List Asked
askings =
    -- another page size, before 3 and 4
    asked (six_and_one 0) (Writing 9 0) 0 0 17 17
    ∷ asked (six_and_one 2) (Writing 9 0) 0 2 17 17
    ∷ asked (six_and_one 3) Ready 64 3 17 17
    ∷ asked (six_and_one 17) Ready 64 16 17 17
    ∷ asked (six_and_one 32) Ready 256 32 17 17
    -- after 1 and 2
    ∷ asked (paged 9 (replicate 8 1) 2) Ready 64 2 1 1
    ∷ asked (paged 2 (6 ∷ 257 ∷ replicate 6 0) 2) Ready 64 2 2 2
    -- a page's bytes, and one less, one more and none
    ∷ asked (six_and_one 4) (Writing 0 0) 32 4 0 0
    ∷ asked (six_and_one 4) (Writing 0 0) 32 3 0 18
    ∷ asked (six_and_one 4) (Recovering 0 0 AToB) 32 5 0 18
    ∷ asked (six_and_one 4) Cold 32 1 0 18
    ∷ asked (six_and_one 1) Ready 16 0 0 18
    ∷ asked (six_and_one 1) Cold 16 1 0 0
    ∷ asked (six_and_one 16) Ready 96 16 0 0
    -- after 3 and 4
    ∷ asked (six_and_one 4) (Writing 9 0) 31 1 0 3
    ∷ asked (six_and_one 4) (Writing 2 0) 32 1 0 4
    ∷ []

abbrev on : Plan → Phase → List ℕ → Device
on p phase payload = record { plan = p; payload = payload; phase = phase; stores = 7 }

abbrev pub EveryAsking : Type 0
EveryAsking =
    map (λ (a : Asked). (calls.start a.plan).number) askings ≡ map (λ (a : Asked). a.start) askings
    × (map (λ (a : Asked). (calls.cut (on a.plan a.phase zero_payload) (replicate a.long 1) (replicate a.bytes 0)).number) askings
    ≡ map (λ (a : Asked). a.cut) askings)

-- ---- whole images, page size 4: unit 0's marker page and its copies of two pages each; unit 1 stands as `rest`
abbrev image : List ℕ → List ℕ → List ℕ → List ℕ → List ℕ → List ℕ
image mark a a' b b' = mark ++ a ++ a' ++ b ++ b' ++ (1 ∷ 60 ∷ 60 ∷ 60 ∷ 21 ∷ 61 ∷ 61 ∷ 61 ∷ 21 ∷ 62 ∷ 62 ∷ 62 ∷ [])

-- filler is 50 and above
abbrev mark_of : ℕ → List ℕ
mark_of m = m ∷ 50 ∷ 51 ∷ 52 ∷ []

abbrev ended : List ℕ
ended = 5 ∷ 6 ∷ 53 ∷ 54 ∷ []

abbrev one : List ℕ
one = 1 ∷ 2 ∷ 3 ∷ 4 ∷ []

abbrev given : List ℕ
given = 90 ∷ 91 ∷ 92 ∷ 93 ∷ []

abbrev payload6 : List ℕ
payload6 = 31 ∷ 32 ∷ 33 ∷ 34 ∷ 35 ∷ 36 ∷ replicate 250 0

abbrev tearing : Phase → List ℕ → List ℕ → List ℕ
tearing phase bytes before = (calls.cut (on (six_and_one 4) phase payload6) before bytes).image

abbrev pub EveryTear : Type 0
EveryTear =
    -- marker 2 over 1: the first byte by its bits, the page's filler as given
    tearing (Writing 0 0) (253 ∷ 91 ∷ 92 ∷ 93 ∷ []) (image (mark_of 1) one ended one ended)
    ∷ tearing (Writing 0 7) (4 ∷ 91 ∷ 92 ∷ 93 ∷ []) (image (mark_of 2) one ended one ended)
    -- byte 2 of A: the page's four bytes, also those that were stored before
    ∷ tearing (Writing 0 3) given (image (mark_of 2) (31 ∷ 32 ∷ 3 ∷ 4 ∷ []) ended one ended)
    -- byte 5 of A: its last page, with the filler
    ∷ tearing (Writing 0 6) given (image (mark_of 2) (31 ∷ 32 ∷ 33 ∷ 34 ∷ []) (35 ∷ 6 ∷ 53 ∷ 54 ∷ []) one ended)
    -- byte 0 of B, and byte 4 of A and of B in a repair
    ∷ tearing (Writing 0 8) given (image (mark_of 4) one ended one ended)
    ∷ tearing (Recovering 0 4 BToA) given (image (mark_of 2) one ended one ended)
    ∷ tearing (Recovering 0 4 AToB) given (image (mark_of 4) one ended one ended)
    -- unit 1's only byte
    ∷ tearing (Writing 1 1) given (image (mark_of 1) one ended one ended)
    -- in Ready nothing
    ∷ tearing Ready given (image (mark_of 1) one ended one ended)
    ∷ []
    ≡ image (0 ∷ 91 ∷ 92 ∷ 93 ∷ []) one ended one ended
    ∷ image (6 ∷ 91 ∷ 92 ∷ 93 ∷ []) one ended one ended
    ∷ image (mark_of 2) given ended one ended
    ∷ image (mark_of 2) (31 ∷ 32 ∷ 33 ∷ 34 ∷ []) given one ended
    ∷ image (mark_of 4) one ended given ended
    ∷ image (mark_of 2) one given one ended
    ∷ image (mark_of 4) one ended one given
    ∷ (mark_of 1 ++ one ++ ended ++ one ++ ended ++ (1 ∷ 60 ∷ 60 ∷ 60 ∷ 90 ∷ 91 ∷ 92 ∷ 93 ∷ 21 ∷ 62 ∷ 62 ∷ 62 ∷ []))
    ∷ image (mark_of 1) one ended one ended
    ∷ []

-- ---- format: every byte of the units, and none after them; steps store single bytes; read shows A without filler
abbrev pub EveryPaged : Type 0
EveryPaged =
    ((calls.format (on (six_and_one 4) Cold payload6) (replicate 33 7)).image
    ≡ (1 ∷ replicate 19 0) ++ (1 ∷ replicate 11 0) ++ (7 ∷ []))
    × ((calls.step (on (six_and_one 4) (Writing 0 13) payload6) (image (mark_of 4) one ended one ended)).image
    ≡ image (mark_of 4) one ended one (5 ∷ 36 ∷ 53 ∷ 54 ∷ []))
    × (calls.read (on (six_and_one 4) Ready payload6) (image (mark_of 1) one ended given ended) Service 0 ≡ 1 ∷ 2 ∷ 3 ∷ 4 ∷ 5 ∷ 6 ∷ [])
    × (calls.inspect (on (six_and_one 4) Cold payload6) (image (mark_of 1) one ended one ended) ≡ AllOk)
    × (calls.inspect (on (six_and_one 4) Cold payload6) (image (mark_of 3) one ended one ended) ≡ Suspect 0)
