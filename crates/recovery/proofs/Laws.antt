-- A list of calls as the code reads it, call by call, and as it plays it.
use Prim.Native.Nat.{ℕ, zero, suc, ◌+◌, ◌-◌, ◌≤◌, ◌<◌}
use mathlib.Core.Path.{◌≡◌, refl, ap, ap₂, sym, ◌∙◌}
use mathlib.Core.List.{List, [], ◌∷◌}
use native.Mathlib.Omega.{arith}
use lib.ListN.{length, get_or, take, drop, length-drop}
use lib.Seq.{drop-cons, drop-drop, get_or-drop}
use Rattle.std.proofs.lemmas.List.{get_or-take}
use borrow.Author.Tests.{le-leb, lt-leb}
use Rattle.model.specs.Calls.{Device, Outcome, outcome}
use Rattle.model.specs.Ledger.{Call, begin, ride, group, paid, step, cut, wake}
use Rattle.model.specs.PowerCut.{call, run}
use Rattle.store.specs.declared.Answer.{Answer}
use Rattle.store.specs.Modelled.{modelled, Gives}
use Rattle.recovery.specs.Encoding.{two, call_of, unit_in, size_in, calls_from, calls_of}

-- ---- playing
pub same_call : (c : Call) (n : ℕ) (d : Device) (image : List ℕ) → call c (outcome n d image) ≡ call c (outcome 0 d image)
unfolding call
same_call (begin role u payload) n d image = refl
same_call (ride turns) n d image = refl
same_call (group g) n d image = refl
same_call (paid turns) n d image = refl
same_call step n d image = refl
same_call (cut bytes) n d image = refl
same_call wake n d image = refl

-- an answer and the image with it, as the outcome that they are
pub gave : {r : Answer} {left : List ℕ} {o : Outcome} → Gives r left o → outcome r.number (modelled r.device) left ≡ o
gave g = λ i. record { number = g.number i; device = g.device i; image = g.image i }

pub goes_on : (c : Call) (cs : List Call) (n : ℕ) (d : Device) (image : List ℕ) (r : Answer) (left : List ℕ)
    → Gives r left (call c (outcome 0 d image))
    → run cs (outcome r.number (modelled r.device) left) ≡ run (c ∷ cs) (outcome n d image)
unfolding run
goes_on c cs n d image r left g =
    ap (run cs) (gave g ∙ sym (same_call c n d image))

pub gives_as : {r : Answer} {left : List ℕ} {o o' : Outcome} → o ≡ o' → Gives r left o → Gives r left o'
gives_as e g = rw e at g

pub ends : (r : Answer) (left : List ℕ) (cs : List Call) (o : Outcome) → cs ≡ []
    → run cs (outcome r.number (modelled r.device) left) ≡ o → Gives r left o
unfolding run
ends r left cs o e h = gives_as (rw e at h) (record { number = refl; device = refl; image = refl })

-- ---- reading
pub skip : (at : ℕ) (bytes : List ℕ) → calls_from at bytes ≡ calls_from 0 (drop at bytes)
unfolding calls_from
skip zero bytes = refl
skip (suc at) [] = refl
skip (suc at) (x ∷ rest) = skip at rest

short : (kind : ℕ) (rest : List ℕ) → length rest < 4 + size_in rest → calls_from 0 (kind ∷ rest) ≡ []
unfolding calls_from
short kind rest h = rw (lt-leb (4 + size_in rest) (length rest) h)

pub whole : (kind : ℕ) (rest : List ℕ) → 4 + size_in rest ≤ length rest
    → calls_from 0 (kind ∷ rest)
    ≡ call_of kind (unit_in rest) (take (size_in rest) (drop 4 rest)) ∷ calls_from (4 + size_in rest) rest
unfolding calls_from
whole kind rest h = rw (le-leb (4 + size_in rest) (length rest) h)

five : (bytes : List ℕ) → 5 ≤ length bytes
    → bytes ≡ get_or bytes 0 0 ∷ get_or bytes 1 0 ∷ get_or bytes 2 0 ∷ get_or bytes 3 0 ∷ get_or bytes 4 0 ∷ drop 5 bytes
five bytes h =
    let at : (i : ℕ) → i < 5 → drop i bytes ≡ get_or bytes i 0 ∷ drop (suc i) bytes = λ i l. drop-cons bytes i 0 (omega arith) in
    rw (← at 4 (omega arith), ← at 3 (omega arith), ← at 2 (omega arith), ← at 1 (omega arith)) (at 0 (omega arith))

-- fewer than five bytes are left
pub ended : (bytes : List ℕ) → length bytes < 5 → calls_of bytes ≡ []
unfolding calls_from
ended [] h = refl
ended (kind ∷ rest) h = short kind rest (omega arith)

past_four : (n a b c d : ℕ) (rest : List ℕ) → calls_from (4 + n) (a ∷ b ∷ c ∷ d ∷ rest) ≡ calls_of (drop n rest)
past_four n a b c d rest =
    let more : 4 + n ≡ suc (suc (suc (suc n))) = omega arith in
    rw more (skip (suc (suc (suc (suc n)))) (a ∷ b ∷ c ∷ d ∷ rest))

-- the first five bytes, those after them, and the size that the code reads
module _ (bytes head rest : List ℕ) (h : head ≡ take 5 bytes) (r : rest ≡ drop 5 bytes) (long : 5 ≤ length bytes)
    (size : ℕ) (s : size ≡ two (get_or head 3 0) (get_or head 4 0)) where
  said : (i : ℕ) → i < 5 → get_or head i 0 ≡ get_or bytes i 0
  said i l = ap (λ (xs : List ℕ). get_or xs i 0) h ∙ get_or-take 5 bytes i 0 l

  sized : two (get_or bytes 3 0) (get_or bytes 4 0) ≡ size
  sized = sym (s ∙ ap₂ two (said 3 (omega arith)) (said 4 (omega arith)))

  -- fewer bytes than the call has of its own
  pub stopped : length rest < size → calls_of bytes ≡ []
  stopped l = ap calls_of (five bytes long) ∙ short _ _ (omega (arith, sized, ap length r))

  -- the first call, and the others
  pub next : (unit : ℕ) → unit ≡ two (get_or head 1 0) (get_or head 2 0) → (own left : List ℕ) → size ≤ length rest
      → own ≡ take size rest → left ≡ drop size rest
      → calls_of bytes ≡ call_of (get_or head 0 0) unit own ∷ calls_of left
  next unit u own left l o e =
      ap calls_of (five bytes long) ∙ whole _ _ (omega (arith, sized, ap length r))
      ∙ rw (
        sized,
        past_four,
        o,
        e,
        r,
        u,
        said 0 (omega arith),
        said 1 (omega arith),
        said 2 (omega arith),
      )

-- the same at a place of the bytes, and a turn of a walk that stands there
module _ (bytes : List ℕ) (at unit size : ℕ) (eu : unit ≡ two (get_or bytes (at + 1) 0) (get_or bytes (at + 1 + 1) 0))
    (es : size ≡ two (get_or bytes (at + 3) 0) (get_or bytes (at + 3 + 1) 0)) where
  there : (i k : ℕ) → i < 5 → at + i ≡ k → get_or (take 5 (drop at bytes)) i 0 ≡ get_or bytes k 0
  there i k l e = get_or-take 5 (drop at bytes) i 0 l ∙ get_or-drop at bytes i 0 ∙ ap (λ (j : ℕ). get_or bytes j 0) e

  next_at : at + 5 + size ≤ length bytes
      → calls_from at bytes ≡ call_of (get_or bytes at 0) unit (take size (drop (at + 5) bytes)) ∷ calls_from (at + 5 + size) bytes
  next_at l =
      let own : List ℕ = take size (drop (at + 5) bytes) in
      let past : drop 5 (drop at bytes) ≡ drop (at + 5) bytes = drop-drop 5 at bytes in
      skip at bytes
      ∙ next (drop at bytes) (take 5 (drop at bytes)) (drop 5 (drop at bytes)) refl refl (omega (arith, length-drop at bytes))
      size (es ∙ sym (ap₂ two (there 3 (at + 3) (omega arith) refl) (there 4 (at + 3 + 1) (omega arith) (omega arith))))
      unit (eu ∙ sym (ap₂ two (there 1 (at + 1) (omega arith) refl) (there 2 (at + 1 + 1) (omega arith) (omega arith))))
      own (drop size (drop (at + 5) bytes)) (omega (arith, length-drop at bytes, length-drop 5 (drop at bytes)))
      (sym (ap (take size) past)) (sym (ap (drop size) past))
      ∙ ap₂ (λ (kind : ℕ) (cs : List Call). call_of kind unit own ∷ cs) (there 0 at (omega arith) (omega arith))
      (ap calls_of (drop-drop size (at + 5) bytes) ∙ sym (skip (at + 5 + size) bytes))

  pub turn : at + 5 + size ≤ length bytes → (n : ℕ) (d : Device) (image : List ℕ) (r : Answer) (left : List ℕ)
      → Gives r left (call (call_of (get_or bytes at 0) unit (take (at + 5 + size - (at + 5)) (drop (at + 5) bytes))) (outcome 0 d image))
      → run (calls_from (at + 5 + size) bytes) (outcome r.number (modelled r.device) left)
      ≡ run (calls_from at bytes) (outcome n d image)
  turn l n d image r left g =
      let z : at + 5 + size - (at + 5) ≡ size = omega arith in
      goes_on _ _ n d image r left (rw z at g) ∙ ap (λ (cs : List Call). run cs (outcome n d image)) (sym (next_at l))
