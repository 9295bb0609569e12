-- Rides: bytes as numbers, and what a ride's 0 says.
use Prim.Native.Nat.{ℕ, zero, suc, ◌+◌, ◌*◌, ◌/◌, ◌<◌}
use mathlib.Core.Path.{◌≡◌, refl, ap, sym, ◌∙◌}
use mathlib.Core.List.{List, [], ◌∷◌, ◌++◌}
use mathlib.Core.Bool.{false, not}
use native.Mathlib.Omega.{arith}
use native.Mathlib.Nat.{div-add-mod', div-lt_iff_lt-mul}
use lib.Dec.{eqb, ltb}
use lib.ListN.{length, get_or, take, drop, replicate}
use lib.Seq.{get_or-drop}
use borrow.Author.Tests.{ltb-false, eqb-true, not-false}
use Rattle.model.specs.declared.Plan.{Plan}
use Rattle.model.specs.Marker.{OK}
use Rattle.model.specs.Layout.{copy_a, byte, place, copy_of}
use Rattle.model.specs.Demands.{lowest_first, held}
use Rattle.model.specs.Plans.{width}
use Rattle.model.specs.Turns.{amount, in_bytes, plus}
use Rattle.model.specs.Groups.{is_record}
use Rattle.model.specs.Refusals.{ready, is_ready, View, device_row, ride_number, ◌when◌}
use Rattle.model.proofs.RefusalLaws.{PlanOk, count_bounds, ready_only, past, first_past, first_from, Alike, Began}

pub bytes_size : (n v : ℕ) → length (in_bytes n v) ≡ n
unfolding in_bytes
bytes_size zero v = refl
bytes_size (suc n) v = ap suc (bytes_size n (v / 256))

pub plus_size : (bytes : List ℕ) (more : ℕ) → length (plus bytes more) ≡ 8
unfolding plus
plus_size bytes more = bytes_size 8 (amount bytes + more)

bytes_small : (n v i : ℕ) → get_or (in_bytes n v) i 0 < 256
unfolding in_bytes
bytes_small zero v i = omega arith
bytes_small (suc n) v zero = omega arith
bytes_small (suc n) v (suc i) = bytes_small n (v / 256) i

pub plus_small : (bytes : List ℕ) (more i : ℕ) → get_or (plus bytes more) i 0 < 256
unfolding plus
plus_small bytes more i = bytes_small 8 (amount bytes + more) i

abbrev pub power : ℕ → ℕ
power zero = 1
power (suc n) = power n * 256

-- n bytes hold what is below 256 to the n
pub bytes_amount : (n v : ℕ) → v < power n → amount (in_bytes n v) ≡ v
unfolding amount in_bytes
bytes_amount zero v h = omega arith
bytes_amount (suc n) v h =
    let q : v / 256 < power n = (div-lt_iff_lt-mul {k = 256} {x = v} {y = power n} (omega arith)).1 h in
    omega (arith, div-add-mod' v 256, bytes_amount n (v / 256) q)

pub plus_amount : (bytes : List ℕ) (more : ℕ) → ltb 18446744073709551615 (amount bytes + more) ≡ false
    → amount (plus bytes more) ≡ amount bytes + more
unfolding plus
plus_amount bytes more h =
    let l = ltb-false 18446744073709551615 (amount bytes + more) h in
    bytes_amount 8 (amount bytes + more) (omega arith)

pub zeros_amount : (n : ℕ) → amount (replicate n 0) ≡ 0
unfolding amount
zeros_amount zero = refl
zeros_amount (suc n) = omega (arith, zeros_amount n)

-- ---- the same said place by place
first_same : (n : ℕ) (f g : ℕ → ℕ) → ((i : ℕ) → i < n → f i ≡ g i) → lowest_first n f ≡ lowest_first n g
unfolding lowest_first
first_same zero f g h = refl
first_same (suc n) f g h =
    omega (arith, h 0 (omega arith), first_same n (λ i. f (suc i)) (λ i. g (suc i)) (λ i l. h (suc i) (omega arith)))

first_zeros : (n : ℕ) → lowest_first n (λ i. 0) ≡ 0
unfolding lowest_first
first_zeros zero = refl
first_zeros (suc n) = omega (arith, first_zeros n)

pub amount_first : (n : ℕ) (xs : List ℕ) → amount (take n xs) ≡ lowest_first n (λ i. get_or xs i 0)
unfolding amount lowest_first
amount_first zero xs = refl
amount_first (suc n) [] = omega (arith, first_zeros n)
amount_first (suc n) (x ∷ xs) = omega (arith, amount_first n xs)

pub held_amount : (p : Plan) (image : List ℕ) (u : ℕ) → amount (copy_of p image u copy_a) ≡ held p image u
unfolding copy_of
held_amount p image u =
    amount_first (width p u) (drop (place p u (byte copy_a 0)) image)
    ∙ first_same (width p u) _ _
    (λ i h. get_or-drop (place p u (byte copy_a 0)) image i 0
    ∙ ap (λ (q : ℕ). get_or image q 0) (omega arith))

-- ---- an accepted ride is an accepted begin of unit 0
pub record Rode (v : View) (bytes : List ℕ) (turns : ℕ) : Type 0 where
  pub plan : PlanOk v.plan
  pub long : v.short ≡ false
  pub job : v.job ≡ ready
  pub wide : width v.plan 0 ≡ 8
  pub other : is_record v.plan 0 ≡ false
  pub mark : not (eqb (v.marker 0) OK) ≡ false
  pub room : ltb 18446744073709551615 (amount bytes + turns) ≡ false

pub ride_says : (v : View) (bytes : List ℕ) (turns : ℕ) → ride_number v bytes turns ≡ 0 → Rode v bytes turns
unfolding ride_number
ride_says v bytes turns e =
    let h = past v _ e in
    let h₅ = first_past 4 (not (is_ready v.job)) _ h.more in
    let h₁₆ = first_past 15 (not (eqb (width v.plan 0) 8)) _ h₅.1 in
    let h₂₀ = first_past 19 (is_record v.plan 0) _ h₁₆.1 in
    let h₈ = first_past 7 (not (eqb (v.marker 0) OK)) _ h₂₀.1 in
    let h₁₅ = first_past 14 (ltb 18446744073709551615 (amount bytes + turns)) [] h₈.1 in
    record {
      plan = h.plan;
      long = h.long;
      job = ready_only v.job h₅.0;
      wide = eqb-true _ 8 (not-false _ h₁₆.0);
      other = h₂₀.0;
      mark = h₈.0;
      room = h₁₅.0;
    }

-- a ride is a begin of unit 0, for which no right is asked
pub ride_began : (v : View) (bytes : List ℕ) (turns : ℕ) → ride_number v bytes turns ≡ 0 → Began v 0 (length (plus bytes turns))
ride_began v bytes turns e =
    let r = ride_says v bytes turns e in
    record {
      job = r.job;
      unit = (count_bounds v.plan r.plan).0;
      other = r.other;
      size = plus_size bytes turns ∙ sym r.wide;
    }

-- two views judge alike: unit 0's marker and bytes are looked at after 5 only
pub ride_alike : {v v' : View} → Alike v v' → {bytes bytes' : List ℕ} (turns : ℕ)
    → (PlanOk v'.plan → v'.short ≡ false → v'.job ≡ ready → bytes ≡ bytes')
    → ride_number v bytes turns ≡ ride_number v' bytes' turns
unfolding ride_number
ride_alike {v} {v'} a {bytes} {bytes'} turns h =
    rw (a.bad, a.plan, a.short, a.job)
    (first_from (device_row v' ++ (5 when not (is_ready v'.job) ∷ [])) _ _
    (λ e.
    let t = past v' _ e in
    rw (
      a.marker 0 (count_bounds v'.plan t.plan).0,
      h t.plan t.long (ready_only v'.job (first_past 4 (not (is_ready v'.job)) [] t.more).0),
    )))
