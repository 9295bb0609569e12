-- Paid rides: the price, and that an accepted paid ride is an accepted group of units 0 and 1.
use Prim.Native.Nat.{ℕ, zero, suc, ◌+◌, ◌-◌, ◌*◌, ◌/◌, ◌≤◌, ◌<◌, min}
use mathlib.Core.Path.{◌≡◌, refl, ap, sym, ◌∙◌}
use mathlib.Core.List.{List, [], ◌∷◌, ◌++◌}
use mathlib.Core.Bool.{Bool, true, false, not, ◌||◌, ◌&&◌, false≢true}
use native.Mathlib.Omega.{arith}
use native.Mathlib.Nat.{div-add-mod'}
use lib.Dec.{eqb, ltb, leb}
use lib.ListN.{length}
use borrow.Author.Tests.{leb-false, ltb-false, eqb-true, eqb-false, eq-eqb, ne_eqb, lt-leb, lt-ltb, le-ltb, not-false}
use Rattle.model.specs.declared.Plan.{Plan}
use Rattle.model.specs.Plans.{width}
use Rattle.model.specs.Turns.{amount, in_bytes, plus}
use Rattle.model.specs.Groups.{Write, write, last, is_record, split, splits, member_count, members, unsplit, among, twice, overlaps, narrow}
use Rattle.model.specs.Prices.{price, paid_group}
use Rattle.model.specs.Marker.{OK}
use Rattle.model.specs.Refusals.{ready, is_ready, View, bad_job, device_row, no_till, paid_number, ◌when◌}
use Rattle.model.specs.Paid.{Priced, Prices, Sells}
use Rattle.model.proofs.RefusalLaws.{PlanOk, ready_only, past, device_past, first_past, first_skip, first_none, first_from, or_false, false_or, Alike}
use Rattle.model.proofs.GroupLaws.{Grouped, last_lt}

-- ---- the price
some_price : (n : ℕ) → price (suc n) ≡ min 900 (25 + 7 * (n / 500 + 1))
unfolding price
some_price n =
    let e : suc n - 1 ≡ n = omega arith in
    rw (ne_eqb (suc n) 0 (λ z. absurd (omega arith)), e)

pub prices : Prices
unfolding price
prices =
    record {
      none = refl;
      some = λ turns h. of turns h;
      rises = rises;
      most = most;
    }
  where
    of : (turns : ℕ) → 0 < turns → Priced turns
    of zero h = absurd (omega arith)
    of (suc n) h =
        record {
          started = n / 500 + 1;
          holds = omega (arith, div-add-mod' n 500);
          fewest = omega (arith, div-add-mod' n 500);
          is = some_price n;
        }

    rises : (turns more : ℕ) → turns ≤ more → price turns ≤ price more
    rises zero more h = omega arith
    rises (suc n) zero h = absurd (omega arith)
    rises (suc n) (suc m) h = omega (arith, some_price n, some_price m, div-add-mod' n 500, div-add-mod' m 500)

    most : (turns : ℕ) → price turns ≤ 900
    most zero = omega arith
    most (suc n) = omega (arith, some_price n)

-- ---- the group of a paid ride
module _ (p : Plan) (two : 1 < p.count) (w₀ : width p 0 ≡ 8) (w₁ : width p 1 ≡ 8) (turnsHeld centsHeld : List ℕ) (turns : ℕ) where
  abbrev g : List ℕ
  g = paid_group turnsHeld centsHeld turns

  -- unit 0 with its total and the turns, unit 1 with its cents and the price
  abbrev both : List Write
  both = write 0 (plus turnsHeld turns) ∷ write 1 (plus centsHeld (price turns)) ∷ []

  paid_splits : splits p 2 g ≡ true
  unfolding splits paid_group plus in_bytes
  paid_splits = rw (lt-ltb 0 p.count (omega arith), w₀, lt-ltb 1 p.count two, w₁)

  pub paid_count : member_count p g ≡ 2
  unfolding member_count
  paid_count = rw paid_splits

  pub paid_members : members p g ≡ both
  unfolding members split paid_group plus in_bytes
  paid_members = rw (paid_count, w₀, w₁)

  pub paid_parts : unsplit p g ≡ false
  unfolding unsplit
  paid_parts = rw paid_count

  pub paid_apart : is_record p 1 ≡ false → overlaps p g ≡ false
  unfolding overlaps twice among
  paid_apart h = rw (paid_members, ne_eqb (last p) 0 (λ z. absurd (omega arith))) (go p.grouped h)
    where
      go : (t : Bool) → t && eqb 1 (last p) ≡ false → t && (eqb (last p) 1 || false) ≡ false
      go true e = rw (ne_eqb (last p) 1 (λ z. eqb-false 1 (last p) e (sym z)))
      go false e = refl

  paid_size : length g ≡ 18
  unfolding paid_group plus in_bytes
  paid_size = refl

  pub paid_wide : (not p.grouped || ltb (width p (last p)) 19) ≡ false → narrow p g ≡ false
  unfolding narrow
  paid_wide h = rw paid_size h

-- ---- what a paid ride's 0 says
abbrev pub too_many : List ℕ → ℕ → Bool
too_many bytes more = ltb 18446744073709551615 (amount bytes + more)

pub record Fare (v : View) (turnsHeld centsHeld : List ℕ) (turns : ℕ) : Type 0 where
  pub plan : PlanOk v.plan
  pub long : v.short ≡ false
  pub two : 1 < v.plan.count
  pub wide₀ : width v.plan 0 ≡ 8
  pub wide₁ : width v.plan 1 ≡ 8
  pub other : ¬ (1 ≡ last v.plan)
  pub sells : Sells v.plan
  pub group : Grouped v (paid_group turnsHeld centsHeld turns)
  pub room₀ : too_many turnsHeld turns ≡ false
  pub room₁ : too_many centsHeld (price turns) ≡ false

pub record Till (p : Plan) : Type 0 where
  pub two : 1 < p.count
  pub wide₀ : width p 0 ≡ 8
  pub wide₁ : width p 1 ≡ 8

pub till : (p : Plan) → no_till p ≡ false → Till p
till p e =
    let h = false_or (leb p.count 1) _ e in
    let k = false_or (not (eqb (width p 0) 8)) _ h.1 in
    record {
      two = leb-false p.count 1 h.0;
      wide₀ = eqb-true (width p 0) 8 (not-false _ k.0);
      wide₁ = eqb-true (width p 1) 8 (not-false _ k.1);
    }

not_last : (p : Plan) → is_record p 1 ≡ false → (not p.grouped || ltb (width p (last p)) 19) ≡ false → ¬ (1 ≡ last p)
not_last p h k = eqb-false 1 (last p) (go p.grouped h (not-false _ (false_or (not p.grouped) _ k).0))
  where
    go : (t : Bool) → t && eqb 1 (last p) ≡ false → t ≡ true → eqb 1 (last p) ≡ false
    go true e z = e
    go false e z = absurd (false≢true z)

units_of : (p : Plan) → 1 < p.count → ¬ (1 ≡ last p) → 3 ≤ p.count
units_of p two other = go p.count two other
  where
    go : (k : ℕ) → 1 < k → ¬ (1 ≡ k - 1) → 3 ≤ k
    go zero h ne = absurd (omega arith)
    go (suc zero) h ne = absurd (omega arith)
    go (suc (suc zero)) h ne = absurd (ne refl)
    go (suc (suc (suc n))) h ne = omega arith

pub paid_says : (v : View) (turnsHeld centsHeld : List ℕ) (turns : ℕ) → paid_number v turnsHeld centsHeld turns ≡ 0
    → Fare v turnsHeld centsHeld turns
unfolding paid_number
paid_says v turnsHeld centsHeld turns e =
    let h = past v _ e in
    let h₅ = first_past 4 (not (is_ready v.job)) _ h.more in
    let h₁₆ = first_past 15 (no_till v.plan) _ h₅.1 in
    let h₂₀ = first_past 19 (is_record v.plan 1) _ h₁₆.1 in
    let h₂₁ = first_past 20 (not v.plan.grouped || ltb (width v.plan (last v.plan)) 19) _ h₂₀.1 in
    let h₈ = first_past 7 _ _ h₂₁.1 in
    let h₁₅ = first_past 14 (too_many turnsHeld turns || too_many centsHeld (price turns)) [] h₈.1 in
    let rooms = false_or (too_many turnsHeld turns) _ h₁₅.0 in
    let t = till v.plan h₁₆.0 in
    let other = not_last v.plan h₂₀.0 h₂₁.0 in
    let record-fits = false_or (not v.plan.grouped) _ h₂₁.0 in
    record {
      plan = h.plan;
      long = h.long;
      two = t.two;
      wide₀ = t.wide₀;
      wide₁ = t.wide₁;
      other = other;
      sells = record {
        grouped = not-false _ record-fits.0;
        units = units_of v.plan t.two other;
        turns = t.wide₀;
        cents = t.wide₁;
        room = λ r e. rw e (omega (arith, ltb-false (width v.plan (last v.plan)) 19 record-fits.1));
      };
      group = record {
        job = ready_only v.job h₅.0;
        parts = paid_parts v.plan t.two t.wide₀ t.wide₁ turnsHeld centsHeld turns;
        apart = paid_apart v.plan t.two t.wide₀ t.wide₁ turnsHeld centsHeld turns h₂₀.0;
        wide = paid_wide v.plan t.two t.wide₀ t.wide₁ turnsHeld centsHeld turns h₂₁.0;
      };
      room₀ = rooms.0;
      room₁ = rooms.1;
    }

-- ---- when it is 0: before the first write every marker is OK, and both totals have room
pub paid_ready : (v : View) → PlanOk v.plan → v.short ≡ false → v.job ≡ ready → ((u : ℕ) → v.marker u ≡ OK) → Sells v.plan
    → (turnsHeld centsHeld : List ℕ) (turns : ℕ) → too_many turnsHeld turns ≡ false → too_many centsHeld (price turns) ≡ false
    → paid_number v turnsHeld centsHeld turns ≡ 0
unfolding paid_number bad_job
paid_ready v ok long e marks s turnsHeld centsHeld turns h₀ h₁ =
    let units : 3 ≤ v.plan.count = s.units in
    device_past v ok long _ (rw e)
    ∙ first_skip 5 _ _ (rw e)
    ∙ first_skip 16 _ _
    (or_false _ _ (lt-leb v.plan.count 1 (omega arith))
    (or_false _ _ (ap not (eq-eqb (width v.plan 0) 8 s.turns)) (ap not (eq-eqb (width v.plan 1) 8 s.cents))))
    ∙ first_skip 20 _ _ (rw s.grouped (ne_eqb 1 (last v.plan) (λ z. absurd (omega arith))))
    ∙ first_skip 21 _ _ (or_false _ _ (ap not s.grouped) (le-ltb (width v.plan (last v.plan)) 19 (omega (arith, s.room (last v.plan) refl))))
    ∙ first_skip 8 _ _ (or_false _ _ (fine (last v.plan)) (or_false _ _ (fine 0) (fine 1)))
    ∙ first_skip 15 _ [] (or_false _ _ h₀ h₁)
    ∙ first_none
  where
    fine : (u : ℕ) → not (eqb (v.marker u) OK) ≡ false
    fine u = ap not (eq-eqb (v.marker u) OK (marks u))

-- two views judge alike: markers and bytes of the units are looked at after 16 only
pub paid_alike : {v v' : View} → Alike v v' → {a a' b b' : List ℕ} (turns : ℕ)
    → (PlanOk v'.plan → v'.short ≡ false → v'.job ≡ ready → 1 < v'.plan.count → (a ≡ a') × (b ≡ b'))
    → paid_number v a b turns ≡ paid_number v' a' b' turns
unfolding paid_number
paid_alike {v} {v'} same {a} {a'} {b} {b'} turns h =
    rw (same.bad, same.plan, same.short, same.job)
    (first_from (device_row v' ++ (5 when not (is_ready v'.job) ∷ 16 when no_till v'.plan ∷ [])) _ _
    (λ e.
    let t = past v' _ e in
    let h₅ = first_past 4 (not (is_ready v'.job)) _ t.more in
    let two = (till v'.plan (first_past 15 (no_till v'.plan) [] h₅.1).0).two in
    let held = h t.plan t.long (ready_only v'.job h₅.0) two in
    rw (
      same.marker (last v'.plan) (last_lt v'.plan t.plan),
      same.marker 0 (omega arith),
      same.marker 1 two,
      held.0,
      held.1,
    )))
