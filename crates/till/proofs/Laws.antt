-- What a paid ride has room for.
use Prim.Native.Nat.{ℕ, ◌+◌, ◌<◌}
use mathlib.Core.Path.{◌≡◌, refl, ap, sym, ◌∙◌}
use mathlib.Core.List.{List, [], ◌∷◌, ◌++◌}
use mathlib.Core.Bool.{Bool, not, true, false, ◌||◌}
use lib.Dec.{eqb, ltb}
use native.Mathlib.Omega.{arith}
use lib.ListN.{length}
use Rattle.lookup.proofs.Laws as lookup
use Rattle.refusal.proofs.Laws.{live, refused_by, passed_by}
use Rattle.refusal.specs.Seen.{seen}
use Rattle.refusal.specs.declared.View.{View}
use Rattle.model.specs.declared.Plan.{Plan}
use Rattle.model.specs.Layout.{copy_a, width, copy_of}
use Rattle.model.specs.Groups.{last, is_record}
use Rattle.model.specs.Marker.{OK}
use Rattle.model.specs.Turns.{amount}
use Rattle.model.specs.Prices.{price}
use Rattle.model.specs.Numbers.{number_of}
use Rattle.model.specs.declared.refusals.Refusal as refusals
use Rattle.model.specs.Refusals as rows
use Rattle.model.specs.Refusals.{Refusal, ◌when◌, first, is_ready, device_row, no_till, paid_number}
use Rattle.model.proofs.RefusalLaws.{first_stop, first_skip, first_none}
use Rattle.model.proofs.LayoutLaws.{copy_length_lem}
use Rattle.model.proofs.GroupLaws.{last_lt}
use Rattle.model.proofs.PaidLaws.{till}
use Rattle.model.proofs.Compare.{below, above, order}
use Rattle.till.specs.Room.{Room}

-- the record's unit is one of the plan's
pub last_unit : (p : Plan) (image : List ℕ) → Room p image → last p < p.count
last_unit p image r = last_lt p r.ok

pub eight_held : (p : Plan) (image : List ℕ) (u : ℕ) → Room p image → u < 2 → length (copy_of p image u copy_a) ≡ 8
eight_held p image u r h =
    copy_length_lem p r.ok image u copy_a (omega (arith, r.two)) r.long
    ∙ elim (order u 1) [
      | below l ↦ let e : u ≡ 0 = omega arith in rw e r.wide₀
      | above l ↦ let e : u ≡ 1 = omega arith in rw e r.wide₁
    ]

pub ruleset room = (last_unit, eight_held)

-- what passes 1 to 5 and 16
pub fare_room : (v : View) → 0 ≡ first (device_row (seen v) ++ (5 when not (is_ready (seen v).job) ∷ [])) → no_till v.plan ≡ false
    → Room v.plan v.image.now
fare_room v before e =
    let r = lookup.room v.plan v.payload.now v.phase v.image.now (live v.plan v.payload.now v.phase v.image.now 0 _ before refl) in
    let t = till v.plan e in
    record { ok = r.ok; long = r.long; two = t.two; wide₀ = t.wide₀; wide₁ = t.wide₁ }

-- ---- the row of a paid ride, behind 21
module _ (v : rows.View) (x y : List ℕ) (turns : ℕ) (before : 0 ≡ first (device_row v ++ (5 when not (is_ready v.job) ∷ [])))
    (wide : no_till v.plan ≡ false) (other : is_record v.plan 1 ≡ false)
    (recorded : not v.plan.grouped || ltb (width v.plan (last v.plan)) 19 ≡ false) where
  abbrev marks : Refusal
  marks = 8 when (not (eqb (v.marker (last v.plan)) OK) || (not (eqb (v.marker 0) OK) || not (eqb (v.marker 1) OK)))

  abbrev sums : Refusal
  sums = 15 when (ltb 18446744073709551615 (amount x + turns) || ltb 18446744073709551615 (amount y + price turns))

  behind : {n : ℕ} → n ≡ first (marks ∷ sums ∷ []) → n ≡ paid_number v x y turns
  unfolding paid_number
  behind e =
      passed_by (device_row v ++ (5 when not (is_ready v.job) ∷ [])) _ refl before
      (e ∙ sym (first_skip 16 _ _ wide ∙ first_skip 20 _ _ other ∙ first_skip 21 _ _ recorded))

  pub by_marks : (r : refusals.Refusal) → number_of r ≡ first (marks ∷ []) → number_of r ≡ paid_number v x y turns
  by_marks r e = behind (refused_by r (marks ∷ []) (sums ∷ []) e)

  pub by_sums : {n : ℕ} → 0 ≡ first (marks ∷ []) → n ≡ first (sums ∷ []) → n ≡ paid_number v x y turns
  by_sums m e = behind (passed_by (marks ∷ []) (sums ∷ []) refl m e)

-- ---- a number that is given where one of two conditions holds: by the other alone, and by the first alone
pub none_left : (n : ℕ) (x y : Bool) → x ≡ false → first (n when (x || y) ∷ []) ≡ first (n when y ∷ [])
none_left n x y h = ap (λ (t : Bool). first (n when (t || y) ∷ [])) h

pub by_first : {k : ℕ} (n : ℕ) (x y : Bool) → k ≡ first (n when x ∷ []) → ¬ (k ≡ 0) → k ≡ first (n when (x || y) ∷ [])
by_first n true y e h = e ∙ first_stop n true [] refl ∙ sym (first_stop n true [] refl)
by_first n false y e h = absurd (h (e ∙ first_skip n false [] refl ∙ first_none))
