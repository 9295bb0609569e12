-- What the search needs to know for the rows of refusals; and what a device has whose call is not refused.
use Prim.Native.Nat.{ℕ, ◌+◌, ◌≤◌, ◌<◌}
use mathlib.Core.Path.{◌≡◌, refl, ap, sym, ◌∙◌}
use mathlib.Core.List.{List, [], ◌∷◌, ◌++◌}
use mathlib.Core.Bool.{Bool, true, false, not}
use native.Mathlib.Omega.{arith}
use lib.Dec.{eqb}
use lib.ListN.{length, get_or}
use borrow.Author.Tests.{eq-eqb, ne_eqb}
use Rattle.std.proofs.lemmas.Bool.Decides.{nat_tests}
use Rattle.model.specs.declared.Plan.{Plan}
use Rattle.model.specs.declared.Phase.{Phase}
use Rattle.model.specs.declared.refusals.Refusal as refusals
use Rattle.model.specs.Numbers.{number_of}
use Rattle.model.specs.Marker.{OK}
use Rattle.model.specs.Layout.{marker, unit_length, base, total, get}
use Rattle.model.specs.Refusals.{◌when◌, Refusal, first}
use Rattle.model.proofs.Numbered.{number_some}
use Rattle.model.proofs.RefusalLaws.{PlanOk, first_front, first_refused, positive, first_passed}
use Rattle.model.proofs.LayoutLaws.{base_bound, unit_some}
use Rattle.lookup.specs.Spans.{image_row, Live}
use Rattle.lookup.proofs.Laws.{room}
use Rattle.search.proofs.Search.{marker_at}

-- an accepted call's number is 0
pub number_above : (r : refusals.Refusal) → 0 < number_of r
number_above r = omega (arith, number_some r)

-- what stands behind a row that was tested
pub refused_by : (r : refusals.Refusal) (xs ys : List Refusal) → number_of r ≡ first xs → number_of r ≡ first (xs ++ ys)
refused_by r xs ys e = e ∙ sym (first_refused xs ys (λ z. number_some r (e ∙ z)))

pub passed_by : {n : ℕ} (xs ys : List Refusal) → positive xs ≡ true → 0 ≡ first xs → n ≡ first ys → n ≡ first (xs ++ ys)
passed_by xs ys h z e = e ∙ sym (first_passed xs ys h (sym z))

-- a unit's marker lies before the end of the last unit
pub marker_inside : (p : Plan) → PlanOk p → (u : ℕ) → u < p.count → base p u < total p
marker_inside p ok u h = omega (arith, base_bound p ok u p.count h, unit_some p ok u)

pub ruleset rows = (number_above, nat_tests, marker_inside)

-- ---- refusals 1 to 4, and 5 where the phase is wrong, for an image of n bytes; k is the code's number, t the test of the phase
module _ (p : Plan) (payload : List ℕ) (phase : Phase) (n : ℕ) where
  abbrev numbered : Bool → ℕ
  numbered wrong = first (image_row p payload phase n ++ (5 when wrong ∷ []))

  -- the test of the phase that the code makes is the row's
  pub phase_tested : {t : Bool} (k : ℕ) (wrong : Bool) → k ≡ numbered wrong → wrong ≡ t → k ≡ numbered t
  phase_tested k wrong e h = e ∙ ap numbered h

  pub phase_refused : {t : Bool} (k : ℕ) (wrong : Bool) → k ≡ numbered wrong → wrong ≡ t → ¬ (k ≡ 0)
      → (rest : List Refusal) → k ≡ first (image_row p payload phase n ++ (5 when t ∷ rest))
  phase_refused {t} k wrong e h z rest =
      let is : k ≡ numbered t = e ∙ ap numbered h in
      is ∙ sym (first_refused (image_row p payload phase n ++ (5 when t ∷ [])) rest (λ q. z (is ∙ q)))

  pub phase_passed : {t : Bool} (k : ℕ) (wrong : Bool) → k ≡ numbered wrong → wrong ≡ t → k ≡ 0
      → (rest : List Refusal) → first (image_row p payload phase n ++ (5 when t ∷ rest)) ≡ first rest
  phase_passed {t} k wrong e h z rest =
      first_passed (image_row p payload phase n ++ (5 when t ∷ [])) rest refl (sym (e ∙ ap numbered h) ∙ z)

module _ (p : Plan) (payload : List ℕ) (phase : Phase) (image : List ℕ) where
  -- a device whose call is not refused is live
  pub live : (k : ℕ) (rest : List Refusal) → k ≡ first (image_row p payload phase (length image) ++ rest) → k ≡ 0
      → Live p payload phase image
  live k rest e z = first_front (image_row p payload phase (length image)) rest (sym e ∙ z)

  -- the whole unit lies in the image
  pub unit_inside : Live p payload phase image → (u : ℕ) → u < p.count → base p u + unit_length p u ≤ length image
  unit_inside e u h =
      let r = room p payload phase image e in
      omega (arith, base_bound p r.ok u p.count h, r.long)

module _ (p : Plan) (image : List ℕ) where
  -- 8, as the code reads the marker: b is where the unit begins
  pub marker_bad : (u b : ℕ) → b ≡ base p u → ¬ (get_or image b 0 ≡ OK) → not (eqb (get p image u marker) OK) ≡ true
  marker_bad u b e h = rw (ne_eqb (get p image u marker) OK (λ q. h (marker_at p image u b e ∙ q)))

  pub marker_good : (u b : ℕ) → b ≡ base p u → get_or image b 0 ≡ OK → not (eqb (get p image u marker) OK) ≡ false
  marker_good u b e h = rw (eq-eqb (get p image u marker) OK (sym (marker_at p image u b e) ∙ h))
