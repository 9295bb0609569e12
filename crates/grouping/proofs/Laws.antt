-- The markers of a group's members, by the code's tests; and the row of a group behind 1 to 5.
use Prim.Native.Nat.{ℕ, ◌<◌}
use mathlib.Core.Path.{◌≡◌, refl, ap, sym, ◌∙◌}
use mathlib.Core.List.{List, [], ◌∷◌, ◌++◌}
use mathlib.Core.Bool.{Bool, true, false, not, ◌||◌}
use lib.Dec.{eqb}
use Rattle.model.specs.declared.Plan.{Plan}
use Rattle.model.specs.declared.refusals.Refusal as refusals
use Rattle.model.specs.Numbers.{number_of}
use Rattle.model.specs.Marker.{OK}
use Rattle.model.specs.Groups.{last, members, unsplit, overlaps, narrow}
use Rattle.model.specs.Refusals.{View, is_ready, ◌when◌, Refusal, first, device_row, dirty, group_number}
use Rattle.model.proofs.RefusalLaws.{first_past, first_stop}
use Rattle.model.proofs.GroupLaws.{count_splits, last_lt}
use Rattle.group.specs.Members.{Begins, Short}
use Rattle.group.proofs.Walk.{Goes, opens, goes_end}
use Rattle.model.proofs.Numbered.{number_some}
use Rattle.refusal.proofs.Laws.{refused_by, passed_by}

-- a marker that is not OK, or is, by what the code is told
told_bad : (t : Bool) (r : refusals.Refusal) → number_of r ≡ first (8 when t ∷ []) → t ≡ true
unfolding first
told_bad true r e = refl
told_bad false r e = absurd (number_some r e)

told_good : (t : Bool) → 0 ≡ first (8 when t ∷ []) → t ≡ false
told_good t e = (first_past 7 t [] (sym e)).0

module _ {p : Plan} {g rest : List ℕ} (m : ℕ → ℕ) (parts : unsplit p g ≡ false) (goes : Goes p g rest (dirty m)) where
  abbrev row : ℕ
  row = first (8 when dirty m (members p g) ∷ [])

  module _ {u : ℕ} {behind : List ℕ} (begins : Begins p rest u behind) where
    pub unit_small : u < p.count
    unit_small = (opens goes begins _ (count_splits p g parts)).small

    pub bad_member : (r : refusals.Refusal) → number_of r ≡ first (8 when not (eqb (m u) OK) ∷ []) → number_of r ≡ row
    unfolding dirty members
    bad_member r e =
        let bad = told_bad _ r e in
        e ∙ first_stop 8 _ [] bad ∙ sym (first_stop 8 _ [] ((opens goes begins _ (count_splits p g parts)).same ∙ rw bad))

    pub good_member : 0 ≡ first (8 when not (eqb (m u) OK) ∷ []) → Goes p g behind (dirty m)
    unfolding dirty
    good_member e n s =
        let o = opens goes begins n s in
        record { k = o.k; exact = o.exact; same = o.same ∙ rw (told_good _ e) }

  pub no_more : Short p rest → 0 ≡ row
  unfolding dirty members first
  no_more l = sym (ap (λ (t : Bool). first (8 when t ∷ [])) (goes_end goes l _ (count_splits p g parts)))

-- ---- the row of a group, as far as the code has asked
module _ (v : View) (g : List ℕ) where
  abbrev early : List Refusal
  early = device_row v ++ (5 when not (is_ready v.job) ∷ [])

  abbrev faults : List Refusal
  faults = 19 when unsplit v.plan g ∷ 20 when overlaps v.plan g ∷ 21 when narrow v.plan g ∷ []

  pub by_ready : (r : refusals.Refusal) → number_of r ≡ first early → group_number v g ≡ number_of r
  unfolding group_number
  by_ready r e = sym (refused_by r early _ e)

  pub by_bytes : (r : refusals.Refusal) → 0 ≡ first early → number_of r ≡ first faults → group_number v g ≡ number_of r
  unfolding group_number
  by_bytes r before e = sym (passed_by early _ refl before (refused_by r faults _ e))

  pub by_record : (r : refusals.Refusal) → 0 ≡ first early → 0 ≡ first faults
      → number_of r ≡ first (8 when not (eqb (v.marker (last v.plan)) OK) ∷ []) → group_number v g ≡ number_of r
  unfolding group_number first
  by_record r before fine e =
      let bad : not (eqb (v.marker (last v.plan)) OK) ≡ true = told_bad _ r e in
      let late : not (eqb (v.marker (last v.plan)) OK) || dirty v.marker (members v.plan g) ≡ true = rw bad in
      let unclean : List Refusal = 8 when (not (eqb (v.marker (last v.plan)) OK) || dirty v.marker (members v.plan g)) ∷ [] in
      let is : number_of r ≡ first unclean = e ∙ first_stop 8 _ [] bad ∙ sym (first_stop 8 _ [] late) in
      sym (passed_by early (faults ++ unclean) refl before (passed_by faults unclean refl fine is))

  pub by_members : {n : ℕ} → 0 ≡ first early → 0 ≡ first faults
      → 0 ≡ first (8 when not (eqb (v.marker (last v.plan)) OK) ∷ []) → n ≡ first (8 when dirty v.marker (members v.plan g) ∷ [])
      → group_number v g ≡ n
  unfolding group_number
  by_members before fine m e = sym (passed_by early _ refl before (passed_by faults _ refl fine (rw (told_good _ m) e)))

pub ruleset row_of_group = (by_ready, by_bytes, by_record, by_members, last_lt)
