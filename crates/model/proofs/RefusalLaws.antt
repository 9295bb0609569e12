-- What a refusal table's answer 0 says, and when it is 0.
use Prim.Native.Nat.{ℕ, zero, suc, ◌≤◌, ◌<◌}
use mathlib.Core.Path.{◌≡◌, refl, ap, sym, ◌∙◌}
use mathlib.Core.List.{List, [], ◌∷◌, ◌++◌}
use mathlib.Core.Bool.{Bool, true, false, cond, not, ◌||◌, ◌&&◌, true≢false, false≢true}
use native.Mathlib.Omega.{arith}
use lib.Dec.{eqb, ltb, leb}
use borrow.Author.Tests.{ltb-true, ltb-false, leb-false, eqb-true, eqb-false, eq-eqb, ne_eqb, lt-leb, le-leb, not-false}
use Rattle.model.specs.declared.Plan.{Plan}
use Rattle.model.specs.declared.Role.{Role}
use Rattle.model.specs.Plans.{PageSize, one, four, eight, sixteen}
use Rattle.model.specs.Layout.{width}
use Rattle.model.specs.Marker.{OK}
use Rattle.model.specs.Rights.{may_see, may_write}
use Rattle.model.specs.Refusals.{Job, cold, ready, writing, recovering, is_cold, is_ready, write_total, cleanup_total, View, bad_count, bad_widths, bad_page, bad_job, Refusal, ◌when◌, first, plan_row, device_row, any_foreign, start_number, format_number, wake_number, step_number, cut_number, inspect_number, read_number, begin_number, total_number, grouping, bad_write}
use Rattle.model.proofs.Compare.{below, above, order, equal, differ, same}
use Rattle.model.specs.Groups.{is_record, write_at}

-- ---- the first refusal that holds
pub first_past : (n : ℕ) (t : Bool) (rest : List Refusal) → first (suc n when t ∷ rest) ≡ 0 → (t ≡ false) × (first rest ≡ 0)
unfolding first
first_past n true rest e = absurd (omega arith)
first_past n false rest e = (refl, e)

pub first_skip : (n : ℕ) (t : Bool) (rest : List Refusal) → t ≡ false → first (n when t ∷ rest) ≡ first rest
unfolding first
first_skip n true rest e = absurd (true≢false e)
first_skip n false rest e = refl

pub first_stop : (n : ℕ) (t : Bool) (rest : List Refusal) → t ≡ true → first (n when t ∷ rest) ≡ n
unfolding first
first_stop n true rest e = refl
first_stop n false rest e = absurd (false≢true e)

pub first_none : first [] ≡ 0
unfolding first
first_none = refl

-- two rows that begin alike
pub first_behind : (rs xs ys : List Refusal) → first xs ≡ first ys → first (rs ++ xs) ≡ first (rs ++ ys)
unfolding first
first_behind [] xs ys e = e
first_behind (r ∷ rs) xs ys e = ap (λ t. cond r.holds r.number t) (first_behind rs xs ys e)

-- a row that refuses refuses the same with more behind it
pub first_refused : (xs ys : List Refusal) → ¬ (first xs ≡ 0) → first (xs ++ ys) ≡ first xs
unfolding first
first_refused [] ys h = absurd (h refl)
first_refused (r ∷ xs) ys h = go r.holds h (first_refused xs ys)
  where
    go : (t : Bool) → ¬ (cond t r.number (first xs) ≡ 0) → (¬ (first xs ≡ 0) → first (xs ++ ys) ≡ first xs)
        → cond t r.number (first (xs ++ ys)) ≡ cond t r.number (first xs)
    go true h rest = refl
    go false h rest = rest h

-- and a row passes if it does with more behind it
pub first_front : (xs ys : List Refusal) → first (xs ++ ys) ≡ 0 → first xs ≡ 0
unfolding first
first_front [] ys e = refl
first_front (r ∷ xs) ys e = go r.holds e (first_front xs ys)
  where
    go : (t : Bool) → cond t r.number (first (xs ++ ys)) ≡ 0 → (first (xs ++ ys) ≡ 0 → first xs ≡ 0)
        → cond t r.number (first xs) ≡ 0
    go true e rest = e
    go false e rest = rest e

pub and_true : (x y : Bool) → x && y ≡ true → (x ≡ true) × (y ≡ true)
and_true true y e = (refl, e)
and_true false y e = absurd (false≢true e)

-- a row whose numbers are all above 0
abbrev pub positive : List Refusal → Bool
positive [] = true
positive (r ∷ rest) = ltb 0 r.number && positive rest

-- and passes lets what stands behind it decide
pub first_passed : (xs ys : List Refusal) → positive xs ≡ true → first xs ≡ 0 → first (xs ++ ys) ≡ first ys
unfolding first
first_passed [] ys h e = refl
first_passed (r ∷ xs) ys h e =
    go r.holds (and_true (ltb 0 r.number) (positive xs) h) e (first_passed xs ys)
  where
    go : (t : Bool) → (ltb 0 r.number ≡ true) × (positive xs ≡ true) → cond t r.number (first xs) ≡ 0
        → (positive xs ≡ true → first xs ≡ 0 → first (xs ++ ys) ≡ first ys)
        → cond t r.number (first (xs ++ ys)) ≡ first ys
    go true h e rest = absurd (omega (arith, ltb-true 0 r.number h.0))
    go false h e rest = rest h.1 e

pub or_false : (x y : Bool) → x ≡ false → y ≡ false → x || y ≡ false
or_false true y e f = e
or_false false y e f = f

pub false_or : (x y : Bool) → x || y ≡ false → (x ≡ false) × (y ≡ false)
false_or true y e = absurd (true≢false e)
false_or false y e = (refl, e)

-- ---- a plan that start accepts
pub record PlanOk (p : Plan) : Type 0 where
  pub count : bad_count p ≡ false
  pub widths : bad_widths p.widths p.count ≡ false
  pub page : bad_page p.page ≡ false

pub start_says : (p : Plan) → start_number p ≡ 0 → PlanOk p
unfolding start_number
start_says p e =
    let h₁ = first_past 0 (bad_count p) _ e in
    let h₂ = first_past 1 (bad_widths p.widths p.count) _ h₁.1 in
    record { count = h₁.0; widths = h₂.0; page = (first_past 16 (bad_page p.page) [] h₂.1).0 }

pub start_fine : (p : Plan) → PlanOk p → start_number p ≡ 0
unfolding start_number
start_fine p ok =
    first_skip 1 _ _ ok.count ∙ first_skip 2 _ _ ok.widths ∙ first_skip 17 _ [] ok.page ∙ first_none

-- past a plan that is not refused
pub plan_passed : (p : Plan) (rest : List Refusal) → start_number p ≡ 0 → first (plan_row p ++ rest) ≡ first rest
unfolding start_number
plan_passed p rest e = first_passed (plan_row p) rest refl e

pub count_bounds : (p : Plan) → PlanOk p → (0 < p.count) × (p.count ≤ 8)
unfolding bad_count
count_bounds p ok =
    let h = false_or (eqb p.count 0) (ltb 8 p.count) ok.count in
    let e = eqb-false p.count 0 h.0 in
    (omega arith, ltb-false 8 p.count h.1)

pub width_bounds : (p : Plan) → PlanOk p → (u : ℕ) → u < p.count → (0 < width p u) × (width p u ≤ 256)
unfolding bad_widths
width_bounds p ok u h = go p.count ok.widths h
  where
    go : (n : ℕ) → bad_widths p.widths n ≡ false → u < n → (0 < width p u) × (width p u ≤ 256)
    go zero e l = absurd (omega arith)
    go (suc n) e l =
        let q = false_or (bad_widths p.widths n) _ e in
        elim (order u n) [
          | below r ↦ go n q.0 r
          | above r ↦
              let t : u ≡ n = omega arith in
              let f = false_or (eqb (width p n) 0) (ltb 256 (width p n)) q.1 in
              let z = eqb-false (width p n) 0 f.0 in
              rw t (omega arith, ltb-false 256 (width p n) f.1)
        ]

pub page_fits : (p : Plan) → bad_page p.page ≡ false → PageSize p.page
unfolding bad_page
page_fits p e = go p.page (not-false _ e)
  where
    go : (n : ℕ) → eqb n 1 || (eqb n 4 || (eqb n 8 || eqb n 16)) ≡ true → PageSize n
    go n h =
        elim (same n 1) [
          | equal q ↦ rw q one
          | differ a ↦ elim (same n 4) [
            | equal q ↦ rw q four
            | differ b ↦ elim (same n 8) [
              | equal q ↦ rw q eight
              | differ c ↦ rw (eqb-true n 16 (rw (ne_eqb n 1 a, ne_eqb n 4 b, ne_eqb n 8 c) at h)) sixteen
            ]
          ]
        ]

pub fits_page : (p : Plan) → PageSize p.page → bad_page p.page ≡ false
unfolding bad_page
fits_page p size = go p.page size
  where
    go : (n : ℕ) → PageSize n → not (eqb n 1 || (eqb n 4 || (eqb n 8 || eqb n 16))) ≡ false
    go n one = refl
    go n four = refl
    go n eight = refl
    go n sixteen = refl

-- a page has at least one byte: of its size the layout's laws use no more
pub page_some : (p : Plan) → PlanOk p → 0 < p.page
unfolding bad_page
page_some p ok =
    elim (order 0 p.page) [
      | below l ↦ l
      | above l ↦
          let z : p.page ≡ 0 = omega arith in
          absurd (true≢false (rw z at ok.page))
    ]

-- ---- what every device call's 0 says
pub record Past (v : View) (rest : List Refusal) : Type 0 where
  pub plan : PlanOk v.plan
  pub long : v.short ≡ false
  pub job : bad_job v.plan v.payload v.job ≡ false
  pub more : first rest ≡ 0

pub past : (v : View) (rest : List Refusal) → first (device_row v ++ rest) ≡ 0 → Past v rest
unfolding start_number
past v rest e =
    let behind : List Refusal = 3 when v.short ∷ 4 when bad_job v.plan v.payload v.job ∷ rest in
    let z : start_number v.plan ≡ 0 = first_front (plan_row v.plan) behind e in
    let h₃ = first_past 2 v.short _ (sym (plan_passed v.plan behind z) ∙ e) in
    let h₄ = first_past 3 (bad_job v.plan v.payload v.job) _ h₃.1 in
    record { plan = start_says v.plan z; long = h₃.0; job = h₄.0; more = h₄.1 }

pub format_says : (v : View) → format_number v ≡ 0 → PlanOk v.plan × (v.short ≡ false)
unfolding format_number
format_says v e = let h = past v _ e in (h.plan, h.long)

cold_only : (j : Job) → not (is_cold j) ≡ false → j ≡ cold
cold_only cold e = refl
cold_only ready e = absurd (true≢false e)
cold_only (writing u n) e = absurd (true≢false e)
cold_only (recovering u n) e = absurd (true≢false e)
cold_only (grouping i n) e = absurd (true≢false e)

pub ready_only : (j : Job) → not (is_ready j) ≡ false → j ≡ ready
ready_only cold e = absurd (true≢false e)
ready_only ready e = refl
ready_only (writing u n) e = absurd (true≢false e)
ready_only (recovering u n) e = absurd (true≢false e)
ready_only (grouping i n) e = absurd (true≢false e)

-- Ticket 4: 14 comes after 5, so that outside Cold no marker is asked for
wake_awake : (v : View) → first (device_row v) ≡ 0 → not (is_cold v.job) ≡ true → wake_number v ≡ 5
unfolding wake_number
wake_awake v e h = first_passed (device_row v) _ refl e ∙ first_stop 5 _ _ h

pub wake_says : (v : View) → wake_number v ≡ 0 → v.job ≡ cold
unfolding wake_number
wake_says v e = cold_only v.job (go (not (is_cold v.job)) refl)
  where
    go : (t : Bool) → not (is_cold v.job) ≡ t → t ≡ false
    go true h = absurd (omega (arith, e, wake_awake v (first_front (device_row v) _ e) h))
    go false h = refl

-- a cut of n bytes
pub record CutPassed (v : View) (n : ℕ) : Type 0 where
  pub plan : PlanOk v.plan
  pub long : v.short ≡ false
  pub job : bad_job v.plan v.payload v.job ≡ false
  pub size : n ≡ v.plan.page

pub cut_says : (v : View) (n : ℕ) → cut_number v n ≡ 0 → CutPassed v n
unfolding cut_number
cut_says v n e =
    let h = past v _ e in
    record {
      plan = h.plan;
      long = h.long;
      job = h.job;
      size = eqb-true n v.plan.page (not-false _ (first_past 17 _ [] h.more).0);
    }

-- a step's 0 says that 4 does not apply
pub step_says : (v : View) → step_number v ≡ 0 → bad_job v.plan v.payload v.job ≡ false
unfolding step_number
step_says v e = (past v _ e).job

pub record Began (v : View) (u n : ℕ) : Type 0 where
  pub job : v.job ≡ ready
  pub unit : u < v.plan.count
  pub other : is_record v.plan u ≡ false
  pub size : n ≡ width v.plan u

pub begin_says : (v : View) (role : Role) (u n : ℕ) → begin_number v role u n ≡ 0 → Began v u n
unfolding begin_number
begin_says v role u n e =
    let h₅ = first_past 4 (not (is_ready v.job)) _ (past v _ e).more in
    let h₆ = first_past 5 (leb v.plan.count u) _ h₅.1 in
    let h₂₀ = first_past 19 (is_record v.plan u) _ h₆.1 in
    let h₂₂ = first_past 21 (not (may_write v.plan.rights role u)) _ h₂₀.1 in
    let h₇ = first_past 6 (not (eqb n (width v.plan u))) _ h₂₂.1 in
    record {
      job = ready_only v.job h₅.0;
      unit = leb-false v.plan.count u h₆.0;
      other = h₂₀.0;
      size = eqb-true n (width v.plan u) (not-false _ h₇.0);
    }

-- and that the role may write the unit
pub begin_right : (v : View) (role : Role) (u n : ℕ) → begin_number v role u n ≡ 0 → may_write v.plan.rights role u ≡ true
unfolding begin_number
begin_right v role u n e =
    let h₅ = first_past 4 (not (is_ready v.job)) _ (past v _ e).more in
    let h₆ = first_past 5 (leb v.plan.count u) _ h₅.1 in
    let h₂₀ = first_past 19 (is_record v.plan u) _ h₆.1 in
    not-false _ (first_past 21 (not (may_write v.plan.rights role u)) _ h₂₀.1).0

-- ---- when it is 0
pub job_writing : (p : Plan) (payload : List ℕ) (u n : ℕ) → u < p.count → n < write_total (width p u)
    → bad_job p payload (writing u n) ≡ false
unfolding bad_job
job_writing p payload u n h l = or_false _ _ (lt-leb p.count u h) (lt-leb _ n l)

pub job_recovering : (p : Plan) (payload : List ℕ) (u n : ℕ) → u < p.count → n < cleanup_total (width p u)
    → bad_job p payload (recovering u n) ≡ false
unfolding bad_job
job_recovering p payload u n h l = or_false _ _ (lt-leb p.count u h) (lt-leb _ n l)

pub job_grouping : (p : Plan) (payload : List ℕ) (i n : ℕ) → bad_write p payload i ≡ false
    → n < write_total (width p (write_at p payload i).unit) → bad_job p payload (grouping i n) ≡ false
unfolding bad_job
job_grouping p payload i n h l = or_false _ _ h (lt-leb _ n l)

module _ (v : View) (ok : PlanOk v.plan) (long : v.short ≡ false) where
  pub device_past : (rest : List Refusal) → bad_job v.plan v.payload v.job ≡ false → first (device_row v ++ rest) ≡ first rest
  device_past rest e =
      plan_passed v.plan _ (start_fine v.plan ok) ∙ first_skip 3 _ _ long ∙ first_skip 4 _ _ e

  -- refusals 1 to 4 do not apply
  pub device_fine : bad_job v.plan v.payload v.job ≡ false → first (device_row v) ≡ 0
  device_fine e = device_past [] e ∙ first_none

  pub cut_any : (n : ℕ) → bad_job v.plan v.payload v.job ≡ false → n ≡ v.plan.page → cut_number v n ≡ 0
  unfolding cut_number
  cut_any n e h = device_past _ e ∙ first_skip 18 _ [] (ap not (eq-eqb n v.plan.page h)) ∙ first_none

  module _ (e : v.job ≡ cold) where
    cold_fine : bad_job v.plan v.payload v.job ≡ false
    unfolding bad_job
    cold_fine = rw e

    pub wake_cold : any_foreign v.marker v.plan.count ≡ false → wake_number v ≡ 0
    unfolding wake_number
    wake_cold h = device_past _ cold_fine ∙ first_skip 5 _ _ (rw e) ∙ first_skip 14 _ [] h ∙ first_none

    pub format_cold : format_number v ≡ 0
    unfolding format_number
    format_cold = device_past _ cold_fine ∙ first_skip 5 _ [] (rw e) ∙ first_none

    pub step_cold : step_number v ≡ 5
    unfolding step_number
    step_cold = device_past _ cold_fine ∙ first_stop 5 _ [] (rw e)

  pub step_ready : v.job ≡ ready → step_number v ≡ 5
  unfolding step_number bad_job
  step_ready e = device_past _ (rw e) ∙ first_stop 5 _ [] (rw e)

  pub total_ready : v.job ≡ ready → (role : Role) (u : ℕ) → u < v.plan.count → may_see v.plan.rights role u ≡ true → v.marker u ≡ OK
      → width v.plan u ≡ 8 → total_number v role u ≡ 0
  unfolding total_number bad_job
  total_ready e role u h r m w =
      device_past _ (rw e)
      ∙ first_skip 5 _ _ (rw e)
      ∙ first_skip 6 _ _ (lt-leb v.plan.count u h)
      ∙ first_skip 22 _ _ (ap not r)
      ∙ first_skip 8 _ _ (ap not (eq-eqb (v.marker u) OK m))
      ∙ first_skip 16 _ [] (ap not (eq-eqb (width v.plan u) 8 w))
      ∙ first_none

  pub step_recovering : (u n : ℕ) → v.job ≡ recovering u n → u < v.plan.count → n < cleanup_total (width v.plan u)
      → step_number v ≡ 0
  unfolding step_number
  step_recovering u n e h l =
      device_past _ (rw e (job_recovering v.plan v.payload u n h l)) ∙ first_skip 5 _ [] (rw e) ∙ first_none

  pub step_grouping : (i n : ℕ) → v.job ≡ grouping i n → bad_write v.plan v.payload i ≡ false
      → n < write_total (width v.plan (write_at v.plan v.payload i).unit) → step_number v ≡ 0
  unfolding step_number
  step_grouping i n e h l =
      device_past _ (rw e (job_grouping v.plan v.payload i n h l)) ∙ first_skip 5 _ [] (rw e) ∙ first_none

foreign_alike : (m m' : ℕ → ℕ) (k : ℕ) → ((u : ℕ) → u < k → m u ≡ m' u) → any_foreign m k ≡ any_foreign m' k
unfolding any_foreign
foreign_alike m m' zero h = refl
foreign_alike m m' (suc k) h = rw (h k (omega arith), foreign_alike m m' k (λ u l. h u (omega arith)))

-- two rows are equal if they are from where none held yet
pub first_from : (pre xs ys : List Refusal) → (first pre ≡ 0 → first xs ≡ first ys) → first (pre ++ xs) ≡ first (pre ++ ys)
unfolding first
first_from [] xs ys h = h refl
first_from (r ∷ pre) xs ys h = go r.holds h (first_from pre xs ys)
  where
    go : (t : Bool) → (cond t r.number (first pre) ≡ 0 → first xs ≡ first ys)
        → ((first pre ≡ 0 → first xs ≡ first ys) → first (pre ++ xs) ≡ first (pre ++ ys))
        → cond t r.number (first (pre ++ xs)) ≡ cond t r.number (first (pre ++ ys))
    go true f g = refl
    go false f g = g f

-- past a device row that refuses nothing
pub device_passed : (v : View) (xs ys : List Refusal) → first (device_row v ++ xs) ≡ 0 → first (device_row v ++ ys) ≡ first ys
device_passed v xs ys e = first_passed (device_row v) ys refl (first_front (device_row v) xs e)

-- ---- two views that no call tells apart: calls look at markers of units that the plan has
pub record Alike (v v' : View) : Type 0 where
  pub plan : v.plan ≡ v'.plan
  pub short : v.short ≡ v'.short
  pub job : v.job ≡ v'.job
  pub bad : bad_job v.plan v.payload v.job ≡ bad_job v'.plan v'.payload v'.job
  pub marker : (u : ℕ) → u < v'.plan.count → v.marker u ≡ v'.marker u

module _ {v v' : View} (a : Alike v v') where
  pub step_alike : step_number v ≡ step_number v'
  unfolding step_number
  step_alike = rw (a.bad, a.plan, a.short, a.job)

  pub cut_alike : (n : ℕ) → cut_number v n ≡ cut_number v' n
  unfolding cut_number
  cut_alike n = rw (a.bad, a.plan, a.short)

  pub wake_alike : wake_number v ≡ wake_number v'
  unfolding wake_number
  wake_alike = rw (a.bad, a.plan, a.short, a.job, foreign_alike v.marker v'.marker v'.plan.count a.marker)

  pub inspect_alike : inspect_number v ≡ inspect_number v'
  unfolding inspect_number
  inspect_alike = rw (a.bad, a.plan, a.short)

  -- a unit's marker is looked at after 6
  marker_alike : (u : ℕ) (rest : Plan → ℕ → List Refusal)
      → first (device_row v ++ (5 when not (is_ready v.job) ∷ 6 when leb v.plan.count u ∷ rest v.plan (v.marker u)))
      ≡ first (device_row v' ++ (5 when not (is_ready v'.job) ∷ 6 when leb v'.plan.count u ∷ rest v'.plan (v'.marker u)))
  marker_alike u rest =
      elim (order u v'.plan.count) [
        | below l ↦ rw (a.bad, a.plan, a.short, a.job, a.marker u l)
        | above l ↦
            let six : leb v'.plan.count u ≡ true = le-leb v'.plan.count u l in
            rw (a.bad, a.plan, a.short, a.job)
            (first_behind (device_row v' ++ (5 when not (is_ready v'.job) ∷ [])) _ _
            (first_stop 6 _ _ six ∙ sym (first_stop 6 _ _ six)))
      ]

  pub begin_alike : (role : Role) (u n : ℕ) → begin_number v role u n ≡ begin_number v' role u n
  unfolding begin_number
  begin_alike role u n =
      marker_alike u
      (λ p m. 20 when is_record p u ∷ 22 when not (may_write p.rights role u) ∷ 7 when not (eqb n (width p u)) ∷ 8 when not (eqb m OK) ∷ [])

  pub read_alike : (role : Role) (u : ℕ) → read_number v role u ≡ read_number v' role u
  unfolding read_number
  read_alike role u = marker_alike u (λ p m. 22 when not (may_see p.rights role u) ∷ 8 when not (eqb m OK) ∷ [])

  pub total_alike : (role : Role) (u : ℕ) → total_number v role u ≡ total_number v' role u
  unfolding total_number
  total_alike role u =
      marker_alike u (λ p m. 22 when not (may_see p.rights role u) ∷ 8 when not (eqb m OK) ∷ 16 when not (eqb (width p u) 8) ∷ [])
