-- Each call answers the number that is tested first of those whose condition holds: specs/Refuses.antt.
use Prim.Native.Nat.{ℕ, zero, suc, ◌+◌, ◌-◌, ◌≤◌, ◌<◌}
use mathlib.Core.Path.{◌≡◌, refl, sym, ap, ◌∙◌, subst}
use mathlib.Core.List.{List, [], ◌∷◌, ◌++◌}
use mathlib.Core.Bool.{Bool, true, false, cond, not, ◌||◌, ◌&&◌, true≢false, false≢true}
use native.Mathlib.Omega.{arith}
use lib.Dec.{eqb, ltb, leb}
use lib.ListN.{length}
use borrow.Author.Tests.{ltb-true, leb-true, eqb-true, eqb-false, not-true, lt-ltb, le-leb, eq-eqb, ne_eqb}
use Rattle.model.specs.declared.Plan.{Plan}
use Rattle.model.specs.declared.Role.{Role}
use Rattle.model.specs.declared.Phase.{Phase}
use Rattle.model.specs.declared.Phase.TheVariants.{Cold, Ready, Writing, Recovering, Grouping}
use Rattle.model.specs.Marker.{OK, FOREIGN, is_foreign}
use Rattle.model.specs.Layout.{marker, width, total, get}
use Rattle.model.specs.Groups.{Write, last, is_record, split, member_count, members, unsplit, among, twice, overlaps, narrow, given, writes, write_at}
use Rattle.model.specs.Records.{Has, Overlaps}
use Rattle.model.specs.Records as records
use Rattle.model.specs.Rights.{may_see, may_write}
use Rattle.model.specs.Refusals.{bad_write, dirty, group_number, is_cold, is_ready, write_total, cleanup_total, bad_count, bad_widths, bad_page, bad_job, Refusal, ◌when◌, first, plan_row, device_row, any_foreign, start_number, format_number, begin_number, step_number, wake_number, cut_number, read_number, inspect_number, ride_number, total_number, no_till, paid_number}
use Rattle.model.specs.Turns.{amount}
use Rattle.model.specs.Prices.{price}
use Rattle.model.specs.Calls.{Device, Outcome, view, held_in, job_of, unless_refused, start_answer}
use Rattle.model.specs.Calls as calls
use Rattle.model.specs.Refuses.{First, refusal_order, Lowest, BadPlan, no_unit, many_units, no_width, wide, other_page, BadDevice, plan, short, writing_no_unit, writing_made, cleaning_no_unit, cleaning_made, GoodPlan, grouping_alone, grouping_none, grouping_past, grouping_made, BadGroup, BadCut, other_size, BadFormat, BadWake, foreign, BadStep, BadRead, BadBegin, size, BadRide, BadPaid, ride_order, BadTotal, RefusedExactly}
use Rattle.model.specs.Refuses as bad
use Rattle.model.specs.Demands.{MaySee, MayWrite, writes_too}
use Rattle.model.proofs.Compare.{below, above, order, equal, differ, same}
use Rattle.model.proofs.MarkerLaws.{not_foreign}
use Rattle.model.proofs.RefusalLaws.{PlanOk, and_true, false_or, start_says}
use Rattle.model.proofs.Records.{group_told, told_group, overlaps_told, told_overlaps, narrow_told, told_narrow, given_told, told_given, write_told, told_write, writes_count}
use Rattle.model.proofs.RightLaws.{may_see_lem, may_write_lem, not_seen, not_written}
use Rattle.model.proofs.TurnLaws.{held_amount}

-- ---- A refusal of the row has the number k and holds: it is the first, or one of the rest.
data Held (k : ℕ) (r : Refusal) (Rest : Type 0) : Type 0 where
  here : r.number ≡ k → r.holds ≡ true → Held k r Rest
  there : Rest → Held k r Rest

abbrev Says : ℕ → List Refusal → Type 0
Says k [] = ⊥
Says k (r ∷ rest) = Held k r (Says k rest)

says_left : (k : ℕ) (xs ys : List Refusal) → Says k xs → Says k (xs ++ ys)
says_left k [] ys s = absurd s
says_left k (r ∷ xs) ys (here e h) = here e h
says_left k (r ∷ xs) ys (there s) = there (says_left k xs ys s)

says_right : (k : ℕ) (xs ys : List Refusal) → Says k ys → Says k (xs ++ ys)
says_right k [] ys s = s
says_right k (r ∷ xs) ys s = there (says_right k xs ys s)

says_split : (P : Type 0) (k : ℕ) (xs ys : List Refusal) → (Says k xs → P) → (Says k ys → P) → Says k (xs ++ ys) → P
says_split P k [] ys f g s = g s
says_split P k (r ∷ xs) ys f g (here e h) = f (here e h)
says_split P k (r ∷ xs) ys f g (there s) = says_split P k xs ys (λ q. f (there q)) g s

answers : (row : List Refusal) → ¬ (first row ≡ 0) → Says (first row) row
unfolding first
answers [] h = absurd (h refl)
answers (r ∷ rest) h = go r.holds refl h (answers rest)
  where
    go : (t : Bool) → r.holds ≡ t → ¬ (cond t r.number (first rest) ≡ 0) → (¬ (first rest ≡ 0) → Says (first rest) rest)
        → Held (cond t r.number (first rest)) r (Says (cond t r.number (first rest)) rest)
    go true e h more = here refl e
    go false e h more = there (more h)

-- ---- The answer of a row whose numbers stand in an order, from b on.
module _ (order : ℕ → ℕ) where
  abbrev Ordered : ℕ → List Refusal → Type 0
  Ordered b [] = Unit
  Ordered b (r ∷ rest) = (b ≤ order r.number) × Ordered (order r.number) rest

  bounded : (b k : ℕ) (row : List Refusal) → Ordered b row → Says k row → b ≤ order k
  bounded b k [] rise s = absurd s
  bounded b k (r ∷ rest) rise (here e h) = omega (arith, rise.0, ap order e)
  bounded b k (r ∷ rest) rise (there s) = omega (arith, rise.0, bounded (order r.number) k rest rise.1 s)

  least : (b k : ℕ) (row : List Refusal) → 1 ≤ b → Ordered b row → Says k row → (1 ≤ order (first row)) × (order (first row) ≤ order k)
  unfolding first
  least b k [] l rise s = absurd s
  least b k (r ∷ rest) l rise s = go r.holds refl (least (order r.number) k rest (omega (arith, rise.0)) rise.1) s
    where
      go : (t : Bool) → r.holds ≡ t → (Says k rest → (1 ≤ order (first rest)) × (order (first rest) ≤ order k)) → Held k r (Says k rest)
          → (1 ≤ order (cond t r.number (first rest))) × (order (cond t r.number (first rest)) ≤ order k)
      go true e more (here q h) = (omega (arith, rise.0), omega (arith, ap order q))
      go true e more (there s) = (omega (arith, rise.0), bounded (order r.number) k rest rise.1 s)
      go false e more (here q h) = absurd (true≢false (sym h ∙ e))
      go false e more (there s) = more s

  earliest : (Applies : ℕ → Type 0) (row : List Refusal) → Ordered 1 row
      → (¬ (first row ≡ 0) → Applies (first row)) → ((k : ℕ) → Applies k → Says k row) → First order Applies (first row)
  earliest Applies row rise to from =
      record {
        given = to;
        first = λ k a. least 1 k row (omega arith) rise (from k a);
      }

-- most rows stand in one order
abbrev Rising : ℕ → List Refusal → Type 0
Rising = Ordered refusal_order

lowest : (Applies : ℕ → Type 0) (row : List Refusal) → Rising 1 row
    → ((k : ℕ) → Says k row → Applies k) → ((k : ℕ) → Applies k → Says k row) → Lowest Applies (first row)
lowest Applies row rise to from = earliest refusal_order Applies row rise (λ h. to (first row) (answers row h)) from

-- what applies for one number applies for an equal one
number_is : (Applies : ℕ → Type 0) (n k : ℕ) → n ≡ k → Applies n → Applies k
number_is Applies n k e a = subst Applies e a

either : (P : Type 0) (x y : Bool) → (x ≡ true → P) → (y ≡ true → P) → x || y ≡ true → P
either P true y f g e = f refl
either P false y f g e = g e

or_left : (x y : Bool) → x ≡ true → x || y ≡ true
or_left true y e = refl
or_left false y e = absurd (false≢true e)

or_right : (x y : Bool) → y ≡ true → x || y ≡ true
or_right true y e = refl
or_right false y e = e

-- ---- 1, 2 and 17
module _ (p : Plan) where
  width_bad : (n : ℕ) → n ≤ p.count → bad_widths p.widths n ≡ true → BadPlan p 2
  unfolding bad_widths
  width_bad zero l e = absurd (false≢true e)
  width_bad (suc n) l e =
      either (BadPlan p 2) (bad_widths p.widths n) (eqb (width p n) 0 || ltb 256 (width p n))
      (width_bad n (omega arith))
      (either (BadPlan p 2) (eqb (width p n) 0) (ltb 256 (width p n))
      (λ h. no_width n (omega arith) (eqb-true (width p n) 0 h))
      (λ h. wide n (omega arith) (ltb-true 256 (width p n) h)))
      e

  bad_width_lem : (u n : ℕ) → u < n → eqb (width p u) 0 || ltb 256 (width p u) ≡ true → bad_widths p.widths n ≡ true
  unfolding bad_widths
  bad_width_lem u zero l h = absurd (omega arith)
  bad_width_lem u (suc n) l h =
      elim (same u n) [
        | equal e ↦ or_right (bad_widths p.widths n) _ (rw e at h)
        | differ q ↦ or_left (bad_widths p.widths n) _ (bad_width_lem u n (omega arith) h)
      ]

  -- the four sizes, one by one
  page_bad : bad_page p.page ≡ true → BadPlan p 17
  unfolding bad_page
  page_bad h =
      let none : eqb p.page 1 || (eqb p.page 4 || (eqb p.page 8 || eqb p.page 16)) ≡ false = not-true _ h in
      let h₁ = false_or (eqb p.page 1) _ none in
      let h₄ = false_or (eqb p.page 4) _ h₁.1 in
      let h₈ = false_or (eqb p.page 8) _ h₄.1 in
      other_page (eqb-false p.page 1 h₁.0) (eqb-false p.page 4 h₄.0) (eqb-false p.page 8 h₈.0)
      (eqb-false p.page 16 h₈.1)

  bad_page_lem : ¬ (p.page ≡ 1) → ¬ (p.page ≡ 4) → ¬ (p.page ≡ 8) → ¬ (p.page ≡ 16) → bad_page p.page ≡ true
  unfolding bad_page
  bad_page_lem h₁ h₄ h₈ h₁₆ = rw (ne_eqb p.page 1 h₁, ne_eqb p.page 4 h₄, ne_eqb p.page 8 h₈, ne_eqb p.page 16 h₁₆)

  plan_to : (k : ℕ) → Says k (plan_row p) → BadPlan p k
  unfolding bad_count
  plan_to k (here e h) =
      number_is (BadPlan p) 1 k e
      (either (BadPlan p 1) (eqb p.count 0) (ltb 8 p.count)
      (λ q. no_unit (eqb-true p.count 0 q))
      (λ q. many_units (ltb-true 8 p.count q))
      h)
  plan_to k (there (here e h)) = number_is (BadPlan p) 2 k e (width_bad p.count (omega arith) h)
  plan_to k (there (there (here e h))) = number_is (BadPlan p) 17 k e (page_bad h)
  plan_to k (there (there (there s))) = absurd s

  plan_from : (k : ℕ) → BadPlan p k → Says k (plan_row p)
  unfolding bad_count
  plan_from k (no_unit e) = here refl (or_left _ _ (eq-eqb p.count 0 e))
  plan_from k (many_units h) = here refl (or_right (eqb p.count 0) _ (lt-ltb 8 p.count h))
  plan_from k (no_width u l e) = there (here refl (bad_width_lem u p.count l (or_left _ _ (eq-eqb (width p u) 0 e))))
  plan_from k (wide u l h) = there (here refl (bad_width_lem u p.count l (or_right (eqb (width p u) 0) _ (lt-ltb 256 (width p u) h))))
  plan_from k (other_page h₁ h₄ h₈ h₁₆) = there (there (here refl (bad_page_lem h₁ h₄ h₈ h₁₆)))

  -- a plan that none of them refuses
  good_is : GoodPlan p → PlanOk p
  unfolding start_number
  good_is good = start_says p (go (first (plan_row p)) refl)
    where
      go : (n : ℕ) → first (plan_row p) ≡ n → first (plan_row p) ≡ 0
      go zero e = e
      go (suc n) e = absurd (good _ (plan_to (first (plan_row p)) (answers (plan_row p) (λ z. absurd (omega (arith, z, e))))))

  is_good : first (plan_row p) ≡ 0 → GoodPlan p
  is_good e n b =
      let h = least refusal_order 1 n (plan_row p) (omega arith) (omega arith, (omega arith, (omega arith, tt))) (plan_from n b) in
      absurd (omega (arith, h.0, ap refusal_order e))

early : (xs ys : List Refusal) (n : ℕ) → first xs ≡ suc n → first (xs ++ ys) ≡ suc n
unfolding first
early [] ys n e = absurd (omega arith)
early (r ∷ xs) ys n e = go r.holds e (early xs ys n)
  where
    go : (t : Bool) → cond t r.number (first xs) ≡ suc n → (first xs ≡ suc n → first (xs ++ ys) ≡ suc n)
        → cond t r.number (first (xs ++ ys)) ≡ suc n
    go true e rest = e
    go false e rest = rest e

is_false : (t : Bool) → ¬ (t ≡ true) → t ≡ false
is_false true h = absurd (h refl)
is_false false h = refl

is_true : (t : Bool) → ¬ (t ≡ false) → t ≡ true
is_true true h = refl
is_true false h = absurd (h refl)

-- ---- the phase, and a foreign marker
cold_is : (phase : Phase) → is_cold (job_of phase) ≡ true → phase ≡ Cold
cold_is Cold h = refl
cold_is Ready h = absurd (false≢true h)
cold_is (Writing u made) h = absurd (false≢true h)
cold_is (Recovering u made way) h = absurd (false≢true h)
cold_is (Grouping i made) h = absurd (false≢true h)

ready_is : (phase : Phase) → is_ready (job_of phase) ≡ true → phase ≡ Ready
ready_is Cold h = absurd (false≢true h)
ready_is Ready h = refl
ready_is (Writing u made) h = absurd (false≢true h)
ready_is (Recovering u made way) h = absurd (false≢true h)
ready_is (Grouping i made) h = absurd (false≢true h)

not_cold_to : (phase : Phase) → not (is_cold (job_of phase)) ≡ true → ¬ (phase ≡ Cold)
not_cold_to phase h e = true≢false (sym h ∙ ap (λ (q : Phase). not (is_cold (job_of q))) e)

not_cold_from : (phase : Phase) → ¬ (phase ≡ Cold) → not (is_cold (job_of phase)) ≡ true
not_cold_from Cold h = absurd (h refl)
not_cold_from Ready h = refl
not_cold_from (Writing u made) h = refl
not_cold_from (Recovering u made way) h = refl
not_cold_from (Grouping i made) h = refl

not_ready_to : (phase : Phase) → not (is_ready (job_of phase)) ≡ true → ¬ (phase ≡ Ready)
not_ready_to phase h e = true≢false (sym h ∙ ap (λ (q : Phase). not (is_ready (job_of q))) e)

not_ready_from : (phase : Phase) → ¬ (phase ≡ Ready) → not (is_ready (job_of phase)) ≡ true
not_ready_from Cold h = refl
not_ready_from Ready h = absurd (h refl)
not_ready_from (Writing u made) h = refl
not_ready_from (Recovering u made way) h = refl
not_ready_from (Grouping i made) h = refl

foreign_is : (m : ℕ) → is_foreign m ≡ true → 8 ≤ m
foreign_is m h =
    elim (order m 8) [
      | below l ↦ absurd (true≢false (sym h ∙ not_foreign m (omega arith)))
      | above l ↦ l
    ]

is_foreign_lem : (m : ℕ) → 8 ≤ m → is_foreign m ≡ true
is_foreign_lem m h = le-leb FOREIGN m (omega arith)

-- ---- 3 and 4
module _ (d : Device) (image : List ℕ) where
  abbrev p : Plan
  p = d.plan

  abbrev Four : Type 0
  Four = BadDevice d image 4

  -- a group phase
  module _ (i made : ℕ) (now : d.phase ≡ Grouping i made) where
    abbrev some : Bool
    some = leb (write_total (width p (write_at p d.payload i).unit)) made

    group_to : PlanOk p → GoodPlan p → bad_write p d.payload i || some ≡ true → (t : Bool) → given p d.payload ≡ t → Four
    unfolding bad_write
    group_to ok good h false q =
        grouping_none i made good now (λ g ms gives. true≢false (sym (told_given p ok gives).1 ∙ q))
    group_to ok good h true q =
        let told = given_told p ok d.payload q in
        let many = writes_count p ok told.gives in
        elim (order i (length (writes p d.payload))) [
          | below l ↦
              either Four (bad_write p d.payload i) some
              (either Four (not p.grouped) _ (λ x. grouping_alone i made now (not-true _ x))
              (either Four (not (given p d.payload)) _ (λ x. absurd (true≢false (sym q ∙ not-true _ x)))
              (λ x. absurd (omega (arith, l, leb-true (length (writes p d.payload)) i x)))))
              (λ x. grouping_made i made _ told.g _ told.ms good now told.gives (write_told p ok told.gives i l) (leb-true _ made x))
              h
          | above l ↦ grouping_past i made told.g told.ms good now told.gives (omega (arith, many))
        ]

  job_to : PlanOk p → GoodPlan p → (phase : Phase) → d.phase ≡ phase → bad_job p d.payload (job_of phase) ≡ true → Four
  unfolding bad_job
  job_to ok good Cold now h = absurd (false≢true h)
  job_to ok good Ready now h = absurd (false≢true h)
  job_to ok good (Grouping i made) now h = group_to i made now ok good h (given p d.payload) refl
  job_to ok good (Writing u made) now h =
      either Four (leb p.count u) (leb (write_total (width p u)) made)
      (λ q. writing_no_unit u made now (leb-true p.count u q))
      (λ q. writing_made u made now (leb-true (write_total (width p u)) made q))
      h
  job_to ok good (Recovering u made way) now h =
      either Four (leb p.count u) (leb (cleanup_total (width p u)) made)
      (λ q. cleaning_no_unit u made way now (leb-true p.count u q))
      (λ q. cleaning_made u made way now (leb-true (cleanup_total (width p u)) made q))
      h

  -- the row of every device call behind the plan's
  abbrev late_row : List Refusal
  late_row = 3 when ltb (length image) (total p) ∷ 4 when bad_job p d.payload (job_of d.phase) ∷ []

  late_to : PlanOk p → GoodPlan p → (k : ℕ) → Says k late_row → BadDevice d image k
  late_to ok good k (here e h) = number_is (BadDevice d image) 3 k e (short (ltb-true (length image) (total p) h))
  late_to ok good k (there (here e h)) = number_is (BadDevice d image) 4 k e (job_to ok good d.phase refl h)
  late_to ok good k (there (there q)) = absurd q

  device_to : PlanOk p → GoodPlan p → (k : ℕ) → Says k (device_row (view d image)) → BadDevice d image k
  device_to ok good k s = says_split (BadDevice d image k) k (plan_row p) late_row (λ q. plan (plan_to p k q)) (late_to ok good k) s

  four : bad_job p d.payload (job_of d.phase) ≡ true → Says 4 (device_row (view d image))
  four h = says_right 4 (plan_row p) late_row (there (here refl h))

  device_from : (k : ℕ) → BadDevice d image k → Says k (device_row (view d image))
  unfolding bad_job bad_write
  device_from k (plan q) = says_left k (plan_row p) late_row (plan_from p k q)
  device_from k (short h) = says_right 3 (plan_row p) late_row (here refl (lt-ltb (length image) (total p) h))
  device_from k (writing_no_unit u made now h) = four (rw now (or_left _ _ (le-leb p.count u h)))
  device_from k (writing_made u made now h) =
      four (rw now (or_right (leb p.count u) _ (le-leb (write_total (width p u)) made h)))
  device_from k (cleaning_no_unit u made way now h) = four (rw now (or_left _ _ (le-leb p.count u h)))
  device_from k (cleaning_made u made way now h) =
      four (rw now (or_right (leb p.count u) _ (le-leb (cleanup_total (width p u)) made h)))
  device_from k (grouping_alone i made now e) = four (rw now (or_left _ _ (or_left _ _ (ap not e))))
  device_from k (grouping_none i made good now none) =
      let no : given p d.payload ≡ false = is_false _ (λ e. let t = given_told p (good_is p good) d.payload e in none t.g t.ms t.gives) in
      four (rw now (or_left _ _ (or_right (not p.grouped) _ (or_left _ _ (ap not no)))))
  device_from k (grouping_past i made g ms good now gives l) =
      let many = writes_count p (good_is p good) gives in
      four (rw now (or_left _ _ (or_right (not p.grouped) _ (or_right (not (given p d.payload)) _
      (le-leb (length (writes p d.payload)) i (omega (arith, many)))))))
  device_from k (grouping_made i made u g bytes ms good now gives of l) =
      let t = told_write p (good_is p good) gives of in
      four (rw now (or_right (bad_write p d.payload i) _
      (le-leb (write_total (width p (write_at p d.payload i).unit)) made (omega (arith, ap (width p) t.0)))))

  rising : (row : List Refusal) → Rising 40 row → Rising 1 (device_row (view d image) ++ row)
  rising row rise = (omega arith, (omega arith, (omega arith, (omega arith, (omega arith, rise)))))

  -- what a row behind the plan's says is asked only where the plan is good
  given_by : (Bad : ℕ → Type 0) (row : List Refusal) → ((k : ℕ) → BadDevice d image k → Bad k) → ((k : ℕ) → Says k row → Bad k)
      → ¬ (first (device_row (view d image) ++ row) ≡ 0) → Bad (first (device_row (view d image) ++ row))
  unfolding start_number
  given_by Bad row up to h = go (first (plan_row p)) refl
    where
      whole : List Refusal
      whole = device_row (view d image) ++ row

      go : (n : ℕ) → first (plan_row p) ≡ n → Bad (first (device_row (view d image) ++ row))
      go zero e =
          says_split (Bad (first (device_row (view d image) ++ row))) _ (device_row (view d image)) row
          (λ q. up _ (device_to (start_says p e) (is_good p e) _ q)) (to _) (answers (device_row (view d image) ++ row) h)
      go (suc n) e =
          let here_is : first (device_row (view d image) ++ row) ≡ first (plan_row p) = early (plan_row p) (late_row ++ row) n e ∙ sym e in
          subst Bad (sym here_is)
          (up _ (plan (plan_to p (first (plan_row p)) (answers (plan_row p) (λ z. absurd (omega (arith, z, e)))))))

  device_lowest : Lowest (BadDevice d image) (first (device_row (view d image)))
  device_lowest =
      earliest refusal_order (BadDevice d image) (device_row (view d image)) (rising [] tt)
      (given_by (BadDevice d image) [] (λ k b. b) (λ k s. absurd s)) device_from

  -- ---- a call's row is the device's, and what is behind it
  behind : (Bad : ℕ → Type 0) (row : List Refusal) → Rising 40 row → ((k : ℕ) → BadDevice d image k → Bad k)
      → ((k : ℕ) → Says k row → Bad k) → ((k : ℕ) → Bad k → Says k (device_row (view d image) ++ row))
      → Lowest Bad (first (device_row (view d image) ++ row))
  behind Bad row rise up to from =
      earliest refusal_order Bad (device_row (view d image) ++ row) (rising row rise) (given_by Bad row up to) from

  front : (k : ℕ) (row : List Refusal) → BadDevice d image k → Says k (device_row (view d image) ++ row)
  front k row b = says_left k (device_row (view d image)) row (device_from k b)

  back : (k : ℕ) (row : List Refusal) → Says k row → Says k (device_row (view d image) ++ row)
  back k row s = says_right k (device_row (view d image)) row s

  -- ---- cut
  cut_lowest : (bytes : List ℕ) → Lowest (BadCut d image bytes) (cut_number (view d image) (length bytes))
  unfolding cut_number
  cut_lowest bytes = behind (BadCut d image bytes) row (omega arith, tt) (λ k b. bad.BadCut.device b) to from
    where
      row : List Refusal
      row = 18 when not (eqb (length bytes) p.page) ∷ []

      to : (k : ℕ) → Says k row → BadCut d image bytes k
      to k (here e h) = number_is (BadCut d image bytes) 18 k e (other_size (eqb-false (length bytes) p.page (not-true _ h)))
      to k (there q) = absurd q

      from : (k : ℕ) → BadCut d image bytes k → Says k (device_row (view d image) ++ row)
      from k (bad.BadCut.device b) = front k row b
      from k (other_size h) = back 18 row (here refl (rw (ne_eqb (length bytes) p.page h)))

  -- ---- format and step
  format_lowest : Lowest (BadFormat d image) (format_number (view d image))
  unfolding format_number
  format_lowest = behind (BadFormat d image) row (omega arith, tt) (λ k b. bad.BadFormat.device b) to from
    where
      row : List Refusal
      row = 5 when not (is_cold (job_of d.phase)) ∷ []

      to : (k : ℕ) → Says k row → BadFormat d image k
      to k (here e h) = number_is (BadFormat d image) 5 k e (bad.BadFormat.phase (not_cold_to d.phase h))
      to k (there q) = absurd q

      from : (k : ℕ) → BadFormat d image k → Says k (device_row (view d image) ++ row)
      from k (bad.BadFormat.device b) = front k row b
      from k (bad.BadFormat.phase h) = back 5 row (here refl (not_cold_from d.phase h))

  step_lowest : Lowest (BadStep d image) (step_number (view d image))
  unfolding step_number
  step_lowest = behind (BadStep d image) row (omega arith, tt) (λ k b. bad.BadStep.device b) to from
    where
      row : List Refusal
      row = 5 when (is_cold (job_of d.phase) || is_ready (job_of d.phase)) ∷ []

      to : (k : ℕ) → Says k row → BadStep d image k
      to k (here e h) =
          number_is (BadStep d image) 5 k e
          (either (BadStep d image 5) (is_cold (job_of d.phase)) (is_ready (job_of d.phase))
          (λ q. bad.BadStep.cold (cold_is d.phase q))
          (λ q. bad.BadStep.ready (ready_is d.phase q))
          h)
      to k (there q) = absurd q

      from : (k : ℕ) → BadStep d image k → Says k (device_row (view d image) ++ row)
      from k (bad.BadStep.device b) = front k row b
      from k (bad.BadStep.cold e) = back 5 row (here refl (rw e))
      from k (bad.BadStep.ready e) = back 5 row (here refl (rw e))

  -- ---- wake
  abbrev mark : ℕ → ℕ
  mark u = get p image u marker

  foreign_to : (n : ℕ) → n ≤ p.count → any_foreign mark n ≡ true → BadWake d image 14
  unfolding any_foreign get
  foreign_to zero l h = absurd (false≢true h)
  foreign_to (suc n) l h =
      either (BadWake d image 14) (is_foreign (mark n)) (any_foreign mark n)
      (λ q. foreign n (omega arith) (foreign_is (mark n) q))
      (foreign_to n (omega arith))
      h

  foreign_from : (u n : ℕ) → u < n → 8 ≤ mark u → any_foreign mark n ≡ true
  unfolding any_foreign
  foreign_from u zero l h = absurd (omega arith)
  foreign_from u (suc n) l h =
      elim (same u n) [
        | equal e ↦ or_left (is_foreign (mark n)) _ (is_foreign_lem (mark n) (rw e at h))
        | differ q ↦ or_right (is_foreign (mark n)) _ (foreign_from u n (omega arith) h)
      ]

  wake_lowest : Lowest (BadWake d image) (wake_number (view d image))
  unfolding wake_number get
  wake_lowest = behind (BadWake d image) row (omega arith, (omega arith, tt)) (λ k b. bad.BadWake.device b) to from
    where
      row : List Refusal
      row = 5 when not (is_cold (job_of d.phase)) ∷ 14 when any_foreign mark p.count ∷ []

      to : (k : ℕ) → Says k row → BadWake d image k
      to k (here e h) = number_is (BadWake d image) 5 k e (bad.BadWake.phase (not_cold_to d.phase h))
      to k (there (here e h)) = number_is (BadWake d image) 14 k e (foreign_to p.count (omega arith) h)
      to k (there (there q)) = absurd q

      from : (k : ℕ) → BadWake d image k → Says k (device_row (view d image) ++ row)
      from k (bad.BadWake.device b) = front k row b
      from k (bad.BadWake.phase h) = back 5 row (here refl (not_cold_from d.phase h))
      from k (bad.BadWake.foreign u l h) = back 14 row (there (here refl (foreign_from u p.count l h)))

  -- the group record
  record_to : (u : ℕ) → is_record p u ≡ true → (p.grouped ≡ true) × (u ≡ p.count - 1)
  record_to u h =
      let t = and_true p.grouped _ h in
      (t.0, eqb-true u (last p) t.1)

  record_from : (u : ℕ) → p.grouped ≡ true → u ≡ p.count - 1 → is_record p u ≡ true
  record_from u e h = rw e (eq-eqb u (last p) h)

  -- a member whose marker isn't OK
  record Dirty (xs : List Write) : Type 0 where
    pub unit : ℕ
    pub has : Has unit xs
    pub bad : ¬ (get p image unit marker ≡ 1)

  -- ---- read and begin
  module _ (u : ℕ) where
    abbrev off : Bool
    off = not (is_ready (job_of d.phase))

    abbrev bad_mark : Bool
    bad_mark = not (eqb (mark u) OK)

    mark_to : bad_mark ≡ true → ¬ (mark u ≡ 1)
    mark_to h e = eqb-false (mark u) OK (not-true _ h) e

    mark_from : ¬ (mark u ≡ 1) → bad_mark ≡ true
    mark_from h = rw (ne_eqb (mark u) OK h)

  module _ (role : Role) (u : ℕ) where
    abbrev unseen : Bool
    unseen = not (may_see p.rights role u)

    abbrev unwritable : Bool
    unwritable = not (may_write p.rights role u)

    see_to : unseen ≡ true → ¬ MaySee p.rights role u
    see_to h m = true≢false (sym (may_see_lem p.rights role u m) ∙ not-true _ h)

    see_from : ¬ MaySee p.rights role u → unseen ≡ true
    see_from h = ap not (not_seen p.rights role u h)

    write_to : unwritable ≡ true → ¬ MayWrite p.rights role u
    write_to h m = true≢false (sym (may_write_lem p.rights role u m) ∙ not-true _ h)

    write_from : ¬ MayWrite p.rights role u → unwritable ≡ true
    write_from h = ap not (not_written p.rights role u h)

    abbrev Read : ℕ → Type 0
    Read = BadRead d image role u

    read_lowest : Lowest Read (read_number (view d image) role u)
    unfolding read_number get
    read_lowest = behind Read row (omega arith, (omega arith, (omega arith, (omega arith, tt)))) (λ k b. bad.BadRead.device b) to from
      where
        row : List Refusal
        row = 5 when off u ∷ 6 when leb p.count u ∷ 22 when unseen ∷ 8 when bad_mark u ∷ []

        to : (k : ℕ) → Says k row → Read k
        to k (here e h) = number_is Read 5 k e (bad.BadRead.phase (not_ready_to d.phase h))
        to k (there (here e h)) = number_is Read 6 k e (bad.BadRead.unit (leb-true p.count u h))
        to k (there (there (here e h))) = number_is Read 22 k e (bad.BadRead.hidden (see_to h))
        to k (there (there (there (here e h)))) = number_is Read 8 k e (bad.BadRead.mark (mark_to u h))
        to k (there (there (there (there q)))) = absurd q

        from : (k : ℕ) → Read k → Says k (device_row (view d image) ++ row)
        from k (bad.BadRead.device b) = front k row b
        from k (bad.BadRead.phase h) = back 5 row (here refl (not_ready_from d.phase h))
        from k (bad.BadRead.unit h) = back 6 row (there (here refl (le-leb p.count u h)))
        from k (bad.BadRead.hidden h) = back 22 row (there (there (here refl (see_from h))))
        from k (bad.BadRead.mark h) = back 8 row (there (there (there (here refl (mark_from u h)))))

    module _ (payload : List ℕ) where
      abbrev Bad : ℕ → Type 0
      Bad = BadBegin d image role u payload

      begin_lowest : Lowest Bad (begin_number (view d image) role u (length payload))
      unfolding begin_number get
      begin_lowest =
          behind Bad row (omega arith, (omega arith, (omega arith, (omega arith, (omega arith, (omega arith, tt))))))
          (λ k b. bad.BadBegin.as_read (bad.BadRead.device b)) to from
        where
          row : List Refusal
          row =
              5 when off u ∷ 6 when leb p.count u ∷ 20 when is_record p u ∷ 22 when unwritable
              ∷ 7 when not (eqb (length payload) (width p u)) ∷ 8 when bad_mark u ∷ []

          to : (k : ℕ) → Says k row → Bad k
          to k (here e h) = number_is Bad 5 k e (bad.BadBegin.as_read (bad.BadRead.phase (not_ready_to d.phase h)))
          to k (there (here e h)) = number_is Bad 6 k e (bad.BadBegin.as_read (bad.BadRead.unit (leb-true p.count u h)))
          to k (there (there (here e h))) = number_is Bad 20 k e (let t = record_to u h in bad.BadBegin.the_record t.0 t.1)
          to k (there (there (there (here e h)))) = number_is Bad 22 k e (bad.BadBegin.unwritable (write_to h))
          to k (there (there (there (there (here e h))))) = number_is Bad 7 k e (size (eqb-false (length payload) (width p u) (not-true _ h)))
          to k (there (there (there (there (there (here e h)))))) = number_is Bad 8 k e (bad.BadBegin.as_read (bad.BadRead.mark (mark_to u h)))
          to k (there (there (there (there (there (there q)))))) = absurd q

          from : (k : ℕ) → Bad k → Says k (device_row (view d image) ++ row)
          from k (bad.BadBegin.as_read (bad.BadRead.device b)) = front k row b
          from k (bad.BadBegin.as_read (bad.BadRead.phase h)) = back 5 row (here refl (not_ready_from d.phase h))
          from k (bad.BadBegin.as_read (bad.BadRead.unit h)) = back 6 row (there (here refl (le-leb p.count u h)))
          from k (bad.BadBegin.as_read (bad.BadRead.hidden h)) =
              back 22 row (there (there (there (here refl (write_from (λ m. h (writes_too m)))))))
          from k (bad.BadBegin.as_read (bad.BadRead.mark h)) = back 8 row (there (there (there (there (there (here refl (mark_from u h)))))))
          from k (size h) = back 7 row (there (there (there (there (here refl (rw (ne_eqb (length payload) (width p u) h)))))))
          from k (bad.BadBegin.the_record e h) = back 20 row (there (there (here refl (record_from u e h))))
          from k (bad.BadBegin.unwritable h) = back 22 row (there (there (there (here refl (write_from h)))))

    abbrev Total : ℕ → Type 0
    Total = BadTotal d image role u

    total_lowest : Lowest Total (total_number (view d image) role u)
    unfolding total_number get
    total_lowest =
        behind Total row (omega arith, (omega arith, (omega arith, (omega arith, (omega arith, tt)))))
        (λ k b. bad.BadTotal.as_read (bad.BadRead.device b)) to from
      where
        row : List Refusal
        row = 5 when off u ∷ 6 when leb p.count u ∷ 22 when unseen ∷ 8 when bad_mark u ∷ 16 when not (eqb (width p u) 8) ∷ []

        to : (k : ℕ) → Says k row → Total k
        to k (here e h) = number_is Total 5 k e (bad.BadTotal.as_read (bad.BadRead.phase (not_ready_to d.phase h)))
        to k (there (here e h)) = number_is Total 6 k e (bad.BadTotal.as_read (bad.BadRead.unit (leb-true p.count u h)))
        to k (there (there (here e h))) = number_is Total 22 k e (bad.BadTotal.as_read (bad.BadRead.hidden (see_to h)))
        to k (there (there (there (here e h)))) = number_is Total 8 k e (bad.BadTotal.as_read (bad.BadRead.mark (mark_to u h)))
        to k (there (there (there (there (here e h))))) =
            number_is Total 16 k e (bad.BadTotal.other_width (eqb-false (width p u) 8 (not-true _ h)))
        to k (there (there (there (there (there q))))) = absurd q

        from : (k : ℕ) → Total k → Says k (device_row (view d image) ++ row)
        from k (bad.BadTotal.as_read (bad.BadRead.device b)) = front k row b
        from k (bad.BadTotal.as_read (bad.BadRead.phase h)) = back 5 row (here refl (not_ready_from d.phase h))
        from k (bad.BadTotal.as_read (bad.BadRead.unit h)) = back 6 row (there (here refl (le-leb p.count u h)))
        from k (bad.BadTotal.as_read (bad.BadRead.hidden h)) = back 22 row (there (there (here refl (see_from h))))
        from k (bad.BadTotal.as_read (bad.BadRead.mark h)) = back 8 row (there (there (there (here refl (mark_from u h)))))
        from k (bad.BadTotal.other_width h) = back 16 row (there (there (there (there (here refl (rw (ne_eqb (width p u) 8 h)))))))

  -- ---- ride
  module _ (turns : ℕ) where
    abbrev Ride : ℕ → Type 0
    Ride = BadRide d image turns

    abbrev large : Bool
    large = ltb 18446744073709551615 (amount (held_in d image 0) + turns)

    ride_first : First ride_order Ride (ride_number (view d image) (held_in d image 0) turns)
    unfolding ride_number get
    ride_first =
        earliest ride_order Ride (device_row (view d image) ++ row)
        (omega arith, (omega arith, (omega arith, (omega arith, (omega arith, (omega arith, (omega arith, (omega arith, (omega arith, (omega arith, tt))))))))))
        (given_by Ride row (λ k b. bad.BadRide.device b) to) from
      where
        row : List Refusal
        row = 5 when off 0 ∷ 16 when not (eqb (width p 0) 8) ∷ 20 when is_record p 0 ∷ 8 when bad_mark 0 ∷ 15 when large ∷ []

        to : (k : ℕ) → Says k row → Ride k
        to k (here e h) = number_is Ride 5 k e (bad.BadRide.phase (not_ready_to d.phase h))
        to k (there (here e h)) = number_is Ride 16 k e (bad.BadRide.other_width (eqb-false (width p 0) 8 (not-true _ h)))
        to k (there (there (here e h))) = number_is Ride 20 k e (let t = record_to 0 h in bad.BadRide.the_record t.0 t.1)
        to k (there (there (there (here e h)))) = number_is Ride 8 k e (bad.BadRide.mark (mark_to 0 h))
        to k (there (there (there (there (here e h))))) =
            number_is Ride 15 k e
            (bad.BadRide.large (omega (arith, ltb-true 18446744073709551615 (amount (held_in d image 0) + turns) h, held_amount p image 0)))
        to k (there (there (there (there (there q))))) = absurd q

        from : (k : ℕ) → Ride k → Says k (device_row (view d image) ++ row)
        from k (bad.BadRide.device b) = front k row b
        from k (bad.BadRide.phase h) = back 5 row (here refl (not_ready_from d.phase h))
        from k (bad.BadRide.other_width h) = back 16 row (there (here refl (rw (ne_eqb (width p 0) 8 h))))
        from k (bad.BadRide.the_record e h) = back 20 row (there (there (here refl (record_from 0 e h))))
        from k (bad.BadRide.mark h) = back 8 row (there (there (there (here refl (mark_from 0 h)))))
        from k (bad.BadRide.large h) =
            back 15 row
            (there (there (there (there (here refl
            (lt-ltb 18446744073709551615 (amount (held_in d image 0) + turns) (omega (arith, h, held_amount p image 0))))))))

  -- ---- paid ride
  module _ (turns : ℕ) where
    abbrev Pay : ℕ → Type 0
    Pay = BadPaid d image turns

    abbrev many : ℕ → ℕ → Bool
    many u more = ltb 18446744073709551615 (amount (held_in d image u) + more)

    abbrev unwide : ℕ → Bool
    unwide u = not (eqb (width p u) 8)

    abbrev bad_marks : Bool
    bad_marks = bad_mark (last p) || (bad_mark 0 || bad_mark 1)

    abbrev no_room : Bool
    no_room = not p.grouped || ltb (width p (last p)) 19

    till_to : no_till p ≡ true → Pay 16
    till_to =
        either (Pay 16) (leb p.count 1) _ (λ h. bad.BadPaid.absent (leb-true p.count 1 h))
        (either (Pay 16) (unwide 0) (unwide 1)
        (λ h. bad.BadPaid.other_turns (eqb-false (width p 0) 8 (not-true _ h)))
        (λ h. bad.BadPaid.other_cents (eqb-false (width p 1) 8 (not-true _ h))))

    room_to : no_room ≡ true → Pay 21
    room_to =
        either (Pay 21) (not p.grouped) _ (λ h. bad.BadPaid.no_record (not-true _ h))
        (λ h. bad.BadPaid.narrow (last p) refl (ltb-true (width p (last p)) 19 h))

    marks_to : bad_marks ≡ true → Pay 8
    unfolding get
    marks_to =
        either (Pay 8) (bad_mark (last p)) _ (λ h. bad.BadPaid.record_mark (last p) refl (mark_to (last p) h))
        (either (Pay 8) (bad_mark 0) (bad_mark 1) (λ h. bad.BadPaid.turns_mark (mark_to 0 h)) (λ h. bad.BadPaid.cents_mark (mark_to 1 h)))

    many_to : many 0 turns || many 1 (price turns) ≡ true → Pay 15
    many_to =
        either (Pay 15) (many 0 turns) (many 1 (price turns))
        (λ h. bad.BadPaid.many_turns (omega (arith, ltb-true 18446744073709551615 (amount (held_in d image 0) + turns) h, held_amount p image 0)))
        (λ h. bad.BadPaid.many_cents (omega (arith, ltb-true 18446744073709551615 (amount (held_in d image 1) + price turns) h, held_amount p image 1)))

    paid_first : First ride_order Pay (paid_number (view d image) (held_in d image 0) (held_in d image 1) turns)
    unfolding paid_number get
    paid_first =
        earliest ride_order Pay (device_row (view d image) ++ row)
        (omega arith, (omega arith, (omega arith, (omega arith, (omega arith, (omega arith, (omega arith, (omega arith, (omega arith, (omega arith, (omega arith, tt)))))))))))
        (given_by Pay row (λ k b. bad.BadPaid.device b) to) from
      where
        row : List Refusal
        row =
            5 when off 0 ∷ 16 when no_till p ∷ 20 when is_record p 1 ∷ 21 when no_room ∷ 8 when bad_marks
            ∷ 15 when (many 0 turns || many 1 (price turns)) ∷ []

        to : (k : ℕ) → Says k row → Pay k
        to k (here e h) = number_is Pay 5 k e (bad.BadPaid.phase (not_ready_to d.phase h))
        to k (there (here e h)) = number_is Pay 16 k e (till_to h)
        to k (there (there (here e h))) = number_is Pay 20 k e (let t = record_to 1 h in bad.BadPaid.the_record t.0 t.1)
        to k (there (there (there (here e h)))) = number_is Pay 21 k e (room_to h)
        to k (there (there (there (there (here e h))))) = number_is Pay 8 k e (marks_to h)
        to k (there (there (there (there (there (here e h)))))) = number_is Pay 15 k e (many_to h)
        to k (there (there (there (there (there (there q)))))) = absurd q

        from : (k : ℕ) → Pay k → Says k (device_row (view d image) ++ row)
        from k (bad.BadPaid.device b) = front k row b
        from k (bad.BadPaid.phase h) = back 5 row (here refl (not_ready_from d.phase h))
        from k (bad.BadPaid.absent h) = back 16 row (there (here refl (or_left _ _ (le-leb p.count 1 h))))
        from k (bad.BadPaid.other_turns h) =
            back 16 row (there (here refl (or_right (leb p.count 1) _ (or_left (unwide 0) (unwide 1) (rw (ne_eqb (width p 0) 8 h))))))
        from k (bad.BadPaid.other_cents h) =
            back 16 row (there (here refl (or_right (leb p.count 1) _ (or_right (unwide 0) (unwide 1) (rw (ne_eqb (width p 1) 8 h))))))
        from k (bad.BadPaid.the_record e h) = back 20 row (there (there (here refl (record_from 1 e h))))
        from k (bad.BadPaid.no_record h) = back 21 row (there (there (there (here refl (or_left _ _ (ap not h))))))
        from k (bad.BadPaid.narrow r is h) =
            back 21 row (there (there (there (here refl (or_right (not p.grouped) _ (lt-ltb (width p (last p)) 19 (subst (λ (u : ℕ). width p u < 19) is h)))))))
        from k (bad.BadPaid.record_mark r is h) =
            back 8 row (there (there (there (there (here refl (or_left _ _ (mark_from (last p) (λ e. h (ap mark is ∙ e)))))))))
        from k (bad.BadPaid.turns_mark h) =
            back 8 row (there (there (there (there (here refl (or_right (bad_mark (last p)) _ (or_left (bad_mark 0) (bad_mark 1) (mark_from 0 h))))))))
        from k (bad.BadPaid.cents_mark h) =
            back 8 row (there (there (there (there (here refl (or_right (bad_mark (last p)) _ (or_right (bad_mark 0) (bad_mark 1) (mark_from 1 h))))))))
        from k (bad.BadPaid.many_turns h) =
            back 15 row
            (there (there (there (there (there (here refl (or_left (many 0 turns) (many 1 (price turns))
            (lt-ltb 18446744073709551615 (amount (held_in d image 0) + turns) (omega (arith, h, held_amount p image 0))))))))))
        from k (bad.BadPaid.many_cents h) =
            back 15 row
            (there (there (there (there (there (here refl (or_right (many 0 turns) (many 1 (price turns))
            (lt-ltb 18446744073709551615 (amount (held_in d image 1) + price turns) (omega (arith, h, held_amount p image 1))))))))))

  -- ---- group
  module _ (g : List ℕ) where
    abbrev Group : ℕ → Type 0
    Group = BadGroup d image g

    abbrev ms : List Write
    ms = members p g

    dirty_to : (xs : List Write) → dirty mark xs ≡ true → Dirty xs
    unfolding dirty
    dirty_to [] h = absurd (false≢true h)
    dirty_to (x ∷ xs) h = go (eqb (mark x.unit) OK) refl (dirty_to xs)
      where
        go : (t : Bool) → eqb (mark x.unit) OK ≡ t → (dirty mark xs ≡ true → Dirty xs) → Dirty (x ∷ xs)
        go false q rest = record { unit = x.unit; has = records.Has.here x.bytes; bad = eqb-false (mark x.unit) OK q }
        go true q rest =
            let t = rest (either (dirty mark xs ≡ true) (not (eqb (mark x.unit) OK)) _ (λ z. absurd (true≢false (sym z ∙ ap not q))) (λ z. z) h) in
            record { unit = t.unit; has = records.Has.there x t.has; bad = t.bad }

    dirty_from : {u : ℕ} {xs : List Write} → Has u xs → ¬ (mark u ≡ 1) → dirty mark xs ≡ true
    unfolding dirty
    dirty_from {u} (records.Has.here {ms = rest} payload) h = or_left (not (eqb (mark u) OK)) (dirty mark rest) (ap not (ne_eqb (mark u) OK h))
    dirty_from (records.Has.there {ms = rest} x r) h = or_right (not (eqb (mark x.unit) OK)) (dirty mark rest) (dirty_from r h)

    -- bytes that don't split have no members
    split_if : (t : Bool) → unsplit p g ≡ t → (unsplit p g ≡ true → ⊥) → unsplit p g ≡ false
    split_if true q never = absurd (never q)
    split_if false q never = q

    no_members : unsplit p g ≡ true → members p g ≡ []
    unfolding unsplit members split
    no_members h = ap (λ (n : ℕ). split p n g) (eqb-true (member_count p g) 0 h)

    twice_splits : overlaps p g ≡ true → unsplit p g ≡ false
    unfolding overlaps among twice
    twice_splits h = split_if (unsplit p g) refl (λ q. true≢false (sym h ∙ ap (λ (xs : List Write). twice xs || (p.grouped && among (last p) xs)) (no_members q) ∙ and_no p.grouped))
      where
        and_no : (t : Bool) → t && false ≡ false
        and_no true = refl
        and_no false = refl

    dirty_splits : dirty mark (members p g) ≡ true → unsplit p g ≡ false
    unfolding dirty
    dirty_splits h = split_if (unsplit p g) refl (λ q. true≢false (sym h ∙ ap (dirty mark) (no_members q)))

    group_lowest : Lowest Group (group_number (view d image) g)
    unfolding group_number get
    group_lowest =
        behind Group row (omega arith, (omega arith, (omega arith, (omega arith, (omega arith, tt))))) (λ k b. bad.BadGroup.device b) to from
      where
        row : List Refusal
        row =
            5 when off 0 ∷ 19 when unsplit p g ∷ 20 when overlaps p g ∷ 21 when narrow p g
            ∷ 8 when (bad_mark (last p) || dirty mark (members p g)) ∷ []

        marks : bad_mark (last p) || dirty mark (members p g) ≡ true → Group 8
        marks =
            either (Group 8) (bad_mark (last p)) (dirty mark (members p g))
            (λ h. bad.BadGroup.record_mark (last p) refl (mark_to (last p) h))
            (λ h. let t = dirty_to (members p g) h in
            bad.BadGroup.member_mark (members p g) t.unit (group_told p g (dirty_splits h)) t.has t.bad)

        to : (k : ℕ) → Says k row → Group k
        to k (here e h) = number_is Group 5 k e (bad.BadGroup.phase (not_ready_to d.phase h))
        to k (there (here e h)) = number_is Group 19 k e (bad.BadGroup.unsplit (λ xs is. true≢false (sym h ∙ (told_group p is).0)))
        to k (there (there (here e h))) =
            number_is Group 20 k e (bad.BadGroup.overlaps (members p g) (group_told p g (twice_splits h)) (overlaps_told p g h))
        to k (there (there (there (here e h)))) = number_is Group 21 k e (bad.BadGroup.narrow (narrow_told p g h))
        to k (there (there (there (there (here e h))))) = number_is Group 8 k e (marks h)
        to k (there (there (there (there (there q))))) = absurd q

        from : (k : ℕ) → Group k → Says k (device_row (view d image) ++ row)
        from k (bad.BadGroup.device b) = front k row b
        from k (bad.BadGroup.phase h) = back 5 row (here refl (not_ready_from d.phase h))
        from k (bad.BadGroup.unsplit none) =
            back 19 row (there (here refl (is_true _ (λ e. none (members p g) (group_told p g e)))))
        from k (bad.BadGroup.overlaps xs is o) =
            back 20 row (there (there (here refl (told_overlaps p g (subst (Overlaps p) (sym (told_group p is).1) o)))))
        from k (bad.BadGroup.narrow n) = back 21 row (there (there (there (here refl (told_narrow p g n)))))
        from k (bad.BadGroup.record_mark r is h) =
            back 8 row (there (there (there (there (here refl (or_left _ _ (mark_from (last p) (λ e. h (ap mark is ∙ e)))))))))
        from k (bad.BadGroup.member_mark xs u is has h) =
            back 8 row (there (there (there (there (here refl (or_right (bad_mark (last p)) _
            (ap (dirty mark) (told_group p is).1 ∙ dirty_from has h)))))))

-- ---- a call's number is that of its row
told : (n : ℕ) (d : Device) (image : List ℕ) (o : Outcome) → o.number ≡ 0 → n ≡ (unless_refused n d image o).number
told zero d image o z = sym z
told (suc n) d image o z = refl

started : (n : ℕ) (p : Plan) → n ≡ (start_answer n p).number
started zero p = refl
started (suc n) p = refl

pub refused_exactly : RefusedExactly
unfolding start_number inspect_number calls.start calls.format calls.begin calls.ride calls.group calls.paid_ride calls.step calls.wake calls.cut
refused_exactly d image =
    record {
      start = subst (Lowest (BadPlan d.plan)) (started _ _)
          (lowest (BadPlan d.plan) (plan_row d.plan) (omega arith, (omega arith, (omega arith, tt))) (plan_to d.plan) (plan_from d.plan));
      format = subst (Lowest (BadFormat d image)) (told _ d image _ refl) (format_lowest d image);
      begin = λ role u payload. subst (Lowest (BadBegin d image role u payload)) (told _ d image _ refl) (begin_lowest d image role u payload);
      ride = λ turns. subst (First ride_order (BadRide d image turns)) (told _ d image _ refl) (ride_first d image turns);
      group = λ g. subst (Lowest (BadGroup d image g)) (told _ d image _ refl) (group_lowest d image g);
      paid = λ turns. subst (First ride_order (BadPaid d image turns)) (told _ d image _ refl) (paid_first d image turns);
      step = subst (Lowest (BadStep d image)) (told _ d image _ refl) (step_lowest d image);
      wake = subst (Lowest (BadWake d image)) (told _ d image _ refl) (wake_lowest d image);
      cut = λ bytes. subst (Lowest (BadCut d image bytes)) (told _ d image _ refl) (cut_lowest d image bytes);
      read = read_lowest d image;
      total = total_lowest d image;
      inspect = device_lowest d image;
    }
