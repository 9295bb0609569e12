-- A group that is cut leaves all its members or none: of the ledger, along the group's steps, and whatever is called after them.
use Prim.Native.Nat.{ℕ, zero, suc, ◌+◌, ◌*◌, ◌≤◌, ◌<◌}
use mathlib.Core.Path.{◌≡◌, refl, ap, sym, ◌∙◌, subst, fun_ext}
use mathlib.Core.List.{List, [], ◌∷◌, ◌++◌}
use mathlib.Core.Bool.{Bool, true, false, cond, ◌&&◌, true≢false, false≢true}
use native.Mathlib.Omega.{arith}
use lib.Dec.{eqb, ltb}
use lib.ListN.{replicate}
use borrow.Author.Tests.{ne_eqb, ltb-true, lt-ltb}
use Rattle.model.specs.declared.Plan.{Plan}
use Rattle.model.specs.Plans.{width}
use Rattle.model.specs.Marker.{OK, B, completed, torn_by, marker_left}
use Rattle.model.specs.Layout.{Copy, copy_of}
use Rattle.model.specs.Groups.{Write, write, last, among, twice, members, payload_of, remaining, writes, nth, write_at, is_last_write, overlaps}
use Rattle.model.specs.Refusals.{Job, cold, ready, writing, recovering, grouping, is_cold}
use Rattle.model.specs.Calls.{Outcome}
use Rattle.model.specs.Calls as calls
use Rattle.model.specs.Ledger.{Ledger, Call, begin, ride, step, cut, wake, group, paid, opening, marker_of, judged, told, saving, saving_all, count_with, stepped, was_cut, accepted, fed, after}
use Rattle.model.specs.Ledger as ledger
use Rattle.model.specs.Records.{Splits, none, member, Has, Nth, head, tail}
use Rattle.model.specs.PowerCut.{run, closed_by}
use Rattle.model.specs.Together.{passing, passed_by, passed, asks, later, Together, none, all, Whole, AllOrNone, NoWrite, AllOrNoneAlone}
use Rattle.model.proofs.Compare.{equal, differ, same}
use Rattle.model.proofs.RefusalLaws.{false_or, wake_says}
use Rattle.model.proofs.Tasks.{part}
use Rattle.model.proofs.LedgerLaws.{noted, decides, notes_a, notes_byte, notes_b, saving_same, saving_other}
use Rattle.model.proofs.GroupLaws.{remaining_of, Grouped, group_says, wide_of}
use Rattle.model.proofs.Records.{group_told, among_has}
use Rattle.model.proofs.Keeps.{keeps}
use Rattle.model.proofs.Promise.{Bytes, Promised, not_written, saving_snoc, no_record_lem, ready_same}
use Rattle.model.proofs.Theorem.{along, format_opens, power_cut, ready_copies, saved_before}

-- ---- what all writes that remain save is what the members do
-- a write of what is there
written_again : (f : Bytes) (u : ℕ) (bs : List ℕ) → f u ≡ bs → saving u bs f ≡ f
written_again f u bs e =
    fun_ext (λ v.
    elim (same v u) [
      | equal q ↦ rw q (saving_same u bs f ∙ sym e)
      | differ q ↦ saving_other u v bs f q
    ])

-- each member's new bytes are saved, if no unit is a member twice
saved_last : {ms : List Write} {i : ℕ} {x : Write} (f : Bytes) → twice ms ≡ false → Nth ms i x → saving_all ms f x.unit ≡ x.bytes
unfolding twice saving_all
saved_last f t (head {ms = ms} x) =
    let h = false_or (among x.unit ms) _ t in
    not_written ms (saving x.unit x.bytes f) x.unit h.0 ∙ saving_same x.unit x.bytes f
saved_last f t (tail {ms = ms} y n) =
    saved_last (saving y.unit y.bytes f) (false_or (among y.unit ms) _ t).1 n

nth_unit : (p : Plan) {g : List ℕ} {ms : List Write} {i : ℕ} {x : Write} → Splits p g ms → Nth ms i x → x.unit < p.count
nth_unit p {i = i} none n = elim n [ ]
nth_unit p (member u payload hu size s) (head x) = hu
nth_unit p (member u payload hu size s) (tail y n) = nth_unit p s n

not_among : (u : ℕ) (ms : List Write) → ¬ Has u ms → among u ms ≡ false
not_among u ms never = go (among u ms) refl
  where
    go : (t : Bool) → among u ms ≡ t → among u ms ≡ false
    go true e = absurd (never (among_has u ms e))
    go false e = e

-- ---- what a list of calls saves is what passes in it
saving_append : (xs ys : List Write) (f : Bytes) → saving_all (xs ++ ys) f ≡ saving_all ys (saving_all xs f)
unfolding saving_all
saving_append [] ys f = refl
saving_append (x ∷ xs) ys f = saving_append xs ys (saving x.unit x.bytes f)

module _ (p : Plan) where
  if_passed : (t : Bool) (xs : List Write) (f : Bytes) → cond t (saving_all xs f) f ≡ saving_all (cond t xs []) f
  unfolding saving_all
  if_passed true xs f = refl
  if_passed false xs f = refl

  step_saves : (x : Ledger) (j : Job) → (stepped p x j).saved ≡ saving_all (passing p x completed j) x.saved
  unfolding saving_all
  step_saves x cold = refl
  step_saves x ready = refl
  step_saves x (writing u n) =
      if_passed (ledger.passes_at p x (write u x.payload) (suc n) completed) (write u x.payload ∷ []) x.saved
  step_saves x (recovering u n) = refl
  step_saves x (grouping i n) =
      if_passed (ledger.passes_at p x (write_at p x.payload i) (suc n) completed) (count_with p x.payload i) x.saved

  cut_saves : (x : Ledger) (bytes : List ℕ) (j : Job) → (was_cut p x bytes j).saved ≡ saving_all (passing p x (torn_by bytes) j) x.saved
  unfolding saving_all
  cut_saves x bytes cold = refl
  cut_saves x bytes ready = refl
  cut_saves x bytes (writing u n) =
      if_passed (ledger.passes_at p x (write u x.payload) (suc n) (torn_by bytes)) (write u x.payload ∷ []) x.saved
  cut_saves x bytes (recovering u n) = refl
  cut_saves x bytes (grouping i n) =
      if_passed (ledger.passes_at p x (write_at p x.payload i) (suc n) (torn_by bytes)) (count_with p x.payload i) x.saved

  call_saves : (x : Ledger) (c : Call) → (accepted p x c).saved ≡ saving_all (passed_by p x c) x.saved
  unfolding accepted saving_all
  call_saves x (begin role u payload) = refl
  call_saves x (ride turns) = refl
  call_saves x (group g) = refl
  call_saves x (paid turns) = refl
  call_saves x step = step_saves x x.job
  call_saves x (cut bytes) = cut_saves x bytes x.job
  call_saves x wake = refl

  fed_saves : (x : Ledger) (c : Call) → (fed p x c).saved ≡ saving_all (cond (eqb (told p x c) 0) (passed_by p x c) []) x.saved
  unfolding fed saving_all
  fed_saves x c = go (told p x c)
    where
      go : (n : ℕ) → (ledger.unless_refused n x (accepted p x c)).saved ≡ saving_all (cond (eqb n 0) (passed_by p x c) []) x.saved
      go zero = call_saves x c
      go (suc n) = rw (ne_eqb (suc n) 0 (omega arith))

  list_saves : (cs : List Call) (x : Ledger) → (after p x cs).saved ≡ saving_all (passed p x cs) x.saved
  unfolding after passed saving_all
  list_saves [] x = refl
  list_saves (c ∷ cs) x =
      list_saves cs (fed p x c)
      ∙ ap (saving_all (passed p (fed p x c) cs)) (fed_saves x c)
      ∙ sym (saving_append (cond (eqb (told p x c) 0) (passed_by p x c) []) (passed p (fed p x c) cs) x.saved)

module _ (p : Plan) (g : List ℕ) (l : Ledger) (pr : Promised p l) (gd : Grouped (judged p l) g) where
  abbrev wr : ℕ
  wr = width p (last p)

  whole_is : saving_all (remaining p (payload_of p g)) l.saved ≡ saving_all (members p g) l.saved
  whole_is =
      let grouped = (wide_of p g gd.wide).0 in
      let zero_record : saving_all (members p g) l.saved (last p) ≡ replicate (width p (last p)) 0 =
      not_written (members p g) l.saved (last p) (no_record_lem p g grouped gd.apart) ∙ pr.zeros grouped in
      ap (λ (xs : List Write). saving_all xs l.saved) (remaining_of p g gd.parts)
      ∙ saving_snoc (members p g) l.saved (write (last p) (replicate (width p (last p)) 0))
      ∙ written_again (saving_all (members p g) l.saved) (last p) (replicate (width p (last p)) 0) zero_record

  -- a job after which no store counts
  abbrev late : Job → Bool
  late cold = true
  late ready = true
  late (writing u n) = false
  late (recovering u n) = true
  late (grouping zero n) = ltb (suc (width p (last p))) n
  late (grouping (suc i) n) = true

  -- what is saved: as before the group, or with all its members
  data Either (f : Bytes) : Type 0 where
    before : f ≡ l.saved → Either f
    whole_of : f ≡ saving_all (members p g) l.saved → Either f

  -- on the way: the record's first write can still pass, or cannot any more
  data On (x : Ledger) : Type 0 where
    early : (n : ℕ) → n ≤ suc (width p (last p)) → x.job ≡ grouping 0 n → x.payload ≡ payload_of p g → x.saved ≡ l.saved → On x
    past : late x.job ≡ true → Either x.saved → On x

  either_on : {x : Ledger} → On x → Either x.saved
  either_on (early n hn job pay e) = before e
  either_on (past h e) = e

  -- the record's write
  module _ (x : Ledger) where
    first_width : width p (write_at p x.payload 0).unit ≡ width p (last p)
    unfolding write_at writes nth
    first_width = refl

    all_count : x.payload ≡ payload_of p g → x.saved ≡ l.saved
        → saving_all (count_with p x.payload 0) x.saved ≡ saving_all (remaining p (payload_of p g)) l.saved
    unfolding count_with
    all_count e f = ap (λ (y : List ℕ). saving_all (remaining p y) x.saved) e ∙ ap (saving_all (remaining p (payload_of p g))) f

    -- a store before it passes, and the one at which it does
    module _ (n : ℕ) (hn : n ≤ suc (width p (last p))) (job : x.job ≡ grouping 0 n) (pay : x.payload ≡ payload_of p g)
        (same_saved : x.saved ≡ l.saved) where
      quiet_step : ¬ (n ≡ suc (width p (last p))) → On (noted p x completed)
      quiet_step h =
          elim (same n 0) [
            | equal a ↦
                subst On (sym (notes_a p x (part 0) n (write_at p x.payload 0) job refl a completed))
                (early 1 (omega arith) refl pay same_saved)
            | differ a ↦
                subst On
                (sym (notes_byte p x (part 0) n (write_at p x.payload 0) job refl a (omega (arith, first_width)) (omega (arith, first_width)) completed))
                (early (suc n) (omega arith) refl pay same_saved)
          ]

      quiet_cut : ¬ (n ≡ suc (width p (last p))) → (bytes : List ℕ) → (noted p x (torn_by bytes)).saved ≡ l.saved
      quiet_cut h bytes =
          elim (same n 0) [
            | equal a ↦
                ap (λ (y : Ledger). y.saved) (notes_a p x (part 0) n (write_at p x.payload 0) job refl a (torn_by bytes))
                ∙ same_saved
            | differ a ↦
                ap (λ (y : Ledger). y.saved)
                (notes_byte p x (part 0) n (write_at p x.payload 0) job refl a (omega (arith, first_width)) (omega (arith, first_width)) (torn_by bytes))
                ∙ same_saved
          ]

      passing_step : n ≡ suc (width p (last p)) → On (noted p x completed)
      passing_step h =
          subst On (sym (notes_b p x (part 0) n (write_at p x.payload 0) job refl (omega (arith, first_width)) completed))
          (past (lt-ltb (suc (width p (last p))) (suc n) (omega arith)) (whole_of (all_count pay same_saved ∙ whole_is)))

      passing_cut : n ≡ suc (width p (last p)) → (bytes : List ℕ) → Either (noted p x (torn_by bytes)).saved
      passing_cut h bytes =
          subst Either
          (sym (ap (λ (y : Ledger). y.saved)
          (notes_b p x (part 0) n (write_at p x.payload 0) job refl (omega (arith, first_width)) (torn_by bytes))))
          (either (decides (torn_by bytes) (marker_left (torn_by bytes) (marker_of x (write_at p x.payload 0).unit) B)))
        where
          either : (b : Bool)
              → Either (cond b (saving_all (count_with p x.payload 0) x.saved) x.saved)
          either true = whole_of (all_count pay same_saved ∙ whole_is)
          either false = before same_saved

    -- after it has passed
    late_cond : (a b : Bool) (i n : ℕ) → late (grouping i (suc n)) ≡ true
        → late (cond a (cond b ready (grouping (suc i) 0)) (grouping i (suc n))) ≡ true
    late_cond true true i n h = refl
    late_cond true false i n h = refl
    late_cond false b i n h = h

    same_cond : (a : Bool) → cond a x.saved x.saved ≡ x.saved
    same_cond true = refl
    same_cond false = refl

    late_either : (a b : Bool) (u n : ℕ) → late (cond a (cond b (grouping 1 0) ready) (recovering u n)) ≡ true
    late_either true true u n = refl
    late_either true false u n = refl
    late_either false b u n = refl

    late_step : (j : Job) → x.job ≡ j → late j ≡ true → (late (stepped p x j).job ≡ true) × ((stepped p x j).saved ≡ x.saved)
    unfolding count_with saving_all
    late_step cold e h = (ap late e, refl)
    late_step ready e h = (ap late e, refl)
    late_step (writing u n) e h = absurd (false≢true h)
    late_step (recovering u n) e h = (late_either (eqb (suc n) (width p u + 1)) (ledger.standing p x) u (suc n), refl)
    late_step (grouping zero n) e h =
        let q = ltb-true (suc (width p (last p))) n h in (
          late_cond (eqb (suc n) (2 * width p (write_at p x.payload 0).unit + 3)) (is_last_write p x.payload 0) 0 n (lt-ltb (suc (width p (last p))) (suc n) (omega arith)),
          rw (ne_eqb (suc n) (width p (write_at p x.payload 0).unit + 2) (omega (arith, first_width))),
        )
    late_step (grouping (suc i) n) e h = (
      late_cond (eqb (suc n) (2 * width p (write_at p x.payload (suc i)).unit + 3)) (is_last_write p x.payload (suc i)) (suc i) n refl,
      same_cond (ledger.passes_at p x (write_at p x.payload (suc i)) (suc n) completed),
    )

    late_cut : (bytes : List ℕ) (j : Job) → late j ≡ true → (was_cut p x bytes j).saved ≡ x.saved
    unfolding count_with saving_all
    late_cut bytes cold h = refl
    late_cut bytes ready h = refl
    late_cut bytes (writing u n) h = absurd (false≢true h)
    late_cut bytes (recovering u n) h = refl
    late_cut bytes (grouping zero n) h =
        let q = ltb-true (suc (width p (last p))) n h in
        rw (ne_eqb (suc n) (width p (write_at p x.payload 0).unit + 2) (omega (arith, first_width)))
    late_cut bytes (grouping (suc i) n) h = same_cond (ledger.passes_at p x (write_at p x.payload (suc i)) (suc n) (torn_by bytes))

    -- ---- a step, refused or not, and the cut
    stepping : On x → On (accepted p x step)
    unfolding accepted
    stepping (early n hn job pay e) =
        elim (same n (suc (width p (last p)))) [
          | equal h ↦ passing_step n hn job pay e h
          | differ h ↦ quiet_step n hn job pay e h
        ]
    stepping (past t e) = let h = late_step x.job refl t in past h.0 (subst Either (sym h.1) e)

    cut_cold : (bytes : List ℕ) (j : Job) → late (was_cut p x bytes j).job ≡ true
    cut_cold bytes cold = refl
    cut_cold bytes ready = refl
    cut_cold bytes (writing u n) = refl
    cut_cold bytes (recovering u n) = refl
    cut_cold bytes (grouping i n) = refl

    cutting : (bytes : List ℕ) → On x → On (accepted p x (cut bytes))
    unfolding accepted
    cutting bytes (early n hn job pay e) =
        past (cut_cold bytes x.job)
        (elim (same n (suc (width p (last p)))) [
          | equal h ↦ passing_cut n hn job pay e h bytes
          | differ h ↦ before (quiet_cut n hn job pay e h bytes)
        ])
    cutting bytes (past t e) = past (cut_cold bytes x.job) (subst Either (sym (late_cut bytes x.job t)) e)

    waking : told p x wake ≡ 0 → On x → On (accepted p x wake)
    unfolding accepted told
    waking e (early n hn job pay q) = absurd (cold_not n (sym (wake_says (judged p x) e) ∙ job))
      where
        cold_not : (n : ℕ) → cold ≡ grouping 0 n → ⊥
        cold_not n q = true≢false (ap is_cold q)
    waking e (past t q) = past (late_either (eqb x.marker OK) (ledger.standing p x) x.unit 0) q

    on_call : (c : Call) → (told p x c ≡ 0 → On x → On (accepted p x c)) → On x → On (fed p x c)
    unfolding fed
    on_call c h on = go (told p x c) refl
      where
        go : (n : ℕ) → told p x c ≡ n → On (ledger.unless_refused n x (accepted p x c))
        go zero e = h e on
        go (suc n) e = on

  -- what is saved in the end, but for what later writes replaced
  record Ended (x : Ledger) (cs : List Call) : Type 0 where
    pub kept : Bytes
    pub which : Either kept
    pub same : (u : ℕ) → among u (later p x cs) ≡ false → (after p x cs).saved u ≡ kept u

  -- a call that asks for nothing, or is refused
  goes_on_lem : (c : Call) (cs : List Call) (x : Ledger) → asks c && eqb (told p x c) 0 ≡ false → Ended (fed p x c) cs → Ended x (c ∷ cs)
  unfolding later after
  goes_on_lem c cs x h e =
      record {
        kept = e.kept;
        which = e.which;
        same = λ u r. e.same u (rw h at r);
      }

  -- a call that asks for a write: what is saved then is kept, but where another write passes
  asked : (c : Call) (cs : List Call) (x : Ledger) → asks c ≡ true → On x → (On (fed p x c) → Ended (fed p x c) cs) → Ended x (c ∷ cs)
  unfolding later
  asked c cs x h on more = go (told p x c) refl
    where
      go : (n : ℕ) → told p x c ≡ n → Ended x (c ∷ cs)
      go zero e =
          record {
            kept = x.saved;
            which = either_on on;
            same = λ u r.
                ap (λ (f : Bytes). f u) (list_saves p (c ∷ cs) x)
                ∙ not_written (passed p x (c ∷ cs)) x.saved u (rw (h, e) at r);
          }
      go (suc n) e =
          goes_on_lem c cs x (rw (h, ne_eqb (told p x c) 0 (omega (arith, e)))) (more (on_call x c (λ z. absurd (omega (arith, z, e))) on))

  ended : (cs : List Call) (x : Ledger) → On x → Ended x cs
  unfolding after
  ended [] x on = record { kept = x.saved; which = either_on on; same = λ u r. refl }
  ended (begin role u payload ∷ cs) x on = asked (begin role u payload) cs x refl on (ended cs (fed p x (begin role u payload)))
  ended (ride turns ∷ cs) x on = asked (ride turns) cs x refl on (ended cs (fed p x (ride turns)))
  ended (group gs ∷ cs) x on = asked (group gs) cs x refl on (ended cs (fed p x (group gs)))
  ended (paid turns ∷ cs) x on = asked (paid turns) cs x refl on (ended cs (fed p x (paid turns)))
  ended (step ∷ cs) x on = goes_on_lem step cs x refl (ended cs (fed p x step) (on_call x step (λ e. stepping x) on))
  ended (cut bytes ∷ cs) x on = goes_on_lem (cut bytes) cs x refl (ended cs (fed p x (cut bytes)) (on_call x (cut bytes) (λ e. cutting x bytes) on))
  ended (wake ∷ cs) x on = goes_on_lem wake cs x refl (ended cs (fed p x wake) (on_call x wake (waking x) on))

  -- as the image shows it
  shown : (old new s : Bytes) (replaced : List Write) → ((u : ℕ) → u < p.count → old u ≡ l.saved u)
      → ((u : ℕ) → u < p.count → among u replaced ≡ false → new u ≡ s u) → Either s → Together p (members p g) replaced old new
  unfolding overlaps
  shown old new s replaced held copies (before q) =
      none (λ u hu kept. copies u hu (not_among u replaced kept) ∙ ap (λ (k : Bytes). k u) q ∙ sym (held u hu))
  shown old new s replaced held copies (whole_of q) =
      let t : twice (members p g) ≡ false = (false_or (twice (members p g)) _ gd.apart).0 in
      all
      (λ i x n kept. copies x.unit (nth_unit p (group_told p g gd.parts).splits n) (not_among x.unit replaced kept)
      ∙ ap (λ (k : Bytes). k x.unit) q ∙ saved_last l.saved t n)
      (λ u hu never kept. copies u hu (not_among u replaced kept) ∙ ap (λ (k : Bytes). k u) q
      ∙ not_written (members p g) l.saved u (not_among u (members p g) never) ∙ sym (held u hu))

  opened : told p l (group g) ≡ 0 → On (fed p l (group g))
  unfolding fed accepted
  opened e = rw e (early 0 (omega arith) refl refl refl)

after_append : (p : Plan) (xs ys : List Call) (l : Ledger) → after p l (xs ++ ys) ≡ after p (after p l xs) ys
unfolding after
after_append p [] ys l = refl
after_append p (x ∷ xs) ys l = after_append p xs ys (fed p l x)

-- the closed list in two parts, the first of which ends with the group
regroup : (cs : List Call) (g : List ℕ) (more : List Call) (bytes : List ℕ)
    → closed_by bytes (cs ++ (group g ∷ more)) ≡ (cs ++ (group g ∷ [])) ++ closed_by bytes more
regroup [] g more bytes = refl
regroup (c ∷ cs) g more bytes = ap (λ (xs : List Call). c ∷ xs) (regroup cs g more bytes)

-- the ledger at the group, and on to the end
at_group : (p : Plan) (l : Ledger) (g : List ℕ) → after p l (group g ∷ []) ≡ fed p l (group g)
unfolding after
at_group p l g = refl

pub all_or_none : AllOrNone
unfolding told overlaps
all_or_none d image e cs g a more bytes closes =
    let p : Plan = d.plan in
    let f : Outcome = calls.format d image in
    let opens = format_opens d image e in
    let ok = opens.0 in
    let l : Ledger = after p (opening p) cs in
    let inv = (along p ok image cs (opening p) f opens.1).inv in
    let accepts : told p l (group g) ≡ 0 = sym (keeps p ok image l (run cs f) inv (group g)).answer ∙ a in
    let gd : Grouped (judged p l) g = group_says (judged p l) g accepts in
    let pr : Promised p l = saved_before d image e cs in
    let begun : Ledger = after p (opening p) (cs ++ (group g ∷ [])) in
    let begun_is : begun ≡ fed p l (group g) = after_append p cs (group g ∷ []) (opening p) ∙ at_group p l g in
    let is : after p (opening p) (closed_by bytes (cs ++ (group g ∷ more))) ≡ after p begun (closed_by bytes more) =
    ap (after p (opening p)) (regroup cs g more bytes) ∙ after_append p (cs ++ (group g ∷ [])) (closed_by bytes more) (opening p) in
    let end = ended p g l pr gd (closed_by bytes more) begun (subst (On p g l pr gd) (sym begun_is) (opened p g l pr gd accepts)) in
    let repaired = (power_cut d image e (cs ++ (group g ∷ more)) bytes closes).repaired in
    let held : (c : Copy) (u : ℕ) → u < p.count → copy_of p (run cs f).image u c ≡ l.saved u =
    λ c u hu. ready_copies p ok image l (run cs f) inv gd.job u hu c ∙ ap (λ (k : Bytes). k u) (sym (ready_same p l pr gd.job)) in
    record {
      ms = members p g;
      is_group = group_told p g gd.parts;
      steps = repaired.steps;
      needed = repaired.needed;
      ready = repaired.ready;
      together = λ c.
          shown p g l pr gd (λ u. copy_of p (run cs f).image u c) _ end.kept (later p begun (closed_by bytes more)) (held c)
          (λ u hu kept. repaired.copies u hu c ∙ ap (λ (x : Ledger). x.saved u) is ∙ end.same u kept)
          end.which;
    }

-- ---- where nothing else is asked for
none_later : (p : Plan) (cs : List Call) (x : Ledger) → NoWrite cs → later p x cs ≡ []
unfolding later
none_later p [] x h = refl
none_later p (begin role u payload ∷ cs) x h = absurd h
none_later p (ride turns ∷ cs) x h = absurd h
none_later p (group g ∷ cs) x h = absurd h
none_later p (paid turns ∷ cs) x h = absurd h
none_later p (step ∷ cs) x h = none_later p cs (fed p x step) h
none_later p (cut bytes ∷ cs) x h = none_later p cs (fed p x (cut bytes)) h
none_later p (wake ∷ cs) x h = none_later p cs (fed p x wake) h

closed_none : (bytes : List ℕ) (cs : List Call) → NoWrite cs → NoWrite (closed_by bytes cs)
closed_none bytes [] h = tt
closed_none bytes (begin role u payload ∷ cs) h = h
closed_none bytes (ride turns ∷ cs) h = h
closed_none bytes (group g ∷ cs) h = h
closed_none bytes (paid turns ∷ cs) h = h
closed_none bytes (step ∷ cs) h = closed_none bytes cs h
closed_none bytes (cut other ∷ cs) h = closed_none bytes cs h
closed_none bytes (wake ∷ cs) h = closed_none bytes cs h

pub all_or_none_alone : AllOrNoneAlone
all_or_none_alone d image e cs g a more quiet bytes closes =
    subst
    (λ (xs : List Write).
    Whole d.plan g xs (run cs (calls.format d image)) (run (closed_by bytes (cs ++ (group g ∷ more))) (calls.format d image)))
    (none_later d.plan (closed_by bytes more) (after d.plan (opening d.plan) (cs ++ (group g ∷ []))) (closed_none bytes more quiet))
    (all_or_none d image e cs g a more bytes closes)
