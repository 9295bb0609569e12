-- What the ledger has as saved, by what it has as written: the writes of a standing record are yet to be made.
-- Of the ledger alone; no device and no image. Throughout, pl is the payload, kp what is written and sv what is saved.
use Prim.Native.Nat.{ℕ, zero, suc, ◌+◌, ◌-◌, ◌*◌, ◌≤◌, ◌<◌}
use mathlib.Core.Path.{◌≡◌, refl, ap, sym, ◌∙◌, subst, fun_ext}
use mathlib.Core.List.{List, [], ◌∷◌, ◌++◌}
use mathlib.Core.Bool.{Bool, true, false, cond, ◌||◌, ◌&&◌, true≢false, false≢true}
use native.Mathlib.Omega.{arith}
use lib.Dec.{eqb, leb}
use lib.ListN.{length, get_or, take, drop, replicate, length-append}
use lib.Seq.{take_at}
use borrow.Author.Tests.{leb-false, eqb-false, eq-eqb, ne_eqb, le-leb, lt-leb}
use Rattle.model.specs.declared.Plan.{Plan}
use Rattle.model.specs.Plans.{width}
use Rattle.model.specs.Marker.{OK, B, End, completed, torn_by, marker_left}
use Rattle.model.specs.Groups.{Write, write, last, padded, split, among, twice, members, given, stands, is_record, overlaps, payload_of, member_count, remaining, writes, nth, write_at, is_last_write}
use Rattle.model.specs.Refusals.{Job, cold, ready, writing, recovering, grouping, bad_write, bad_job}
use Rattle.model.specs.Ledger.{Ledger, Call, opening, marker_of, judged, told, saving, saving_all, count_with, accepted, fed}
use Rattle.model.specs.Ledger as ledger
use Rattle.model.specs.PowerCut.{stores_of}
use Rattle.model.proofs.Compare.{below, above, order, Same, equal, differ, same}
use Rattle.model.proofs.RefusalLaws.{PlanOk, false_or, begin_says}
use Rattle.model.proofs.TurnLaws.{ride_says}
use Rattle.model.proofs.PaidLaws.{paid_says}
use Rattle.model.proofs.GroupLaws.{stands_given, given_says, given_is, group_says, splits_same, record_back, writes_more}
use Rattle.model.proofs.Tasks.{Task, alone, part, job_at, task_write, counts_for, follows}
use Rattle.model.proofs.LedgerLaws.{saving_other, at, noted, then, then_held, decides, notes_a, notes_byte, notes_b, notes_ok, notes_copy, notes_settle}

abbrev pub Bytes : Type 0
Bytes = ℕ → List ℕ

abbrev pub resaved : Bytes → Write → Bytes
resaved f x = saving x.unit x.bytes f

-- what the units are to hold, by what they hold
unfoldable pub pending : Plan → Bytes → Bytes
pending p f = cond (stands p (f (last p))) (saving_all (remaining p (padded (f (last p)))) f) f

pending_none : (p : Plan) (f : Bytes) → stands p (f (last p)) ≡ false → pending p f ≡ f
unfolding pending
pending_none p f e = rw (e, pending)

pending_some : (p : Plan) (f : Bytes) (pl : List ℕ) → given p pl ≡ true → padded (f (last p)) ≡ pl → pending p f ≡ saving_all (remaining p pl) f
unfolding pending
pending_some p f pl e q = rw (stands_given p (f (last p)), q, e)

-- ---- writes applied
one_of : (u : ℕ) (x : Write) (xs : List Write) → among u (x ∷ xs) ≡ true → ¬ (u ≡ x.unit) → among u xs ≡ true
unfolding among
one_of u x xs e ne = go (eqb u x.unit) (ne_eqb u x.unit ne) e
  where
    go : (t : Bool) → t ≡ false → t || among u xs ≡ true → among u xs ≡ true
    go true f g = absurd (true≢false f)
    go false f g = g

over_same : (f : Bytes) (x y : Write) → x.unit ≡ y.unit → resaved (resaved f x) y ≡ resaved f y
unfolding saving
over_same f x y e =
    fun_ext (λ v.
    elim (same v y.unit) [
      | equal q ↦ rw (eq-eqb v y.unit q)
      | differ q ↦
          let ne : ¬ (v ≡ x.unit) = λ r. q (r ∙ e) in
          rw (ne_eqb v y.unit q, ne_eqb v x.unit ne)
    ])

over_swap : (f : Bytes) (x y : Write) → ¬ (x.unit ≡ y.unit) → resaved (resaved f x) y ≡ resaved (resaved f y) x
unfolding saving
over_swap f x y ne =
    fun_ext (λ v.
    elim (same v y.unit) [
      | equal q ↦
          let nx : ¬ (v ≡ x.unit) = λ r. ne (sym r ∙ q) in
          rw (eq-eqb v y.unit q, ne_eqb v x.unit nx)
      | differ q ↦ rw (ne_eqb v y.unit q)
    ])

nothing : (u : ℕ) → among u [] ≡ true → ⊥
unfolding among
nothing u e = false≢true e

-- a write is lost under a later one of its unit
pub saving_over : (xs : List Write) (f : Bytes) (x : Write) → among x.unit xs ≡ true → saving_all xs (resaved f x) ≡ saving_all xs f
unfolding saving_all
saving_over [] f x e = absurd (nothing x.unit e)
saving_over (y ∷ ys) f x e =
    elim (same x.unit y.unit) [
      | equal q ↦ ap (saving_all ys) (over_same f x y q)
      | differ q ↦ ap (saving_all ys) (over_swap f x y q) ∙ saving_over ys (resaved f y) x (one_of x.unit y ys e q)
    ]

pub saving_snoc : (xs : List Write) (f : Bytes) (x : Write) → saving_all (xs ++ (x ∷ [])) f ≡ resaved (saving_all xs f) x
unfolding saving_all
saving_snoc [] f x = refl
saving_snoc (y ∷ ys) f x = saving_snoc ys (resaved f y) x

or_right : (t x : Bool) → x ≡ true → t || x ≡ true
or_right true x e = refl
or_right false x e = e

among_snoc : (xs : List Write) (x : Write) → among x.unit (xs ++ (x ∷ [])) ≡ true
unfolding among
among_snoc [] x = rw (eq-eqb x.unit x.unit refl)
among_snoc (y ∷ ys) x = or_right (eqb x.unit y.unit) _ (among_snoc ys x)

among_nth : (xs : List Write) (i : ℕ) → i < length xs → among (nth xs i).unit xs ≡ true
unfolding among nth
among_nth [] i h = absurd (omega arith)
among_nth (x ∷ xs) zero h = rw (eq-eqb x.unit x.unit refl)
among_nth (x ∷ xs) (suc i) h = or_right (eqb (nth xs i).unit x.unit) _ (among_nth xs i (omega arith))

pub drop_nth : (xs : List Write) (i : ℕ) → i < length xs → drop i xs ≡ nth xs i ∷ drop (suc i) xs
unfolding nth
drop_nth [] i h = absurd (omega arith)
drop_nth (x ∷ xs) zero h = refl
drop_nth (x ∷ xs) (suc i) h = drop_nth xs i (omega arith)

-- the last of a list, and those before it
-- the stores of the writes from write i on
pub stores_from : (p : Plan) (payload : List ℕ) (i : ℕ) → i < length (writes p payload)
    → stores_of p (drop i (writes p payload)) ≡ 2 * width p (write_at p payload i).unit + 3 + stores_of p (drop (suc i) (writes p payload))
unfolding stores_of write_at
stores_from p payload i h = ap (stores_of p) (drop_nth (writes p payload) i h)

nth_snoc : (xs : List Write) (x : Write) → nth (xs ++ (x ∷ [])) (length xs) ≡ x
unfolding nth
nth_snoc [] x = refl
nth_snoc (y ∷ ys) x = nth_snoc ys x

nth_before : (xs ys : List Write) (i : ℕ) → i < length xs → nth (xs ++ ys) i ≡ nth xs i
unfolding nth
nth_before [] ys i h = absurd (omega arith)
nth_before (x ∷ xs) ys zero h = refl
nth_before (x ∷ xs) ys (suc i) h = nth_before xs ys i (omega arith)

among_not : (u : ℕ) (xs : List Write) (i : ℕ) → among u xs ≡ false → i < length xs → ¬ (u ≡ (nth xs i).unit)
unfolding among nth
among_not u [] i e h = absurd (omega arith)
among_not u (x ∷ xs) zero e h = eqb-false u x.unit (false_or (eqb u x.unit) (among u xs) e).0
among_not u (x ∷ xs) (suc i) e h = among_not u xs i (false_or (eqb u x.unit) (among u xs) e).1 (omega arith)

pub resaved_same : (f : Bytes) (x : Write) → resaved f x x.unit ≡ x.bytes
unfolding saving
resaved_same f x = rw (eq-eqb x.unit x.unit refl, saving)

pub resaved_other : (f : Bytes) (x : Write) (v : ℕ) → ¬ (v ≡ x.unit) → resaved f x v ≡ f v
unfolding saving
resaved_other f x v e = rw (ne_eqb v x.unit e, saving)

-- a unit that is not among the writes
pub not_written : (xs : List Write) (f : Bytes) (u : ℕ) → among u xs ≡ false → saving_all xs f u ≡ f u
unfolding among saving_all
not_written [] f u e = refl
not_written (x ∷ xs) f u e =
    let h = false_or (eqb u x.unit) _ e in
    not_written xs (resaved f x) u h.1 ∙ saving_other x.unit u x.bytes f (eqb-false u x.unit h.0)

nth_tail : (x : Write) (xs : List Write) (i : ℕ) → nth (x ∷ xs) (suc i) ≡ nth xs i
unfolding nth
nth_tail x xs i = refl

head_of : (p : Plan) (g : List ℕ) → get_or (payload_of p g) 0 0 ≡ member_count p g
unfolding payload_of
head_of p g = refl

pub no_record_lem : (p : Plan) (g : List ℕ) → p.grouped ≡ true → overlaps p g ≡ false → among (last p) (members p g) ≡ false
unfolding overlaps
no_record_lem p g e f =
    let h : p.grouped && among (last p) (members p g) ≡ false = (false_or (twice (members p g)) _ f).1 in
    go p.grouped e h
  where
    go : (t : Bool) → t ≡ true → t && among (last p) (members p g) ≡ false → among (last p) (members p g) ≡ false
    go true a h = h
    go false a h = absurd (false≢true a)

other_unit : (p : Plan) (u : ℕ) → p.grouped ≡ true → is_record p u ≡ false → ¬ (last p ≡ u)
other_unit p u e f = go p.grouped e f
  where
    go : (t : Bool) → t ≡ true → t && eqb u (last p) ≡ false → ¬ (last p ≡ u)
    go true a h = λ q. eqb-false u (last p) h (sym q)
    go false a h = absurd (false≢true a)

-- ---- where a list of calls is
-- as many writes passed as q: those before write i, and write i once its store w + 2 is made
pub data Reached (w i n q : ℕ) : Type 0 where
  ahead : n ≤ suc w → q ≡ i → Reached w i n q
  behind : suc w < n → q ≡ suc i → Reached w i n q

-- in a group: before its record passed, while that stands, and after the zeros passed
pub data PartAt (p : Plan) (i n : ℕ) (pl : List ℕ) (kp sv : Bytes) : Type 0 where
  before : i ≡ 0 → n ≤ suc (width p (last p)) → stands p (kp (last p)) ≡ false → given p pl ≡ true
      → PartAt p i n pl kp sv
  within : (q : ℕ) → Reached (width p (nth (writes p pl) i).unit) i n q → 1 ≤ q → q < length (writes p pl)
      → given p pl ≡ true → kp (last p) ≡ take (width p (last p)) pl
      → sv ≡ saving_all (drop q (writes p pl)) kp → PartAt p i n pl kp sv
  beyond : suc i ≡ length (writes p pl) → suc (width p (nth (writes p pl) i).unit) < n
      → stands p (kp (last p)) ≡ false → PartAt p i n pl kp sv

abbrev pub Point : Plan → Job → List ℕ → Bytes → Bytes → Type 0
Point p cold pl kp sv = Unit
Point p ready pl kp sv = stands p (kp (last p)) ≡ false
Point p (writing u n) pl kp sv = (is_record p u ≡ false) × (stands p (kp (last p)) ≡ false)
Point p (grouping i n) pl kp sv = PartAt p i n pl kp sv
Point p (recovering u n) pl kp sv = Unit

pub record Promise (p : Plan) (j : Job) (pl : List ℕ) (kp sv : Bytes) : Type 0 where
  pub owed : sv ≡ pending p kp
  pub zeros : p.grouped ≡ true → sv (last p) ≡ replicate (width p (last p)) 0
  pub point : Point p j pl kp sv

module _ (p : Plan) (ok : PlanOk p) where
  abbrev r : ℕ
  r = last p

  abbrev wr : ℕ
  wr = width p (last p)

  -- zeros are no record
  pub zeros_fall : stands p (replicate (width p (last p)) 0) ≡ false
  zeros_fall = stands_given p (replicate wr 0) ∙ go (given p (padded (replicate wr 0))) refl
    where
      head : (n m : ℕ) → get_or {A = ℕ} (replicate n 0 ++ replicate m 0) 0 0 ≡ 0
      head zero zero = refl
      head zero (suc m) = refl
      head (suc n) m = refl

      first_is : (g : List ℕ) → get_or (payload_of p g) 0 0 ≡ member_count p g
      first_is g = head_of p g

      go : (t : Bool) → given p (padded (replicate wr 0)) ≡ t → given p (padded (replicate wr 0)) ≡ false
      go true e =
          let v = given_says p (padded (replicate wr 0)) e in
          absurd (v.some (sym (first_is v.g) ∙ ap (λ (x : List ℕ). get_or x 0 0) (sym v.same) ∙ head wr (256 - length (replicate {A = ℕ} wr 0))))
      go false e = e

  -- the writes of a given payload
  module _ (pl : List ℕ) (gv : given p pl ≡ true) where
    abbrev ms : List Write
    ms = split p (get_or pl 0 0) (drop 1 pl)

    abbrev zs : Write
    zs = write (last p) (replicate (width p (last p)) 0)

    writes_are : writes p pl ≡ write r (take wr pl) ∷ (ms ++ (zs ∷ []))
    unfolding writes remaining
    writes_are = refl

    rest_is : remaining p pl ≡ ms ++ (zs ∷ [])
    unfolding remaining
    rest_is = refl

    drop_one : drop 1 (writes p pl) ≡ remaining p pl
    unfolding writes
    drop_one = refl

    members_are : ms ≡ members p (given_says p pl gv).g
    unfolding members payload_of
    members_are =
        let v = given_says p pl gv in
        let z : List ℕ = replicate (256 - length (member_count p v.g ∷ v.g)) 0 in
        ap (λ (x : List ℕ). split p (get_or x 0 0) (drop 1 x)) v.same ∙ splits_same p (member_count p v.g) v.g z v.exactly

    not_member : (i : ℕ) → i < length ms → ¬ (r ≡ (nth ms i).unit)
    not_member i h =
        let v = given_says p pl gv in
        let free : among r (members p v.g) ≡ false = no_record_lem p v.g v.grouped v.apart in
        let free' : among r ms ≡ false = rw members_are free in
        among_not r ms i free' h

    count_writes : length (writes p pl) ≡ suc (suc (length ms))
    count_writes = rw writes_are (omega (arith, length-append ms (zs ∷ [])))

    -- a member
    write_member : (i : ℕ) → 1 ≤ i → suc i < length (writes p pl) → ¬ (r ≡ (nth (writes p pl) i).unit)
    unfolding writes remaining
    write_member zero l h = absurd (omega arith)
    write_member (suc i) l h =
        let le : i < length ms = omega (arith, count_writes) in
        let e : nth (writes p pl) (suc i) ≡ nth ms i = nth_tail (write r (take wr pl)) (ms ++ (zs ∷ [])) i ∙ nth_before ms (zs ∷ []) i le in
        rw e (not_member i le)

    write_zeros : (i : ℕ) → suc i ≡ length (writes p pl) → nth (writes p pl) i ≡ zs
    unfolding writes remaining
    write_zeros zero h = absurd (omega (arith, count_writes))
    write_zeros (suc i) h =
        let e : i ≡ length ms = omega (arith, count_writes) in
        rw e (nth_tail (write r (take wr pl)) (ms ++ (zs ∷ [])) (length ms) ∙ nth_snoc ms zs)

    in_rest : (i : ℕ) → 1 ≤ i → i < length (writes p pl) → among (nth (writes p pl) i).unit (remaining p pl) ≡ true
    unfolding writes nth
    in_rest zero l h = absurd (omega arith)
    in_rest (suc i) l h = among_nth (remaining p pl) i (omega arith)

    record_in_rest : among r (remaining p pl) ≡ true
    record_in_rest = rw rest_is (among_snoc ms zs)

  -- a record stands on a grouped device only
  record_only : (f : Bytes) (x : Write) → is_record p x.unit ≡ false → stands p (f r) ≡ false → stands p (resaved f x r) ≡ false
  record_only f x e h = stands_given p (resaved f x r) ∙ go (given p (padded (resaved f x r))) refl
    where
      go : (t : Bool) → given p (padded (resaved f x r)) ≡ t → given p (padded (resaved f x r)) ≡ false
      go false q = q
      go true q =
          let v = given_says p (padded (resaved f x r)) q in
          let ne : ¬ (r ≡ x.unit) = other_unit p x.unit v.grouped e in
          ap (λ (z : List ℕ). given p (padded z)) (resaved_other f x r ne) ∙ sym (stands_given p (f r)) ∙ h

  saved_one : (pl : List ℕ) (u : ℕ) → counts_for p pl (alone u) ≡ task_write p pl (alone u) ∷ []
  unfolding count_with
  saved_one pl u = refl

  saved_all : (pl : List ℕ) → counts_for p pl (part 0) ≡ remaining p pl
  unfolding count_with
  saved_all pl = refl

  saved_none_lem : (pl : List ℕ) (i : ℕ) → 1 ≤ i → counts_for p pl (part i) ≡ []
  unfolding count_with
  saved_none_lem pl zero h = absurd (omega arith)
  saved_none_lem pl (suc i) h = refl

  at_part : (pl : List ℕ) (i : ℕ) → task_write p pl (part i) ≡ nth (writes p pl) i
  unfolding write_at
  at_part pl i = refl

  at_record : (pl : List ℕ) → nth (writes p pl) 0 ≡ write r (take wr pl)
  unfolding writes nth
  at_record pl = refl

  unit_single : (pl : List ℕ) (u : ℕ) → (task_write p pl (alone u)).unit ≡ u
  unfolding write_at
  unit_single pl u = refl

  saving_one : (x : Write) (f : Bytes) → saving_all (x ∷ []) f ≡ resaved f x
  unfolding saving_all
  saving_one x f = refl

  saving_none : (f : Bytes) → saving_all [] f ≡ f
  unfolding saving_all
  saving_none f = refl

  saving_cons : (x : Write) (xs : List Write) (f : Bytes) → saving_all (x ∷ xs) f ≡ saving_all xs (resaved f x)
  unfolding saving_all
  saving_cons x xs f = refl

  drop_all : (xs : List Write) (n : ℕ) → n ≡ length xs → drop n xs ≡ []
  drop_all [] zero e = refl
  drop_all [] (suc n) e = absurd (omega arith)
  drop_all (x ∷ xs) zero e = absurd (omega arith)
  drop_all (x ∷ xs) (suc n) e = drop_all xs n (omega arith)

  -- the store that passes a write
  pub pass : (t : Task) (n : ℕ) (pl : List ℕ) (kp sv : Bytes) → Promise p (job_at t n) pl kp sv
      → n ≡ suc (width p (task_write p pl t).unit)
      → Promise p (job_at t (suc n)) pl (resaved kp (task_write p pl t)) (saving_all (counts_for p pl t) sv)
  pass (alone u) n pl kp sv h e =
      let x : Write = task_write p pl (alone u) in
      let eq : sv ≡ kp = h.owed ∙ pending_none p kp h.point.1 in
      let new : is_record p x.unit ≡ false = rw (unit_single pl u) h.point.0 in
      let st : stands p (resaved kp x r) ≡ false = record_only kp x new h.point.1 in
      let ap1 : saving_all (counts_for p pl (alone u)) sv ≡ resaved sv x = rw (saved_one pl u) (saving_one x sv) in
      record {
        owed = ap1 ∙ ap (λ f. resaved f x) eq ∙ sym (pending_none p (resaved kp x) st);
        zeros = λ gr. ap (λ f. f r) ap1 ∙ resaved_other sv x r (other_unit p x.unit gr new) ∙ h.zeros gr;
        point = (h.point.0, st);
      }
  pass (part i) n pl kp sv h e = go h.point
    where
      x : Write
      x = task_write p pl (part i)

      xn : x ≡ nth (writes p pl) i
      xn = at_part pl i

      go : PartAt p i n pl kp sv → Promise p (grouping i (suc n)) pl (resaved kp x) (saving_all (counts_for p pl (part i)) sv)
      go (before z l st gv) =
          let xr : x ≡ write r (take wr pl) = xn ∙ ap (nth (writes p pl)) z ∙ at_record pl in
          let ms₁ : saving_all (counts_for p pl (part i)) sv ≡ saving_all (remaining p pl) sv = ap (λ (q : ℕ). saving_all (counts_for p pl (part q)) sv) z ∙ ap (λ q. saving_all q sv) (saved_all pl) in
          let eq : sv ≡ kp = h.owed ∙ pending_none p kp st in
          let kr : resaved kp x r ≡ take wr pl = ap (λ (y : Write). resaved kp y r) xr ∙ resaved_same kp (write r (take wr pl)) in
          let over : saving_all (remaining p pl) (resaved kp x) ≡ saving_all (remaining p pl) kp =
          saving_over (remaining p pl) kp x (ap (λ (y : Write). among y.unit (remaining p pl)) xr ∙ record_in_rest pl gv) in
          let sv₁ : saving_all (counts_for p pl (part i)) sv ≡ saving_all (remaining p pl) (resaved kp x) = ms₁ ∙ ap (saving_all (remaining p pl)) eq ∙ sym over in
          let back : padded (resaved kp x r) ≡ pl = ap padded kr ∙ record_back p ok pl (given_says p pl gv) in
          record {
            owed = sv₁ ∙ sym (pending_some p (resaved kp x) pl gv back);
            zeros = λ gr. ap (λ f. f r) (ms₁ ∙ ap (λ q. saving_all q sv) (rest_is pl gv) ∙ saving_snoc (ms pl gv) sv (zs pl gv)) ∙ resaved_same (saving_all (ms pl gv) sv) (zs pl gv);
            point =
                within 1 (behind (omega (arith, ap (λ (y : Write). width p y.unit) xn)) (omega arith)) (omega arith)
                (writes_more p ok pl) gv kr (sv₁ ∙ ap (λ q. saving_all q (resaved kp x)) (sym (drop_one pl gv)));
          }
      go (within q (behind l y) a b gv kr sq) = absurd (omega (arith, ap (λ (y : Write). width p y.unit) xn))
      go (beyond l m st) = absurd (omega (arith, ap (λ (y : Write). width p y.unit) xn))
      go (within q (ahead l y) a b gv kr sq) =
          let none₁ : saving_all (counts_for p pl (part i)) sv ≡ sv = ap (λ q. saving_all q sv) (saved_none_lem pl i (omega arith)) ∙ saving_none sv in
          let lt : i < length (writes p pl) = omega arith in
          let sv₁ : sv ≡ saving_all (drop (suc i) (writes p pl)) (resaved kp x) =
          sq ∙ ap (λ (z : ℕ). saving_all (drop z (writes p pl)) kp) y ∙ ap (λ z. saving_all z kp) (drop_nth (writes p pl) i lt)
          ∙ saving_cons (nth (writes p pl) i) (drop (suc i) (writes p pl)) kp
          ∙ ap (λ (z : Write). saving_all (drop (suc i) (writes p pl)) (resaved kp z)) (sym xn) in
          let zr : (p.grouped ≡ true) → saving_all (counts_for p pl (part i)) sv r ≡ replicate wr 0 = λ gr. ap (λ f. f r) none₁ ∙ h.zeros gr in
          elim (order (suc i) (length (writes p pl))) [
            | below more ↦
                let ne : ¬ (r ≡ x.unit) = λ z. write_member pl gv i (omega arith) more (z ∙ ap (λ (y : Write). y.unit) xn) in
                let kr₁ : resaved kp x r ≡ take wr pl = resaved_other kp x r ne ∙ kr in
                let back : padded (resaved kp x r) ≡ pl = ap padded kr₁ ∙ record_back p ok pl (given_says p pl gv) in
                let back₀ : padded (kp r) ≡ pl = ap padded kr ∙ record_back p ok pl (given_says p pl gv) in
                let over : saving_all (remaining p pl) (resaved kp x) ≡ saving_all (remaining p pl) kp =
                saving_over (remaining p pl) kp x (ap (λ (y : Write). among y.unit (remaining p pl)) xn ∙ in_rest pl gv i (omega arith) lt) in
                record {
                  owed = none₁ ∙ h.owed ∙ pending_some p kp pl gv back₀ ∙ sym over ∙ sym (pending_some p (resaved kp x) pl gv back);
                  zeros = zr;
                  point =
                      within (suc i) (behind (omega (arith, ap (λ (y : Write). width p y.unit) xn)) refl) (omega arith) more gv kr₁ (none₁ ∙ sv₁);
                }
            | above done ↦
                let last₁ : suc i ≡ length (writes p pl) = omega arith in
                let xz : x ≡ zs pl gv = xn ∙ write_zeros pl gv i last₁ in
                let sv₂ : sv ≡ resaved kp x = sv₁ ∙ ap (λ z. saving_all z (resaved kp x)) (drop_all (writes p pl) (suc i) last₁) ∙ saving_none (resaved kp x) in
                let st : stands p (resaved kp x r) ≡ false =
                ap (stands p) (ap (λ (y : Write). resaved kp y r) xz ∙ resaved_same kp (zs pl gv)) ∙ zeros_fall in
                record {
                  owed = none₁ ∙ sv₂ ∙ sym (pending_none p (resaved kp x) st);
                  zeros = zr;
                  point = beyond last₁ (omega (arith, ap (λ (y : Write). width p y.unit) xn)) st;
                }
          ]

  -- a store that passes none
  pub moves : (t : Task) (n : ℕ) (pl : List ℕ) (kp sv : Bytes) → Promise p (job_at t n) pl kp sv
      → ¬ (n ≡ suc (width p (task_write p pl t).unit)) → Promise p (job_at t (suc n)) pl kp sv
  moves (alone u) n pl kp sv h e = record { owed = h.owed; zeros = h.zeros; point = h.point }
  moves (part i) n pl kp sv h e = record { owed = h.owed; zeros = h.zeros; point = go h.point }
    where
      xn : width p (task_write p pl (part i)).unit ≡ width p (nth (writes p pl) i).unit
      xn = ap (λ (y : Write). width p y.unit) (at_part pl i)

      go : PartAt p i n pl kp sv → PartAt p i (suc n) pl kp sv
      go (before z l st gv) =
          let xr : width p (nth (writes p pl) i).unit ≡ wr =
          ap (λ (q : ℕ). width p (nth (writes p pl) q).unit) z ∙ ap (λ (y : Write). width p y.unit) (at_record pl) in
          before z (omega (arith, xn)) st gv
      go (within q (ahead l y) a b gv kr sq) = within q (ahead (omega (arith, xn)) y) a b gv kr sq
      go (within q (behind l y) a b gv kr sq) = within q (behind (omega (arith, xn)) y) a b gv kr sq
      go (beyond l m st) = beyond l (omega (arith, xn)) st

  -- the last store of a write
  pub ends : (t : Task) (n : ℕ) (pl : List ℕ) (kp sv : Bytes) → Promise p (job_at t n) pl kp sv
      → n ≡ 2 * width p (task_write p pl t).unit + 2 → Promise p (follows p pl t) pl kp sv
  unfolding is_last_write
  ends (alone u) n pl kp sv h e = record { owed = h.owed; zeros = h.zeros; point = h.point.1 }
  ends (part i) n pl kp sv h e = go h.point
    where
      xn : width p (task_write p pl (part i)).unit ≡ width p (nth (writes p pl) i).unit
      xn = ap (λ (y : Write). width p y.unit) (at_part pl i)

      go : PartAt p i n pl kp sv → Promise p (follows p pl (part i)) pl kp sv
      go (before z l st gv) =
          let xr : width p (nth (writes p pl) i).unit ≡ wr =
          ap (λ (q : ℕ). width p (nth (writes p pl) q).unit) z ∙ ap (λ (y : Write). width p y.unit) (at_record pl) in
          absurd (omega (arith, xn))
      go (within q (ahead l y) a b gv kr sq) = absurd (omega (arith, xn))
      go (within q (behind l y) a b gv kr sq) =
          rw (lt-leb (length (writes p pl)) (suc i) (omega (arith, xn)))
          (record { owed = h.owed; zeros = h.zeros; point = within q (ahead (omega (arith, xn)) y) a b gv kr sq })
      go (beyond l m st) =
          rw (le-leb (length (writes p pl)) (suc i) (omega (arith, xn)))
          (record { owed = h.owed; zeros = h.zeros; point = st })

  -- where every marker is 1
  pub resumes : (j : Job) (pl : List ℕ) (kp sv : Bytes) → Promise p j pl kp sv → length (kp (last p)) ≡ width p (last p)
      → Promise p (cond (stands p (kp (last p))) (grouping 1 0) ready) (cond (stands p (kp (last p))) (padded (kp (last p))) pl) kp sv
  resumes j pl kp sv h e = go (stands p (kp r)) (sym (stands_given p (kp r)))
    where
      go : (t : Bool) → given p (padded (kp r)) ≡ t
          → Promise p (cond t (grouping 1 0) ready) (cond t (padded (kp r)) pl) kp sv
      go true q =
          record {
            owed = h.owed;
            zeros = h.zeros;
            point =
                within 1 (ahead (omega arith) refl) (omega arith) (writes_more p ok (padded (kp r))) q
                (sym (take_at (kp r) (replicate (256 - length (kp r)) 0) wr e))
                (h.owed ∙ pending_some p kp (padded (kp r)) q refl ∙ ap (λ z. saving_all z kp) (sym (drop_one (padded (kp r)) q)));
          }
      go false q = record { owed = h.owed; zeros = h.zeros; point = stands_given p (kp r) ∙ q }

  pub to_cold : (j : Job) (pl pl' : List ℕ) (kp sv : Bytes) → Promise p j pl kp sv → Promise p cold pl' kp sv
  to_cold j pl pl' kp sv h = record { owed = h.owed; zeros = h.zeros; point = tt }

-- ---- by the calls
abbrev pub Promised : Plan → Ledger → Type 0
Promised p l = Promise p l.job l.payload l.written l.saved

at_job_lem : {p : Plan} {j k : Job} {pl : List ℕ} {kp sv : Bytes} → j ≡ k → Promise p j pl kp sv → Promise p k pl kp sv
at_job_lem {p} {j} {k} {pl} {kp} {sv} e h = subst (λ (x : Job). Promise p x pl kp sv) e h

module _ (p : Plan) (ok : PlanOk p) (l : Ledger) (size : length (l.written (last p)) ≡ width p (last p)) where
  -- after a store that passes no write: on to j, or Cold
  quiet : (e : End) (j : Job) → Promised p l → Promise p j l.payload l.written l.saved
      → Promise p (then e j) l.payload l.written l.saved
  quiet completed j h g = g
  quiet (torn_by bytes) j h g = to_cold p ok l.job l.payload l.payload l.written l.saved h

  store_promise : (t : Task) (n : ℕ) → l.job ≡ job_at t n → n < 2 * width p (task_write p l.payload t).unit + 3
      → Promised p l → (e : End) → Promised p (noted p l e)
  store_promise t n is lt h e = go (same n 0) (same n (suc w)) (same n (2 * w + 2))
    where
      x : Write
      x = task_write p l.payload t

      w : ℕ
      w = width p (task_write p l.payload t).unit

      here : Promise p (job_at t n) l.payload l.written l.saved
      here = at_job_lem is h

      After : Ledger → Type 0
      After y = Promised p y

      go : Same n 0 → Same n (suc w) → Same n (2 * w + 2) → After (noted p l e)
      go (equal a) b c =
          subst After (sym (notes_a p l t n x is refl a e))
          (quiet e (job_at t 1) h
          (at_job_lem (ap (λ (k : ℕ). job_at t (suc k)) a) (moves p ok t n l.payload l.written l.saved here (omega arith))))
      go (differ a) (equal b) c =
          subst After (sym (notes_b p l t n x is refl (omega arith) e)) (decided e)
        where
          passing : Promise p (job_at t (suc n)) l.payload (resaved l.written x) (saving_all (counts_for p l.payload t) l.saved)
          passing = pass p ok t n l.payload l.written l.saved here b

          either : (d : Bool) → Promise p cold l.payload (cond d (resaved l.written x) l.written)
              (cond d (saving_all (counts_for p l.payload t) l.saved) l.saved)
          either true = to_cold p ok (job_at t (suc n)) l.payload l.payload _ _ passing
          either false = to_cold p ok l.job l.payload l.payload _ _ h

          decided : (e : End)
              → After (at (then e (job_at t (suc n))) l.payload x.unit (marker_left e (marker_of l x.unit) B)
              (cond (decides e (marker_left e (marker_of l x.unit) B)) (resaved l.written x) l.written)
              (cond (decides e (marker_left e (marker_of l x.unit) B)) (saving_all (counts_for p l.payload t) l.saved) l.saved))
          decided completed = passing
          decided (torn_by bytes) = either (decides (torn_by bytes) (marker_left (torn_by bytes) (marker_of l x.unit) B))
      go (differ a) (differ b) (equal c) =
          subst After (sym (notes_ok p l t n x is refl c e))
          (quiet e (follows p l.payload t) h (ends p ok t n l.payload l.written l.saved here c))
      go (differ a) (differ b) (differ c) =
          subst After (sym (notes_byte p l t n x is refl a (omega arith) (omega arith) e))
          (quiet e (job_at t (suc n)) h (moves p ok t n l.payload l.written l.saved here b))

  clean_promise : (u n : ℕ) → l.job ≡ recovering u n → n < width p u + 1 → Promised p l → (e : End) → Promised p (noted p l e)
  clean_promise u n is lt h e = go (same n (width p u))
    where
      go : Same n (width p u) → Promised p (noted p l e)
      go (equal a) = subst (Promised p) (sym (notes_settle p l u n is a e)) (settles e)
        where
          settles : (e : End)
              → Promised p (at (then e (ledger.resumed p l)) (then_held e (ledger.reloaded p l) l.payload) u
              (marker_left e (marker_of l u) OK) l.written l.saved)
          settles completed = resumes p ok l.job l.payload l.written l.saved h size
          settles (torn_by bytes) = to_cold p ok l.job l.payload l.payload l.written l.saved h
      go (differ a) =
          subst (Promised p) (sym (notes_copy p l u n is (omega arith) e))
          (quiet e (recovering u (suc n)) h (record { owed = h.owed; zeros = h.zeros; point = tt }))

  any_promise : (j : Job) → l.job ≡ j → bad_job p l.payload j ≡ false → Promised p l → (e : End) → Promised p (noted p l e)
  unfolding bad_job accepted
  any_promise cold is b h completed = subst (λ (j : Job). Promised p (ledger.stepped p l j)) (sym is) h
  any_promise cold is b h (torn_by bytes) = rw is (to_cold p ok l.job l.payload l.payload l.written l.saved h)
  any_promise ready is b h completed = subst (λ (j : Job). Promised p (ledger.stepped p l j)) (sym is) h
  any_promise ready is b h (torn_by bytes) = rw is (to_cold p ok l.job l.payload l.payload l.written l.saved h)
  any_promise (writing u n) is b h e = store_promise (alone u) n is (leb-false _ n (false_or (leb p.count u) _ b).1) h e
  any_promise (recovering u n) is b h e = clean_promise u n is (leb-false _ n (false_or (leb p.count u) _ b).1) h e
  any_promise (grouping i n) is b h e = store_promise (part i) n is (leb-false _ n (false_or (bad_write p l.payload i) _ b).1) h e

  wake_promise : Promised p l → Promised p (accepted p l ledger.wake)
  unfolding accepted
  wake_promise h = go (eqb l.marker OK)
    where
      go : (t : Bool)
          → Promise p (cond t (ledger.resumed p l) (recovering l.unit 0)) (cond t (ledger.reloaded p l) l.payload) l.written l.saved
      go true = resumes p ok l.job l.payload l.written l.saved h size
      go false = record { owed = h.owed; zeros = h.zeros; point = tt }

  promise_keeps : (c : Call) → told p l c ≡ 0 → bad_job p l.payload l.job ≡ false → Promised p l → Promised p (accepted p l c)
  unfolding told accepted
  promise_keeps (ledger.begin role u bs) a b h =
      let g = begin_says (judged p l) role u (length bs) a in
      let h' : Promise p ready l.payload l.written l.saved = at_job_lem g.job h in
      record { owed = h.owed; zeros = h.zeros; point = (g.other, h'.point) }
  promise_keeps (ledger.ride turns) a b h =
      let g = ride_says (judged p l) (l.written 0) turns a in
      let h' : Promise p ready l.payload l.written l.saved = at_job_lem g.job h in
      record { owed = h.owed; zeros = h.zeros; point = (g.other, h'.point) }
  promise_keeps (ledger.group gs) a b h =
      let g = group_says (judged p l) gs a in
      let h' : Promise p ready l.payload l.written l.saved = at_job_lem g.job h in
      record { owed = h.owed; zeros = h.zeros; point = before refl (omega arith) h'.point (given_is (judged p l) gs g) }
  promise_keeps (ledger.paid turns) a b h =
      let g = (paid_says (judged p l) (l.written 0) (l.written 1) turns a).group in
      let h' : Promise p ready l.payload l.written l.saved = at_job_lem g.job h in
      record { owed = h.owed; zeros = h.zeros; point = before refl (omega arith) h'.point (given_is (judged p l) _ g) }
  promise_keeps ledger.step a b h = any_promise l.job refl b h completed
  promise_keeps (ledger.cut bytes) a b h = any_promise l.job refl b h (torn_by bytes)
  promise_keeps ledger.wake a b h = wake_promise h

  -- a call that is refused changes nothing
  pub promise_fed : (c : Call) → bad_job p l.payload l.job ≡ false → Promised p l → Promised p (fed p l c)
  unfolding fed
  promise_fed c b h = go (told p l c) refl
    where
      go : (n : ℕ) → told p l c ≡ n → Promised p (ledger.unless_refused n l (accepted p l c))
      go zero e = promise_keeps c e b h
      go (suc n) e = h

-- at the opening
pub promise_opens : (p : Plan) → PlanOk p → Promised p (opening p)
unfolding opening
promise_opens p ok =
    record {
      owed = sym (pending_none p (λ u. replicate (width p u) 0) (zeros_fall p ok));
      zeros = λ gr. refl;
      point = zeros_fall p ok;
    }

-- where the job is Ready, what is written is what is saved
pub ready_same : (p : Plan) (l : Ledger) → Promised p l → l.job ≡ ready → l.saved ≡ l.written
ready_same p l h e =
    let h' : Promise p ready l.payload l.written l.saved = at_job_lem e h in
    h'.owed ∙ pending_none p l.written h'.point
