-- What holds of ledger, device and image between two calls of a list from a formatted device.
use Prim.Native.Nat.{ℕ, suc, ◌+◌, ◌≤◌, ◌<◌}
use mathlib.Core.Path.{◌≡◌, refl, ap, ◌∙◌, sym, subst}
use mathlib.Core.List.{List}
use mathlib.Core.Option.{some}
use mathlib.Core.Bool.{Bool, true, false, cond}
use native.Mathlib.Omega.{arith}
use lib.ListN.{length, get_or, drop}
use borrow.Author.Tests.{lt-leb, le-leb}
use Rattle.model.specs.declared.Plan.{Plan}
use Rattle.model.specs.declared.Direction.{Direction}
use Rattle.model.specs.declared.Direction.TheVariants.{AToB, BToA}
use Rattle.model.specs.Marker.{OK, A, B, direction, completed}
use Rattle.model.specs.Layout.{Copy, copy_a, copy_b, Cell, marker, byte, width, total, get}
use Rattle.model.specs.Groups.{Write, write, write_at, writes, padded, stands, is_last_write}
use Rattle.model.specs.Refusals.{Job, bad_write, bad_job, write_total}
use Rattle.model.specs.Refusals as refusals
use Rattle.model.specs.Stores.{store, source, target, stored}
use Rattle.model.specs.Ledger.{Ledger, saving}
use Rattle.model.specs.Calls.{Outcome}
use Rattle.model.proofs.Compare.{equal, differ, same, below, above, order}
use Rattle.model.proofs.RefusalLaws.{PlanOk, job_writing, job_grouping}
use Rattle.model.proofs.LayoutLaws.{bytes_apart, Elsewhere, Near, get_put_same, get_put_cell}
use Rattle.model.proofs.LedgerLaws.{saving_same, saving_other}
use Rattle.model.proofs.Tasks.{Task, alone, part, job_at, task_write, follows}
pub use Rattle.model.proofs.Tasks.{phased, job_phased}
use Rattle.model.proofs.GroupLaws.{stands_given, part_says, part_fine, part_sized, writes_more}

-- the first n bytes of copy c of unit u are those of f
abbrev pub Has : Plan → List ℕ → ℕ → Copy → List ℕ → ℕ → Type 0
Has p image u c f n = (i : ℕ) → i < n → get p image u (byte c i) ≡ get_or f i 0

-- copy c of unit u is f
abbrev pub Whole : Plan → List ℕ → ℕ → Copy → List ℕ → Type 0
Whole p image u c f = Has p image u c f (width p u)

abbrev pub Both : Plan → List ℕ → ℕ → List ℕ → Type 0
Both p image u f = (c : Copy) → Whole p image u c f

pub record Clean (p : Plan) (image : List ℕ) (written : ℕ → List ℕ) (v : ℕ) : Type 0 where
  pub mark : get p image v marker ≡ OK
  pub both : Both p image v (written v)

-- everything but unit u, the last written
pub record Frame (p : Plan) (before image : List ℕ) (written : ℕ → List ℕ) (u : ℕ) : Type 0 where
  pub size : length image ≡ length before
  pub long : total p ≤ length image
  pub rest : drop (total p) image ≡ drop (total p) before
  pub unit : u < p.count
  pub lengths : (v : ℕ) → v < p.count → length (written v) ≡ width p v
  pub others : (v : ℕ) → v < p.count → ¬ (v ≡ u) → Clean p image written v

-- where the written bytes f of a unit stand after a cut that left it the marker m: in both copies, or in the one that m trusts
pub data Safe (p : Plan) (image : List ℕ) (u m : ℕ) (f : List ℕ) : Type 0 where
  twice : Both p image u f → Safe p image u m f
  once : ¬ (m ≡ OK) → Whole p image u (source (direction m)) f → Safe p image u m f

-- the ledger and the device hold the same payload in a group phase
abbrev pub Matched : Plan → List ℕ → List ℕ → Task → Type 0
Matched p noted held (alone u) = Unit
Matched p noted held (part i) = (held ≡ noted) × (bad_write p noted i ≡ false)

-- by the payload that the ledger noted the task is to write bs to unit u, and by the device's it does
pub record Loaded (p : Plan) (noted held : List ℕ) (t : Task) (u : ℕ) (bs : List ℕ) : Type 0 where
  pub unit : u < p.count
  pub size : length bs ≡ width p u
  pub says : task_write p noted t ≡ write u bs
  pub same : (task_write p held t).unit ≡ u
  pub bytes : (i : ℕ) → i < width p u → get_or (task_write p held t).bytes i 0 ≡ get_or bs i 0
  pub matched : Matched p noted held t

-- where a write, a cleanup or a wake ends: Ready, or the start of a write
pub data Starts (p : Plan) (noted held : List ℕ) (j : Job) : Type 0 where
  idle : j ≡ refusals.ready → Starts p noted held j
  starts : (t : Task) (u : ℕ) (bs : List ℕ) → j ≡ job_at t 0 → Loaded p noted held t u bs → Starts p noted held j

-- how far the unit last written is; held is the device's payload
pub data Stage (p : Plan) (image : List ℕ) (l : Ledger) (held : List ℕ) : Type 0 where
  resting : l.job ≡ refusals.ready → l.marker ≡ OK → Both p image l.unit (l.written l.unit) → Stage p image l held
  off : l.job ≡ refusals.cold → Safe p image l.unit l.marker (l.written l.unit) → Stage p image l held
  -- a write of unit u has begun, and made no store
  opened : (t : Task) (u : ℕ) (bs : List ℕ) → l.job ≡ job_at t 0 → l.marker ≡ OK
      → Both p image l.unit (l.written l.unit) → Loaded p l.payload held t u bs → Stage p image l held
  -- j bytes of copy A are written, then of copy B
  to_a : (t : Task) (bs : List ℕ) (j : ℕ) → j ≤ width p l.unit → l.job ≡ job_at t (suc j) → l.marker ≡ A
      → Whole p image l.unit copy_b (l.written l.unit) → Has p image l.unit copy_a bs j
      → Loaded p l.payload held t l.unit bs → Stage p image l held
  to_b : (t : Task) (bs : List ℕ) (j : ℕ) → j ≤ width p l.unit → l.job ≡ job_at t (suc (width p l.unit + suc j)) → l.marker ≡ B
      → l.written l.unit ≡ bs → Whole p image l.unit copy_a bs → Has p image l.unit copy_b bs j
      → Loaded p l.payload held t l.unit bs → Stage p image l held
  -- j bytes are copied from the good copy
  mending : (j : ℕ) → j ≤ width p l.unit → l.job ≡ refusals.recovering l.unit j → ¬ (l.marker ≡ OK)
      → Whole p image l.unit (source (direction l.marker)) (l.written l.unit)
      → Has p image l.unit (target (direction l.marker)) (l.written l.unit) j → Stage p image l held

-- at rest, or at the start of a write
pub still : {p : Plan} {image : List ℕ} {l : Ledger} {held : List ℕ} → Starts p l.payload held l.job → l.marker ≡ OK
    → Both p image l.unit (l.written l.unit) → Stage p image l held
still (idle e) mk both = resting e mk both
still (starts t u bs e ld) mk both = opened t u bs e mk both ld

-- 4 does not refuse such a write, by the ledger's payload or by the device's
pub loaded_fine : {p : Plan} {noted held : List ℕ} (t : Task) {u : ℕ} {bs : List ℕ} → Loaded p noted held t u bs
    → (n : ℕ) → n < write_total (width p u)
    → (bad_job p noted (job_at t n) ≡ false) × (bad_job p held (job_at t n) ≡ bad_job p noted (job_at t n))
unfolding bad_job
loaded_fine {p} {noted} {held} (alone v) {u} {bs} ld n h =
    let e : v ≡ u = ap (λ (x : Write). x.unit) ld.says in
    (rw e (job_writing p noted u n ld.unit h), refl)
loaded_fine {p} {noted} {held} (part i) {u} {bs} ld n h =
    let e : width p (write_at p noted i).unit ≡ width p u = ap (λ (x : Write). width p x.unit) ld.says in (
      job_grouping p noted i n ld.matched.1 (omega (arith, e)),
      ap (λ (x : List ℕ). bad_job p x (job_at (part i) n)) ld.matched.0,
    )

-- both go on alike
pub loaded_follows : {p : Plan} {noted held : List ℕ} (t : Task) {u : ℕ} {bs : List ℕ} → Loaded p noted held t u bs
    → follows p held t ≡ follows p noted t
loaded_follows (alone v) ld = refl
loaded_follows {p} (part i) ld = ap (λ (x : List ℕ). follows p x (part i)) ld.matched.0

-- ---- where a write ends, and where a cleanup or a wake does
module _ (p : Plan) (ok : PlanOk p) where
  pub part_loaded : (payload : List ℕ) (i : ℕ) → bad_write p payload i ≡ false
      → Loaded p payload payload (part i) (write_at p payload i).unit (write_at p payload i).bytes
  part_loaded payload i h =
      let z = part_sized p ok payload i h in
      record { unit = z.unit; size = z.size; says = refl; same = refl; bytes = λ j l. refl; matched = (refl, h) }

  pub follows_starts : {noted held : List ℕ} (t : Task) {u : ℕ} {bs : List ℕ} → Loaded p noted held t u bs
      → Starts p noted held (follows p noted t)
  unfolding is_last_write
  follows_starts (alone v) ld = idle refl
  follows_starts {noted} {held} (part i) ld =
      let v = part_says p ok noted i ld.matched.1 in
      elim (order (suc i) (length (writes p noted))) [
        | below l ↦
            starts (part (suc i)) _ _ (rw (lt-leb (length (writes p noted)) (suc i) l))
            (subst (λ (x : List ℕ). Loaded p noted x (part (suc i)) (write_at p noted (suc i)).unit (write_at p noted (suc i)).bytes)
            (sym ld.matched.0) (part_loaded noted (suc i) (part_fine p ok noted (suc i) v.valid l)))
        | above l ↦ idle (rw (le-leb (length (writes p noted)) (suc i) l))
      ]

  -- the record r stands, or not
  pub resumed_starts : (r noted held : List ℕ) (b : Bool) → stands p r ≡ b
      → Starts p (cond b (padded r) noted) (cond b (padded r) held) (cond b (refusals.grouping 1 0) refusals.ready)
  resumed_starts r noted held true e =
      starts (part 1) _ _ refl
      (part_loaded (padded r) 1 (part_fine p ok (padded r) 1 (sym (stands_given p r) ∙ e) (writes_more p ok (padded r))))
  resumed_starts r noted held false e = idle refl

-- THE INVARIANT, of the ledger and what the last call left; before is the image before format
pub record Inv (p : Plan) (before : List ℕ) (l : Ledger) (o : Outcome) : Type 0 where
  pub plan : o.device.plan ≡ p
  pub phase : o.device.phase ≡ phased (direction l.marker) l.job
  pub frame : Frame p before o.image l.written l.unit
  pub mark : get p o.image l.unit marker ≡ l.marker
  pub stage : Stage p o.image l o.device.payload

-- ---- a copy and a cell that is not of it
abbrev pub Off : Copy → Cell → Type 0
Off c marker = Unit
Off copy_a (byte copy_a i) = ⊥
Off copy_a (byte copy_b i) = Unit
Off copy_b (byte copy_a i) = Unit
Off copy_b (byte copy_b i) = ⊥

off_elsewhere : (c : Copy) (x : Cell) (i : ℕ) → Off c x → Elsewhere x (byte c i)
off_elsewhere c marker i h = tt
off_elsewhere copy_a (byte copy_a j) i h = absurd h
off_elsewhere copy_a (byte copy_b j) i h = tt
off_elsewhere copy_b (byte copy_a j) i h = tt
off_elsewhere copy_b (byte copy_b j) i h = absurd h

pub source_off_target : (d : Direction) (i : ℕ) → Off (source d) (byte (target d) i)
source_off_target AToB i = tt
source_off_target BToA i = tt

-- what holds of the good copy and of the other holds of both
pub both_of : (d : Direction) (P : Copy → Type 0) → P (source d) → P (target d) → (c : Copy) → P c
both_of AToB P g h copy_a = g
both_of AToB P g h copy_b = h
both_of BToA P g h copy_a = h
both_of BToA P g h copy_b = g

-- ---- a store, completed or torn, near the cell y of unit u
module _ {p : Plan} {image image' : List ℕ} {u : ℕ} {y : Cell} (near : Near p image image' u y) where
  pub has_near : (c : Copy) (f : List ℕ) (n : ℕ) → Off c y → n ≤ width p u → Has p image u c f n → Has p image' u c f n
  has_near c f n ho hn h i l = near.own (byte c i) (omega arith) (off_elsewhere c y i ho) ∙ h i l

  pub whole_near : (c : Copy) (f : List ℕ) → Off c y → Whole p image u c f → Whole p image' u c f
  whole_near c f ho h = has_near c f (width p u) ho (omega arith) h

  pub frame_near : (before : List ℕ) (written : ℕ → List ℕ) → Frame p before image written u → Frame p before image' written u
  frame_near before written h =
      record {
        size = near.size ∙ h.size;
        long = omega (arith, near.size, h.long);
        rest = near.rest ∙ h.rest;
        unit = h.unit;
        lengths = h.lengths;
        others = λ v hv ne. record {
          mark = near.others v marker ne tt ∙ (h.others v hv ne).mark;
          both = λ c i l. near.others v (byte c i) ne l ∙ (h.others v hv ne).both c i l;
        };
      }

-- a completed store that adds the next byte of a copy
pub has_more : (p : Plan) → PlanOk p → (image : List ℕ) (u x : ℕ) (c : Copy) (f : List ℕ) (n : ℕ)
    → u < p.count → total p ≤ length image → n < width p u → x ≡ get_or f n 0
    → Has p image u c f n → Has p (stored p image completed (some (store u (byte c n) x))) u c f (suc n)
unfolding stored
has_more p ok image u x c f n hu ht hn e h i l =
    elim (same i n) [
      | equal q ↦ rw q (get_put_same p ok image u (byte c n) x hn hu ht ∙ e)
      | differ q ↦
          get_put_cell p ok image u (byte c n) x hn (byte c i) (omega arith) (bytes_apart c n i q) ∙ h i (omega arith)
    ]

module _ {p : Plan} {before image : List ℕ} {written : ℕ → List ℕ} {u : ℕ} (h : Frame p before image written u) where
  -- where unit u is clean too, all are
  pub all_clean : Clean p image written u → (v : ℕ) → v < p.count → Clean p image written v
  all_clean c v hv = elim (same v u) [ equal e ↦ rw e c | differ e ↦ h.others v hv e ]

  -- and any other unit may be the one that is written next
  pub frame_to : Clean p image written u → (v : ℕ) → v < p.count → Frame p before image written v
  frame_to c v hv =
      record {
        size = h.size;
        long = h.long;
        rest = h.rest;
        unit = hv;
        lengths = h.lengths;
        others = λ t ht ne. all_clean c t ht;
      }

  -- if t, the write passes
  pub frame_saving : (t : Bool) (payload : List ℕ) → length payload ≡ width p u
      → Frame p before image (cond t (saving u payload written) written) u
  frame_saving false payload e = h
  frame_saving true payload e =
      record {
        size = h.size;
        long = h.long;
        rest = h.rest;
        unit = h.unit;
        lengths = λ v hv. elim (same v u) [
          | equal q ↦ rw (q, saving_same u payload written) e
          | differ q ↦ rw (saving_other u v payload written q) (h.lengths v hv)
        ];
        others = λ v hv ne. record {
          mark = (h.others v hv ne).mark;
          both = λ c. rw (saving_other u v payload written ne) ((h.others v hv ne).both c);
        };
      }
