-- Document 01, 'What demand 3 compares with': the ledger, a term of the document's own, tells which write passed.
-- "It is fed what start got and each call's arguments, no answers and nothing of device or image."
use Rattle.std.specs.Prelude.{ℕ, zero, suc, ◌+◌, ◌*◌, List, [], ◌∷◌, Bool, false, cond, not, ◌&&◌, eqb, length, replicate}
use Rattle.model.specs.declared.Plan.{Plan}
use Rattle.model.specs.declared.Role.{Role}
use Rattle.model.specs.Marker.{OK, A, B, End, completed, torn_by, marker_left}
use Rattle.model.specs.Plans.{width}
use Rattle.model.specs.Groups.{Write, write, last, padded, payload_of, stands, remaining, write_at, is_last_write}
use Rattle.model.specs.Refusals.{Job, cold, ready, writing, recovering, grouping, View, begin_number, ride_number, group_number, paid_number, step_number, cut_number, wake_number}
use Rattle.model.specs.Turns.{plus}
use Rattle.model.specs.Prices.{paid_group}

-- the calls of demand 3's lists, with their arguments
pub data Call : Type 0 where
  begin : Role → ℕ → List ℕ → Call
  ride : ℕ → Call
  group : List ℕ → Call
  paid : ℕ → Call
  step : Call
  cut : List ℕ → Call
  wake : Call

-- "It keeps a phase (as above, without direction), the payload, the unit last written (a torn store counts) with its marker,
-- and each unit's saved bytes." Ticket 10: "a member's write counts as passed exactly when its record's first write passed": `saved` goes
-- by that. `written` has each write of a unit, the record's and a member's too, pass by itself, as document 01 says. In Ready, where a ride
-- takes up unit 0's bytes, the two are the same.
pub record Ledger : Type 0 where
  pub job : Job
  pub payload : List ℕ
  pub unit : ℕ
  pub marker : ℕ
  pub written : ℕ → List ℕ
  pub saved : ℕ → List ℕ

-- "It starts Ready, at unit 0 with marker 1, payload and all saved bytes zero."
unfoldable pub opening : Plan → Ledger
opening p =
    record {
      job = ready;
      payload = replicate 256 0;
      unit = 0;
      marker = OK;
      written = λ u. replicate (width p u) 0;
      saved = λ u. replicate (width p u) 0;
    }

-- "Every other unit's marker counts as 1."
unfoldable pub marker_of : Ledger → ℕ → ℕ
marker_of l u = cond (eqb u l.unit) l.marker OK

-- "A call that 'Refusals' refuses, judged by what the ledger is fed and keeps": it is fed no image, so none is too short.
abbrev pub judged : Plan → Ledger → View
judged p l = record { plan = p; short = false; payload = l.payload; job = l.job; marker = marker_of l }

-- "In the list each call answers that refusal's number, otherwise 0."
unfoldable pub told : Plan → Ledger → Call → ℕ
told p l (begin role u payload) = begin_number (judged p l) role u (length payload)
told p l (ride turns) = ride_number (judged p l) (l.written 0) turns
told p l (group g) = group_number (judged p l) g
told p l (paid turns) = paid_number (judged p l) (l.written 0) (l.written 1) turns
told p l step = step_number (judged p l)
told p l (cut bytes) = cut_number (judged p l) (length bytes)
told p l wake = wake_number (judged p l)

-- "Writing: marker 2 after store 1, 4 after store w + 2, 1 .. after store 2w + 3": the marker after store n of a write, which
-- was old before it. "if the next store is the marker's, the marker becomes the torn byte"
unfoldable pub write_marker : ℕ → ℕ → End → ℕ → ℕ
write_marker w n e old =
    cond (eqb n 1)
    (marker_left e old A)
    (cond (eqb n (w + 2)) (marker_left e old B) (cond (eqb n (2 * w + 3)) (marker_left e old OK) old))

-- "Recovering: marker 1 .. after store w + 1."
unfoldable pub cleanup_marker : ℕ → ℕ → End → ℕ → ℕ
cleanup_marker w n e old = cond (eqb n (w + 1)) (marker_left e old OK) old

-- "A write passes when its store w + 2 is completed or is torn leaving a byte other than 2." The term is the document's own.
abbrev pub passes : ℕ → ℕ → End → ℕ → Bool
passes w n completed left = eqb n (w + 2)
passes w n (torn_by bytes) left = eqb n (w + 2) && not (eqb left A)

-- "makes its payload the unit's saved bytes at that store"
unfoldable pub saving : ℕ → List ℕ → (ℕ → List ℕ) → ℕ → List ℕ
saving u payload saved v = cond (eqb v u) payload (saved v)

-- the same of some writes, one after the other
unfoldable pub saving_all : List Write → (ℕ → List ℕ) → ℕ → List ℕ
saving_all [] saved = saved
saving_all (x ∷ xs) saved = saving_all xs (saving x.unit x.bytes saved)

-- Ticket 10: the writes that count as passed when write i of a group passes: with the record's first all that remain, and none with
-- those, "at whichever store or rewrite the power fails"
unfoldable pub count_with : Plan → List ℕ → ℕ → List Write
count_with p payload zero = remaining p payload
count_with p payload (suc i) = []

-- whether the write x passes at its store n
abbrev pub passes_at : Plan → Ledger → Write → ℕ → End → Bool
passes_at p l x n e =
    passes (width p x.unit) n e (write_marker (width p x.unit) n e (marker_of l x.unit))

-- store n of the write x comes to an end, and the job is then j; if x passes, xs count as passed
abbrev pub wrote : Plan → Ledger → Write → List Write → ℕ → End → Job → Ledger
wrote p l x xs n e j =
    record {
      job = j;
      payload = l.payload;
      unit = x.unit;
      marker = write_marker (width p x.unit) n e (marker_of l x.unit);
      written = cond (passes_at p l x n e) (saving x.unit x.bytes l.written) l.written;
      saved = cond (passes_at p l x n e) (saving_all xs l.saved) l.saved;
    }

-- the same of a cleanup
abbrev pub cleaned : Plan → Ledger → ℕ → ℕ → End → Job → List ℕ → Ledger
cleaned p l u n e j payload =
    record {
      job = j;
      payload = payload;
      unit = u;
      marker = cleanup_marker (width p u) n e (marker_of l u);
      written = l.written;
      saved = l.saved;
    }

-- only the phase, and the payload, are noted
abbrev pub noted : Ledger → Job → List ℕ → Ledger
noted l j payload =
    record { job = j; payload = payload; unit = l.unit; marker = l.marker; written = l.written; saved = l.saved }

-- Ticket 10: where every marker is 1, on to the members of a standing record, or Ready; the payload is then that record
abbrev pub standing : Plan → Ledger → Bool
standing p l = stands p (l.written (last p))

abbrev pub resumed : Plan → Ledger → Job
resumed p l = cond (standing p l) (grouping 1 0) ready

abbrev pub reloaded : Plan → Ledger → List ℕ
reloaded p l = cond (standing p l) (padded (l.written (last p))) l.payload

-- "Step: 1 more made. Writing: .. Ready after store 2w + 3. Recovering: .. Ready after store w + 1." Ticket 10: "the ledger going
-- through a group's and a rewrite's stores in their order"
abbrev pub stepped : Plan → Ledger → Job → Ledger
stepped p l cold = l
stepped p l ready = l
stepped p l (writing u made) =
    wrote p l (write u l.payload) (write u l.payload ∷ []) (suc made) completed
    (cond (eqb (suc made) (2 * width p u + 3)) ready (writing u (suc made)))
stepped p l (recovering u made) =
    cleaned p l u (suc made) completed
    (cond (eqb (suc made) (width p u + 1)) (resumed p l) (recovering u (suc made)))
    (cond (eqb (suc made) (width p u + 1)) (reloaded p l) l.payload)
stepped p l (grouping i made) =
    wrote p l (write_at p l.payload i) (count_with p l.payload i) (suc made) completed
    (cond (eqb (suc made) (2 * width p (write_at p l.payload i).unit + 3))
    (cond (is_last_write p l.payload i) ready (grouping (suc i) 0))
    (grouping i (suc made)))

-- "Cut: if the next store is the marker's, the marker becomes the torn byte of the rule above. Then Cold, in every phase."
abbrev pub was_cut : Plan → Ledger → List ℕ → Job → Ledger
was_cut p l bytes cold = noted l cold l.payload
was_cut p l bytes ready = noted l cold l.payload
was_cut p l bytes (writing u made) =
    wrote p l (write u l.payload) (write u l.payload ∷ []) (suc made) (torn_by bytes) cold
was_cut p l bytes (recovering u made) = cleaned p l u (suc made) (torn_by bytes) cold l.payload
was_cut p l bytes (grouping i made) =
    wrote p l (write_at p l.payload i) (count_with p l.payload i) (suc made) (torn_by bytes) cold

-- "Begin: Writing that unit, 0 made, payload noted." A ride begins a write of unit 0, a group that of its record, and a paid ride is one.
-- "Wake: Ready if the marker is 1, otherwise Recovering the unit last written, 0 made."; or on to a standing record
unfoldable pub accepted : Plan → Ledger → Call → Ledger
accepted p l (begin role u payload) = noted l (writing u 0) payload
accepted p l (ride turns) = noted l (writing 0 0) (plus (l.written 0) turns)
accepted p l (group g) = noted l (grouping 0 0) (payload_of p g)
accepted p l (paid turns) = noted l (grouping 0 0) (payload_of p (paid_group (l.written 0) (l.written 1) turns))
accepted p l step = stepped p l l.job
accepted p l (cut bytes) = was_cut p l bytes l.job
accepted p l wake =
    noted l
    (cond (eqb l.marker OK) (resumed p l) (recovering l.unit 0))
    (cond (eqb l.marker OK) (reloaded p l) l.payload)

-- "A call that 'Refusals' refuses .. changes nothing."
abbrev pub unless_refused : ℕ → Ledger → Ledger → Ledger
unless_refused zero l next = next
unless_refused (suc n) l next = l

unfoldable pub fed : Plan → Ledger → Call → Ledger
fed p l c = unless_refused (told p l c) l (accepted p l c)

-- the answers that the ledger tells of a list of calls, and the ledger after it
unfoldable pub tells : Plan → Ledger → List Call → List ℕ
tells p l [] = []
tells p l (c ∷ cs) = told p l c ∷ tells p (fed p l c) cs

unfoldable pub after : Plan → Ledger → List Call → Ledger
after p l [] = l
after p l (c ∷ cs) = after p (fed p l c) cs
