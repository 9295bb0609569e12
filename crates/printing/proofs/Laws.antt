-- The parts of an image that a unit's line shows.
use Prim.Native.Nat.{ℕ, ◌+◌, ◌-◌, ◌<◌, ◌≤◌}
use mathlib.Core.Path.{◌≡◌, ap}
use mathlib.Core.List.{List, [], ◌∷◌}
use lib.ListN.{length, get_or, take, drop}
use lib.Seq.{drop-cons}
use native.Mathlib.Nat.{add-sub_cancel_left}
use native.Mathlib.Omega.{arith}
use Rattle.model.specs.declared.Plan.{Plan}
use Rattle.model.specs.Layout.{copy_a, copy_b, byte, width, base, place, get, copy_of}
use Rattle.lookup.specs.declared.Span.{Span}
use Rattle.lookup.specs.Spans.{span_of, Spans, Sound}
use Rattle.lookup.proofs.Laws.{span_sound, span_inside}
use Rattle.printing.specs.Printed.{unit_text, unit_line}

pub take_one : (xs : List ℕ) (i : ℕ) → i < length xs → take 1 (drop i xs) ≡ get_or xs i 0 ∷ []
take_one xs i h = rw (drop-cons xs i 0 h)

-- the part `&xs[a..a + n]`
abbrev pub part : List ℕ → ℕ → ℕ → List ℕ
part xs a n = take (a + n - a) (drop a xs)

-- a unit of an accepted plan, looked up in an image that is long enough
pub record Looked (p : Plan) (image : List ℕ) (u : ℕ) (q : Span) : Type 0 where
  pub is : q ≡ span_of p u
  pub sound : Sound q
  pub inside : q.end ≤ length image

pub looked : (p : Plan) (image : List ℕ) (u : ℕ) (q : Span) → Spans p u (length image) q → Looked p image u q
looked p image u q s =
    record {
      is = s.is;
      sound = span_sound p s.plan u s.unit q s.is;
      inside = span_inside p s.plan u s.unit (length image) q s.long s.is;
    }

-- the parts that begin where the lookup says are its marker and its copies
pub unit_parts : (p : Plan) (image : List ℕ) (u : ℕ) (q : Span) (first second : ℕ) → Looked p image u q
    → first ≡ q.base + q.a → second ≡ q.base + q.b
    → unit_text u (part image q.base 1) (part image first q.width) (part image second q.width) ≡ unit_line p image u
unfolding unit_line get copy_of
unit_parts p image u q first second l is-a is_b =
    let base_is : q.base ≡ base p u = ap (λ (t : Span). t.base) l.is in
    let wide : q.width ≡ width p u = ap (λ (t : Span). t.width) l.is in
    let log : base p u + 0 ≡ q.base = omega arith in
    let copy_a_lem : place p u (byte copy_a 0) ≡ first = omega (arith, ap (λ (t : Span). t.a) l.is) in
    let copy_b_lem : place p u (byte copy_b 0) ≡ second = omega (arith, ap (λ (t : Span). t.b) l.is) in
    let h : q.base < length image = omega (arith, l.sound.marker, l.sound.copies, l.sound.ends, l.inside) in
    rw (copy_a_lem, copy_b_lem) (simp (add-sub_cancel_left, log, ← wide, take_one image q.base h))
