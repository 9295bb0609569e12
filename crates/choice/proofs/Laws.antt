-- The next store by the code's own tests on the number of stores made.
use Prim.Native.Nat.{ℕ, ◌+◌, ◌-◌, ◌*◌, ◌≤◌, ◌<◌}
use mathlib.Core.Path.{◌≡◌, ap, ◌∙◌}
use mathlib.Core.List.{List, []}
use mathlib.Core.Option.{Option, some}
use native.Mathlib.Omega.{arith}
use lib.ListN.{get_or, get_elem?}
use Rattle.model.specs.declared.Plan.{Plan}
use Rattle.model.specs.declared.Direction.{Direction}
use Rattle.model.specs.declared.Direction.TheVariants.{AToB, BToA}
use Rattle.model.specs.Marker.{OK, A, B}
use Rattle.model.specs.Layout.{copy_a, copy_b, marker, byte, width, offset, base, get}
use Rattle.model.specs.Stores.{Store, store, write_stores, cleanup_stores}
use Rattle.model.specs.Calls.{next}
use Rattle.model.proofs.StoreLaws.{next_a, next_to_a, next_b, next_to_b, next_ok, next_copy, next_settle}
use Rattle.lookup.specs.declared.Span.{Span}
use Rattle.lookup.specs.Spans.{span_of}

-- ---- a unit that was looked up
module _ (p : Plan) (u : ℕ) (q : Span) (is : q ≡ span_of p u) where
  pub span_width : q.width ≡ width p u
  span_width = ap (λ (t : Span). t.width) is

  pub span_base : q.base ≡ base p u
  span_base = ap (λ (t : Span). t.base) is

  -- where byte i of a copy lies, by where the copy begins
  pub span_a : (i : ℕ) → q.a + i ≡ offset p u (byte copy_a i)
  span_a i = omega (arith, ap (λ (t : Span). t.a) is)

  pub span_b : (i : ℕ) → q.b + i ≡ offset p u (byte copy_b i)
  span_b i = omega (arith, ap (λ (t : Span). t.b) is)

module _ (p : Plan) (payload : List ℕ) (u n w : ℕ) (is : w ≡ width p u) where
  abbrev nth : Option Store
  nth = get_elem? (write_stores p u payload) n

  abbrev after : ℕ → Option Store
  after k = get_elem? (write_stores p u payload) k

  pub write_a : n ≡ 0 → nth ≡ some (store u marker A)
  unfolding next
  write_a e = ap after e ∙ next_a p payload [] u

  pub write_to_a : ¬ (n ≡ 0) → n ≤ w → nth ≡ some (store u (byte copy_a (n - 1)) (get_or payload (n - 1) 0))
  unfolding next
  write_to_a h l = ap after (omega arith) ∙ next_to_a p payload [] u (n - 1) (omega arith)

  pub write_b : n ≡ w + 1 → nth ≡ some (store u marker B)
  unfolding next
  write_b e = ap after (omega arith) ∙ next_b p payload [] u

  pub write_to_b : w + 1 < n → n ≤ 2 * w + 1
      → nth ≡ some (store u (byte copy_b (n - (w + 2))) (get_or payload (n - (w + 2)) 0))
  unfolding next
  write_to_b h l = ap after (omega arith) ∙ next_to_b p payload [] u (n - (w + 2)) (omega arith)

  pub write_ok : 2 * w + 1 < n → n < 2 * w + 3 → nth ≡ some (store u marker OK)
  unfolding next
  write_ok h l = ap after (omega arith) ∙ next_ok p payload [] u

module _ (p : Plan) (image : List ℕ) (u n w : ℕ) (d : Direction) (is : w ≡ width p u) where
  -- by the direction, as the code reads the good copy
  module _ (q : Span) (eq : q ≡ span_of p u) where
    pub cleanup_a_to_b : d ≡ AToB → n < w
        → get_elem? (cleanup_stores p image u d) n ≡ some (store u (byte copy_b n) (get_or image (q.base + (q.a + n)) 0))
    unfolding next get
    cleanup_a_to_b e h = rw (e, span_base p u q eq, span_a p u q eq n) (next_copy p [] image u AToB n (omega arith))

    pub cleanup_b_to_a : d ≡ BToA → n < w
        → get_elem? (cleanup_stores p image u d) n ≡ some (store u (byte copy_a n) (get_or image (q.base + (q.b + n)) 0))
    unfolding next get
    cleanup_b_to_a e h = rw (e, span_base p u q eq, span_b p u q eq n) (next_copy p [] image u BToA n (omega arith))

  pub cleanup_ok : w ≤ n → n < width p u + 1 → get_elem? (cleanup_stores p image u d) n ≡ some (store u marker OK)
  unfolding next
  cleanup_ok h l = ap (get_elem? (cleanup_stores p image u d)) (omega arith) ∙ next_settle p [] image u d
