-- The store that the code picks, and whether it says that it is the job's last.
use Prim.Native.Nat.{ℕ, ◌+◌, ◌<◌}
use mathlib.Core.Path.{◌≡◌}
use mathlib.Core.Bool.{true, false, true≢false, false≢true}
use mathlib.Core.Option.{Option}
use Rattle.choice.specs.declared.Choice.{Choice}
use Rattle.choice.specs.Picked.{At, Picked}
use Rattle.model.specs.declared.Plan.{Plan}
use Rattle.model.specs.Stores.{Store}
use Rattle.lookup.specs.declared.Span.{Span}
use Rattle.lookup.specs.Spans.{span_of}

module _ (span : Span) (f : ℕ → ℕ) (made : ℕ) (o : Plan → ℕ → Option Store) (r : Choice) (a x : ℕ) (i : span.base + a < span.end) (s : (p : Plan) (u : ℕ) → span ≡ span_of p u → At p u (o p u) a x) where
  pub picked_more : made + 1 < f span.width → r ≡ record { at = a; byte = x; last = false } → Picked span f made o r
  picked_more h is = rw is (record { left = record { last = λ z. absurd (false≢true z); more = λ _. h }; inside = i; store = s })

  pub picked_last : made + 1 ≡ f span.width → r ≡ record { at = a; byte = x; last = true } → Picked span f made o r
  picked_last h is = rw is (record { left = record { last = λ _. h; more = λ z. absurd (true≢false z) }; inside = i; store = s })
