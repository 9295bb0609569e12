-- A store of the model as the code picks it in a unit that was looked up: the offset in the unit's span, the byte, and whether it is
-- the job's last.
use Rattle.std.specs.Prelude.{ℕ, ◌+◌, ◌<◌, ◌≤◌, ◌≡◌, Bool, true, false, List, MatchOption}
use Rattle.std.specs.Prelude as prelude
use Rattle.std.proofs.Math.Option.{Option, some}
use Rattle.std.proofs.Math.ListN.{get_elem?}
use Rattle.choice.specs.declared.Choice.{Choice}
use Rattle.model.specs.declared.Direction.{Direction}
use Rattle.model.specs.declared.Plan.{Plan}
use Rattle.model.specs.Layout.{Cell, offset}
use Rattle.model.specs.Refusals.{write_total, cleanup_total}
use Rattle.model.specs.Stores.{Store, store, write_stores, cleanup_stores}
use Rattle.lookup.specs.declared.Span.{Span}
use Rattle.lookup.specs.Spans.{span_of}

-- how many stores were left: one, or more
pub record Left (total made : ℕ) (is_last : Bool) : Type 0 where
  pub last : is_last ≡ true → made + 1 ≡ total
  pub more : is_last ≡ false → made + 1 < total

-- o is the store of x at offset a of unit u
pub record At (p : Plan) (u : ℕ) (o : Option Store) (a x : ℕ) : Type 0 where
  pub cell : Cell
  pub is : o ≡ some (store u cell x)
  pub at : a ≡ offset p u cell

-- o is the job's list, at the stores made, of any plan and unit that were looked up so; a job has f w stores at width w
pub record Picked (span : Span) (f : ℕ → ℕ) (made : ℕ) (o : Plan → ℕ → Option Store) (r : Choice) : Type 0 where
  pub left : Left (f span.width) made r.last
  pub inside : span.base + r.at < span.end
  pub store : (p : Plan) (u : ℕ) → span ≡ span_of p u → At p u (o p u) r.at r.byte

-- the store, or none where all are made
abbrev pub Next : Span → (ℕ → ℕ) → ℕ → (Plan → ℕ → Option Store) → prelude.Option Choice → Type 0
Next span f made o r = MatchOption r (f span.width ≤ made) (Picked span f made o)

abbrev pub Writes : Span → List ℕ → ℕ → prelude.Option Choice → Type 0
Writes span payload made r = Next span write_total made (λ p u. get_elem? (write_stores p u payload) made) r

abbrev pub Cleans : Span → List ℕ → Direction → ℕ → prelude.Option Choice → Type 0
Cleans span image d made r = Next span cleanup_total made (λ p u. get_elem? (cleanup_stores p image u d) made) r
