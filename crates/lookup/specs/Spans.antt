-- A unit of a plan looked up: what refusals 1 to 4 and 17 leave to be asked of it.
use Rattle.std.specs.Prelude.{ℕ, ◌+◌, ◌<◌, ◌≤◌, ◌≡◌, List, [], ◌∷◌, ◌++◌, Bool, ◌||◌, ltb, leb, length}
use Rattle.lookup.specs.declared.Span.{Span}
use Rattle.model.specs.declared.Phase.{Phase}
use Rattle.model.specs.declared.Plan.{Plan}
use Rattle.model.specs.Layout.{copy_a, copy_b, byte, width, unit_length, offset, base, total}
use Rattle.model.specs.Refusals.{SHORT-IMAGE, BAD-JOB, Refusal, ◌when◌, first, plan_row, first_four}
use Rattle.model.specs.Calls.{job_of}
use Rattle.model.proofs.RefusalLaws.{PlanOk}
use Rattle.model.specs.Plans.{PageSize}

-- where the parts of a unit lie
abbrev pub span_of : Plan → ℕ → Span
span_of p u =
    record {
      base = base p u;
      end = base p u + unit_length p u;
      a = offset p u (byte copy_a 0);
      b = offset p u (byte copy_b 0);
      width = width p u;
    }

-- refusals 1 to 4 and 17, for an image of n bytes
abbrev pub image_row : Plan → List ℕ → Phase → ℕ → List Refusal
image_row p payload phase n = first_four p (ltb n (total p)) payload (job_of phase)

-- they do not apply
abbrev pub Live : Plan → List ℕ → Phase → List ℕ → Type 0
Live p payload phase image = first (image_row p payload phase (length image)) ≡ 0

-- the row of a job at unit u; `late` is what refusal 4 says of its stores
abbrev pub job_row : Plan → ℕ → ℕ → Bool → ℕ
job_row p u n late = first (plan_row p ++ (SHORT-IMAGE when ltb n (total p) ∷ BAD-JOB when (leb p.count u || late) ∷ []))

-- unit u of an accepted plan, in an image of n bytes
pub record Spans (p : Plan) (u n : ℕ) (r : Span) : Type 0 where
  pub plan : PlanOk p
  pub long : total p ≤ n
  pub unit : u < p.count
  pub is : r ≡ span_of p u

-- what every such span has
pub record Sound (r : Span) : Type 0 where
  pub narrow : r.width ≤ 256
  -- the marker's page
  pub page : PageSize r.a
  pub marker : 0 < r.a
  pub copies : r.a + r.width ≤ r.b
  pub ends : r.base + r.b + r.width ≤ r.end
  pub most : r.end ≤ 4224
