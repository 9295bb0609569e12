-- A paid ride, against its definition.
use Prim.Native.Nat.{ℕ, ◌+◌, ◌≤◌}
use mathlib.Core.Path.{◌≡◌, sym}
use mathlib.Core.List.{List}
use lib.ListN.{length}
use borrow.Author.Tests.{ltb-false}
use Rattle.store.specs.declared.Device.{Device}
use Rattle.model.specs.Layout.{copy_a, total, copy_of}
use Rattle.model.specs.Turns.{amount}
use Rattle.model.specs.Prices.{price}
use Rattle.model.specs.Refusals.{paid_number}
use Rattle.model.specs.Calls.{view_of}
use Rattle.model.proofs.PaidLaws.{paid_says}
use Rattle.till.specs.Room.{Room}

module _ (d : Device) (image : List ℕ) (turns : ℕ)
    (e : 0 ≡ paid_number (view_of d.plan d.payload d.phase image) (copy_of d.plan image 0 copy_a) (copy_of d.plan image 1 copy_a) turns) where
  abbrev held : ℕ → List ℕ
  held u = copy_of d.plan image u copy_a

  -- both units are there, and both sums fit
  pub paid_fits : Room d.plan image × (amount (held 0) + turns ≤ 18446744073709551615) × (amount (held 1) + price turns ≤ 18446744073709551615)
  paid_fits =
      let fare = paid_says (view_of d.plan d.payload d.phase image) (held 0) (held 1) turns (sym e) in (
        record {
          ok = fare.plan;
          long = ltb-false (length image) (total d.plan) fare.long;
          two = fare.two;
          wide₀ = fare.wide₀;
          wide₁ = fare.wide₁;
        },
        ltb-false 18446744073709551615 (amount (held 0) + turns) fare.room₀,
        ltb-false 18446744073709551615 (amount (held 1) + price turns) fare.room₁,
      )
