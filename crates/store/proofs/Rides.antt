-- A ride and a total, against their definitions.
use Prim.Native.Nat.{ℕ, zero, suc, ◌+◌, ◌≤◌}
use mathlib.Core.Path.{◌≡◌, refl, ap, sym, ◌∙◌}
use mathlib.Core.List.{List}
use native.Mathlib.Omega.{arith}
use lib.ListN.{length, take, drop}
use borrow.Author.Tests.{ltb-false}
use Rattle.store.specs.declared.Device.{Device}
use Rattle.store.specs.Modelled.{modelled, Shows}
use Rattle.model.specs.declared.Role.{Role}
use Rattle.model.specs.Layout.{copy_a, width, copy_of}
use Rattle.model.specs.Turns.{amount, plus}
use Rattle.model.specs.Refusals.{read_number, ride_number, total_number}
use Rattle.model.specs.Calls.{view_of, padded, read, total_unless_refused, total_of}
use Rattle.model.proofs.RefusalLaws.{count_bounds}
use Rattle.model.proofs.LayoutLaws.{copy_room}
use Rattle.model.proofs.TurnLaws.{Rode, ride_says}
use Rattle.model.proofs.Demands.{every_call}
use Rattle.lookup.proofs.Laws.{room}
use Rattle.refusal.proofs.Laws.{live, unit_inside}
use Rattle.std.specs.Prelude.{Ok, Err}
use Rattle.model.specs.declared.refusals.Refusal.{Refusal}
use Rattle.model.specs.Numbers.{number_of}
use Rattle.model.proofs.Numbered.{number_some}
use Rattle.ride.proofs.Laws.{total_part, total_says}
use Rattle.store.proofs.Laws.{part_shown}

module _ (d : Device) (image : List ℕ) (turns : ℕ)
    (e : 0 ≡ ride_number (view_of d.plan d.payload d.phase image) (copy_of d.plan image 0 copy_a) turns) where
  rode : Rode (view_of d.plan d.payload d.phase image) (copy_of d.plan image 0 copy_a) turns
  rode = ride_says _ _ turns (sym e)

  part : take 8 (drop d.plan.page image) ≡ copy_of d.plan image 0 copy_a
  part = total_part d.plan image rode.wide

  -- the total lies in the image, and the sum fits
  pub ride_fits : (d.plan.page + 8 ≤ length image) × (amount (take 8 (drop d.plan.page image)) + turns ≤ 18446744073709551615)
  unfolding ride_number
  ride_fits =
      let l = live d.plan d.payload d.phase image 0 _ e refl in
      let ok = (room d.plan d.payload d.phase image l).ok in (
        omega (arith, rode.wide, copy_room d.plan ok 0, unit_inside d.plan d.payload d.phase image l 0 (count_bounds d.plan ok).0),
        omega (arith, ap amount part, ltb-false 18446744073709551615 (amount (copy_of d.plan image 0 copy_a) + turns) rode.room),
      )

  -- what the code adds up is what the definition does
  pub ride_sum : padded (plus (take 8 (drop d.plan.page image)) turns) ≡ padded (plus (copy_of d.plan image 0 copy_a) turns)
  ride_sum = ap (λ (t : List ℕ). padded (plus t turns)) part

-- ---- a total: xs is the part that is read
module _ (d : Device) (image : List ℕ) (role : Role) (u : ℕ) where
  pub total_refused : (e : Refusal) → number_of e ≡ total_number (view_of d.plan d.payload d.phase image) role u
      → Shows (Err e) (total_of (modelled d) image role u)
  unfolding total_of
  total_refused e is = go (total_number (view_of d.plan d.payload d.phase image) role u) is
    where
      go : (n : ℕ) → number_of e ≡ n → Shows (Err e) (total_unless_refused n (amount (copy_of d.plan image u copy_a)))
      go zero q = absurd (number_some e q)
      go (suc n) q = record { number = q; amount = refl }

  module _ (e : 0 ≡ total_number (view_of d.plan d.payload d.phase image) role u) (xs : List ℕ) (is : xs ≡ read (modelled d) image role u) where
    says : (read_number (view_of d.plan d.payload d.phase image) role u ≡ 0) × (width d.plan u ≡ 8)
    says = total_says d.plan d.payload d.phase image role u (sym e)

    pub total_size : length xs ≡ 8
    total_size = ap length is ∙ ((every_call (modelled d) image).read role u).size says.0 ∙ says.1

    pub total_shown : (n : ℕ) → n ≡ amount xs → Shows (Ok n) (total_of (modelled d) image role u)
    unfolding total_of read
    total_shown n h =
        let copy : xs ≡ copy_of d.plan image u copy_a = is ∙ sym (part_shown _ _ (sym says.0)) in
        rw (sym e) (record { number = refl; amount = h ∙ ap amount copy })
