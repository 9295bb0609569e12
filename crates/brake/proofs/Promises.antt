-- The statements of specs/Promises.antt.
use Prim.Native.Nat.{ℕ, zero, suc, ◌+◌, ◌*◌, ◌-◌, ◌/◌, ◌≤◌}
use native.Mathlib.Nat.{mul-le-mul}
use native.Mathlib.Omega.{arith}
use mathlib.Core.Path.{◌≡◌, refl, ap, sym, ◌∙◌}
use lib.ListN.{get_or}
use Rattle.model.specs.Drive.{drive_number, drive_unless_refused, drive}
use Rattle.brake.specs.Over.{drive_over_number, drive_over}
use Rattle.brake.specs.Table.{drives}
use Rattle.brake.specs.Promises.{Accepts, NoneDriven, NoneDrivenOver, Fits, Rises, OverConstant}
use Rattle.brake.proofs.Accepted.{accepts, in_range, by_rule}
use Rattle.brake.proofs.Table.{rise, look_up}
use Rattle.brake.proofs.Drives.{tested}
use Rattle.brake.proofs.Over.{refused_drives_0, drive_refused, over_number}

pub accepts_these : Accepts
accepts_these l r = (in_range l r, λ range. accepts l r range.above range.level range.rate)

pub none_driven : NoneDriven
none_driven l r h = sym (drive_refused (drive_number l r) l r refl h)

pub none_driven_over : NoneDrivenOver
unfolding drive_over
none_driven_over table l r h = sym (refused_drives_0 (drive_over_number table l r) _ h)

pub fits : Fits
fits l r accepted =
    let range = in_range l r accepted in
    let bin : r / 4 ≤ 63 = omega arith in
    let product = mul-le-mul range.level bin in
    rw (by_rule l r accepted) (omega arith)

pub rises : Rises
rises l r lower upper =
    let range = in_range l r lower in
    let next = in_range (l + 1) r upper in
    let k : ℕ = 64 * (l - 1) + r / 4 in
    let place : 64 * (l + 1 - 1) + r / 4 ≡ 64 + k = omega arith in
    rw (← look_up drives tested l r lower, ← look_up drives tested (l + 1) r upper, place)
    (rise drives tested k (omega arith))

pub over_constant : OverConstant
unfolding drive_over drive
over_constant l r =
    let n : drive_over_number drives l r ≡ drive_number l r = over_number drives l r tested.size in
    (n, ap (λ (k : ℕ). drive_unless_refused k (get_or drives (64 * (l - 1) + r / 4) 0)) n ∙ alike (drive_number l r) refl)
  where
    alike : (n : ℕ) → n ≡ drive_number l r
        → drive_unless_refused n (get_or drives (64 * (l - 1) + r / 4) 0) ≡ drive l r
    alike zero e = look_up drives tested l r (sym e)
    alike (suc n) e = drive_refused (suc n) l r e (λ z. absurd (omega arith))
