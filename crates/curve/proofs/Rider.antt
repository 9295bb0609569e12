-- What a rider is promised of the drive over a table that passes the check; and that the constant table does.
use Prim.Native.Nat.{ℕ, zero, suc, ◌+◌, ◌*◌, ◌-◌, ◌/◌, ◌≤◌, ◌<◌}
use mathlib.Core.Path.{◌≡◌, refl}
use mathlib.Core.Bool.{true}
use mathlib.Core.List.{List}
use native.Mathlib.Omega.{arith}
use lib.ListN.{get_or}
use Rattle.brake.specs.Table.{drives}
use Rattle.brake.proofs.Accepted.{in_range}
use Rattle.brake.proofs.Over.{over_entry}
use Rattle.row.specs.Row.{in_rule}
use Rattle.curve.specs.Curve.{levels_good, passes}
use Rattle.curve.specs.Promises.{ConstantPasses, DrivesFit, Faster, Harder}
use Rattle.curve.proofs.Checked.{table_long, entry_small, never_falls, level_above}

pub constant_passes : ConstantPasses
unfolding drives in_rule levels_good
constant_passes = refl

pub drives_fit : DrivesFit
drives_fit table good l r e =
    let range = in_range l r e in
    rw (over_entry table l r (table_long table good) e) (entry_small table good (l - 1) (r / 4) (omega arith) (omega arith))

along : (table : List ℕ) → passes table ≡ true → (l c n : ℕ) → l < 20 → c + n < 64
    → get_or table (64 * l + c) 0 ≤ get_or table (64 * l + (c + n)) 0
along table good l c zero level bin = let e : c + 0 ≡ c = omega arith in rw e (omega arith)
along table good l c (suc n) level bin =
    let e : c + suc n ≡ suc (c + n) = omega arith in
    rw e (omega (arith, along table good l c n level (omega arith), never_falls table good l (c + n) level (omega arith) (omega arith)))

pub faster : Faster
faster table good l r r' e e' h =
    let range = in_range l r e in
    let range' = in_range l r' e' in
    let n : r / 4 + (r' / 4 - r / 4) ≡ r' / 4 = omega arith in
    rw (over_entry table l r (table_long table good) e, over_entry table l r' (table_long table good) e')
    (rw n at (along table good (l - 1) (r / 4) (r' / 4 - r / 4) (omega arith) (omega arith)))

pub harder : Harder
harder table good l r e e' =
    let range = in_range l r e in
    let range' = in_range (l + 1) r e' in
    let up : l + 1 - 1 ≡ suc (l - 1) = omega arith in
    rw (over_entry table l r (table_long table good) e, over_entry table (l + 1) r (table_long table good) e', up)
    (level_above table good (l - 1) (r / 4) (omega arith) (omega arith) (omega arith))
