-- The bytes from the next on decide.
use Rattle.std.proofs.Common.{◌≡◌, ◌-◌, length, drop, replicate}
use Rattle.model.specs.Groups.{alike}
use Rattle.group.proofs.only_zeros.Given as goal

abbrev pub invariant-loop-byte : goal.invariant-loop-byte
invariant-loop-byte l =
    alike (replicate (length l.bytes) 0) l.bytes ≡ alike (replicate (length l.bytes - l.byte-index) 0) (drop l.byte-index l.bytes)
