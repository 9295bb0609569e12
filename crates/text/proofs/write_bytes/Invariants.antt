-- The bytes so far are written, each after a space.
use Rattle.std.proofs.Common.{◌≡◌, ◌+◌, ◌*◌, length, take}
use Rattle.text.specs.Text.{bytes_text}
use Rattle.text.specs.Wrote.{Wrote}
use Rattle.text.proofs.write_bytes.Given as goal

abbrev pub invariant-loop-byte : goal.invariant-loop-byte
invariant-loop-byte l = record {
  written : Wrote l.initial.out l.at (bytes_text (take l.byte-index l.bytes)) l.out l.place;
  place : l.place ≡ l.at + 3 * l.byte-index;
  size : length l.out ≡ length l.initial.out;
}
