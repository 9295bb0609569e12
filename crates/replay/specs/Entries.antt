-- What an entry of a list says, in the words of the ledger and of crates/recovery/specs/Encoding.antt.
use Rattle.std.specs.Prelude.{ℕ, List}
use Rattle.model.specs.Ledger.{Call, begin, ride, group, paid, step, cut, wake}
use Rattle.recovery.specs.Encoding.{turns_in, call_of, calls_of}
use Rattle.replay.specs.declared.entry.Kind.{Kind}
use Rattle.replay.specs.declared.entry.Kind.TheVariants.{Begin, Cut, Wake, Ride, Group, PaidRide, Step}
use Rattle.replay.specs.declared.entry.Entry.{Entry}
use Rattle.replay.specs.declared.entry.Entries.{Entries}

-- a call of a kind, with a unit and bytes of its own
abbrev pub named : Kind → ℕ → List ℕ → Call
named (Begin role) unit own = begin role unit own
named Cut unit own = cut own
named Wake unit own = wake
named Ride unit own = ride (turns_in own)
named Group unit own = group own
named PaidRide unit own = paid (turns_in own)
named Step unit own = step

abbrev pub said : Entry → Call
said e = call_of e.kind e.unit e.own.now

-- the calls of the entries that are left
abbrev pub calls_left : Entries → List Call
calls_left e = calls_of e.bytes.now
