-- `Entries::next` meets its contract: an entry is there, and is followed by one byte.
use Rattle.std.proofs.Common.{arith}
use Rattle.row.proofs.Full.{row_on, row_reads}
use Rattle.row.proofs.Entries.next.Goals as goal

pub unwrap-item-requires : goal.unwrap-item-requires
unwrap-item-requires c = let e = c.args.self.now in
    row_reads e.line.now (omega arith) e.at e.read c.requires e.there _ c.entry.ensures.item

pub invariant_of-self : goal.invariant_of-self
invariant_of-self c = let e = c.args.self.now in
    let is = rw c.unwrap-item.ensures at c.entry.ensures.item in
    record { there = (row_on e.line.now (omega arith) e.at e.read c.requires e.there _ is).rest }

pub returns-clause-value : goal.returns-clause-value
returns-clause-value c = let e = c.args.self.now in
    let is = rw c.unwrap-item.ensures at c.entry.ensures.item in
    (row_on e.line.now (omega arith) e.at e.read c.requires e.there _ is).values
