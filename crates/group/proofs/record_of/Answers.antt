-- `group::record_of` meets its contract: the count, and the group behind it.
use Rattle.group.proofs.Record.{record_made}
use Rattle.group.proofs.record_of.Goals as goal

pub returns : goal.returns
returns c = record_made _ _ c.member_count.ensures c.fill.ensures
