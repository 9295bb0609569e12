-- `mirror::torn_marker` meets its contract: two masks are the bit rule.
use borrow.Author.Rules.{rules}
use Rattle.mirror.proofs.Torn.{torn_masks}
use Rattle.mirror.proofs.torn_marker.Goals as goal

pub returns : goal.returns
returns c = torn_masks c.args.old c.args.new c.args.m (search rules)
