-- `list::items_at` meets its contract: the loop keeps the list that is left to read.
use Rattle.std.proofs.Common.{◌≡◌, ◌-◌}
use Rattle.list.specs.List.{items_at}
use Rattle.list.proofs.items_at.Given as goal

abbrev pub invariant-loop-count : goal.invariant-loop-count
invariant-loop-count g l = items_at g.T.Token.reads l.line l.place (l.most - l.count) l.count ≡ items_at g.T.Token.reads l.line l.at l.most 0
