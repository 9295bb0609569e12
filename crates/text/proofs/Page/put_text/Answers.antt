-- `Page::put_text` meets its contract: the part behind the front is a copy of the text.
use Rattle.std.proofs.Common.{arith, refl, rules}
use Rattle.text.proofs.Laws.{copied}
use Rattle.text.proofs.Page.put_text.Goals as goal

pub returns : goal.returns
returns c = record { wrote = record { bytes = copied _ _ _ _ _ (search rules) (omega arith) c.requires; place = refl }; same_buffer = refl; size = search rules }
