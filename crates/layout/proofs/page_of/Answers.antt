-- `layout::page_of` meets its contract: four sizes are the plan's, and any other is refused.
use mathlib.Core.Path.{◌∙◌, sym}
use Rattle.layout.proofs.Laws.{page_many, page_not_many}
use Rattle.layout.proofs.page_of.Goals as goal

pub returns-then-many_bytes : goal.returns-then-many_bytes
returns-then-many_bytes c = page_many c.args.plan (sym c.many_bytes.ensures ∙ c.if-many_bytes.true)

pub returns-else-many_bytes : goal.returns-else-many_bytes
returns-else-many_bytes c = page_not_many c.args.plan (sym c.many_bytes.ensures ∙ c.if-many_bytes.false)
