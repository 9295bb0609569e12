-- `mirror::torn_byte` meets its contract: offset 0 is the marker's.
use mathlib.Core.Path.{◌∙◌, sym}
use borrow.Author.Tests.{eq-eqb, ne_eqb}
use Rattle.mirror.proofs.torn_byte.Goals as goal

pub returns-then-at-eq0 : goal.returns-then-at-eq0
returns-then-at-eq0 c = c.torn_marker.ensures ∙ sym (rw (eq-eqb _ 0 c.if-at-eq0.true))

pub returns-else-at-eq0 : goal.returns-else-at-eq0
returns-else-at-eq0 c = rw (ne_eqb _ 0 c.if-at-eq0.false)
