-- `lookup::unit_span` meets its contract: such a unit is not refused.
use Rattle.lookup.proofs.Laws.{found}
use Rattle.lookup.proofs.unit_span.Goals as goal

pub unwrap-requires : goal.unwrap-requires
unwrap-requires c = let a = c.args in
    found a.plan c.requires.0 a.unit c.requires.2 a.length c.requires.1 c.span_of.result c.span_of.ensures
