-- `grouping::check_group` meets its contract: the row behind 1 to 5.
use native.Mathlib.Omega.{arith}
use Rattle.refusal.specs.Seen.{seen}
use Rattle.grouping.proofs.Laws.{by_bytes}
use Rattle.grouping.proofs.check_group.Goals as goal

pub returns-in_err-check_group : goal.returns-in_err-check_group
returns-in_err-check_group c =
    grind (arith, by_bytes (seen c.args.view) c.args.bytes.now _ c.in_ok-check_ready.ensures c.in_err-check_group.ensures)
