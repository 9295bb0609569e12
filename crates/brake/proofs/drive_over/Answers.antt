-- `brake::drive_over` meets its contract: 11 first, then the drive's own refusals, then the look-up.
use native.Mathlib.Omega.{arith}
use Rattle.std.proofs.lemmas.Result.{err_from_is_err_and}
use mathlib.Core.Path.{sym, ◌∙◌}
use Rattle.brake.proofs.Over.{wrong_table, over_number, over_refused, over_entry}
use Rattle.brake.proofs.drive_over.Goals as goal

pub returns-then-table-ne1280 : goal.returns-then-table-ne1280
returns-then-table-ne1280 c = wrong_table _ _ _ (λ z. absurd (omega (arith, c.if-table-ne1280.true, z)))

pub returns-in_err-check_range : goal.returns-in_err-check_range
returns-in_err-check_range c = let p = err_from_is_err_and c.from_residual.result c.from_residual.ensures.1 in
    rw (p.1, p.2) (over_refused _ _ _ c.if-table-ne1280.false _ c.in_err-check_range.ensures.number)

pub returns : goal.returns
returns c = let a = c.args in
    let accepted = sym c.in_ok-check_range.ensures.number in
    let fits = c.if-table-ne1280.false in
    let at = over_entry a.table.now a.level a.rate fits accepted in
    record { number = sym (over_number a.table.now a.level a.rate fits ∙ accepted); drive = rw c.place.ensures (sym at) }
