-- `layout::unit_length` meets its contract: the marker's page and two copies.
use native.Mathlib.Omega.{arith}
use mathlib.Core.Path.{◌∙◌, ap, ap₂}
use mathlib.Core.Bool.{cond}
use Rattle.model.specs.Layout.{whole_pages}
use Rattle.layout.proofs.Laws.{page_size, size_bounds}
use Rattle.layout.proofs.unit_length.Goals as goal

pub copy_length-copy-requires : goal.copy_length-copy-requires
copy_length-copy-requires c = page_size c.args.plan _ c.page_of-page.ensures

pub overflow_mul-result : goal.overflow_mul-result
overflow_mul-result c = record { fits = omega (arith, c.copy_length-copy.ensures.1) }

pub overflow_add-result : goal.overflow_add-result
overflow_add-result c =
    let size = page_size c.args.plan _ c.page_of-page.ensures in
    record { fits = omega (arith, c.copy_length-copy.ensures.1, (size_bounds _ size).1) }

pub returns : goal.returns
returns c =
    let a = c.args in
    let page = c.page_of-page.ensures ∙ ap (λ t. cond t 1 a.plan.page) c.requires in
    let size = page_size a.plan _ c.page_of-page.ensures in
    let copy = c.copy_length-copy.ensures.0 ∙ ap₂ whole_pages page c.width_of.ensures in
    (omega (arith, page, copy), omega (arith, c.copy_length-copy.ensures.1, (size_bounds _ size).1))
