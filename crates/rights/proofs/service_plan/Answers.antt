-- `rights::service_plan` meets its contract: what is left of eight zeros.
use Rattle.std.proofs.Common.{◌++◌, ap₂, length, List, ℕ}
use Rattle.model.specs.declared.Rights.{Rights}
use Rattle.std.proofs.lemmas.List.{drop-replicate}
use Rattle.rights.proofs.service_plan.Goals as goal

pub returns : goal.returns
returns c =
    let given = c.args.widths.now in
    ap₂
    (λ (widths : List ℕ) (rights : Rights). record { count = length given; widths = widths; page = c.args.page; grouped = c.args.grouped; rights = rights })
    (ap₂ (λ (front back : List ℕ). front ++ back) c.copy_from_slice.ensures.after (drop-replicate (length given) 8 0))
    c.service_rights.ensures
