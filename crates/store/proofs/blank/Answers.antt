-- `store::blank` meets its contract: field by field, the payload of zeros.
use mathlib.Core.Path.{refl}
use Rattle.store.proofs.blank.Goals as goal

pub returns : goal.returns
returns c = refl
