-- The first line that is a form, by whether the first is one.
use Rattle.std.proofs.Common.{◌≡◌, refl, Option, Some, None}
use Rattle.script.specs.declared.Form.{Form}
use Rattle.script.specs.Line.{◌or◌}

pub or_first : (form : Form) (other : Option Form) → (Some form or other) ≡ Some form
unfolding ◌or◌
or_first form other = refl

pub or_other : (other : Option Form) → (None or other) ≡ other
unfolding ◌or◌
or_other other = refl
