-- A form that prints its word: what its call gives, and what `tell` then prints, are what the form plays.
use Rattle.std.specs.Prelude.{◌≡◌, ℕ, List, Option, Some, Result, IfOk, false}
use Rattle.std.proofs.Common.{sym}
use Rattle.std.proofs.lemmas.Result.{IfOk-weaker}
use Rattle.script.specs.declared.Form.{Form}
use Rattle.printing.specs.Printed.{answer_line}
use Rattle.store.specs.declared.Answer.{Answer}
use Rattle.store.specs.declared.Device.{Device}
use Rattle.store.specs.Modelled.{Gives}
use Rattle.model.specs.Calls.{Outcome}
use Rattle.text.specs.declared.Page.{Page}
use Rattle.play.specs.Plays.{Buffer, Printed, word, is_plan, Plays}

pub told_one : (form : Form) (o : Outcome) (a : Answer) (r : Option Device) (left w : List ℕ) (before after : Page) → word form ≡ Some w
    → is_plan form ≡ false → Gives a left o
    → (r ≡ Some a.device) × Printed before (answer_line w a.number) after × Buffer after
    → Plays form o r left before after
told_one form o a r left w before after ew ep g t =
    rw t.0 (record {
      device = g.device;
      image = g.image;
      answered = rw ew (rw g.number at t.1);
      bad = sym ep;
      fits = t.2;
    })

-- the same where `tell` may fail to write
pub told : {E : Type 0} (form : Form) (o : Outcome) (a : Answer) (r : Result (Option Device) E) (left w : List ℕ) (before after : Page)
    → word form ≡ Some w → is_plan form ≡ false → Gives a left o
    → IfOk r (λ next. (next ≡ Some a.device) × Printed before (answer_line w a.number) after × Buffer after)
    → IfOk r (λ next. Plays form o next left before after)
told form o a r left w before after ew ep g t =
    IfOk-weaker r _ _ (λ next h. told_one form o a next left w before after ew ep g h) t
