-- Document 01, 'Bench program': what each form does to the device and the image, and where its line is printed.
use Rattle.std.specs.Prelude.{ℕ, ◌+◌, ◌-◌, ◌≤◌, Bool, true, false, cond, ◌≡◌, List, ltb, length, Option, None, Some, IfSome, is_none}
use Rattle.script.specs.declared.Form.{Form}
use Rattle.script.specs.declared.Form.TheVariants.{Plan, Write, Step, Cut, Wake, Show}
use Rattle.token.specs.Token.{hex_at}
use Rattle.token.specs.Ascii.{ascii}
use Rattle.list.specs.Items.{values_at}
use Rattle.printing.specs.Printed.{answer_line, line_most}
use Rattle.text.specs.declared.Page.{Page}
use Rattle.text.specs.Wrote.{Wrote}
use Rattle.store.specs.declared.Device as store
use Rattle.store.specs.Modelled.{modelled}
use Rattle.model.specs.declared.Role.TheVariants.{Service}
use Rattle.model.specs.Steps.{steps}
use Rattle.model.specs.declared.Plan as model
use Rattle.model.specs.Layout.{total}
use Rattle.model.specs.Refusals.{start_number}
use Rattle.model.specs.Calls.{Device, Outcome, outcome}
use Rattle.model.specs.Calls as calls

-- the front of the page is used, and a line fits onto it once it is written out
abbrev pub Buffer : Page → Type 0
Buffer page = (page.used ≤ length page.bytes.now) × (line_most ≤ length page.bytes.now)

-- the next line's place: the buffer's front, if it is written out because a line might not fit any more
unfoldable pub place_for : ℕ → ℕ → ℕ
place_for size used = cond (ltb (size - used) line_most) 0 used

-- a line fits behind the place
abbrev pub Room : Page → Page → Type 0
Room before after = (after.used ≡ place_for (length before.bytes.now) before.used) × (after.used + line_most ≤ length after.bytes.now)

-- the page has the line at that place
abbrev pub Printed : Page → List ℕ → Page → Type 0
Printed before line after = Wrote before.bytes.now (place_for (length before.bytes.now) before.used) line after.bytes.now after.used

-- the plan is accepted, and the image holds its units
abbrev pub Held : model.Plan → List ℕ → Type 0
Held p image = (start_number p ≡ 0) × (total p ≤ length image)

-- a form of a line after the first. A plan may not stand there, and show only looks.
unfoldable pub plays : Form → List ℕ → Device → List ℕ → Outcome
plays (Plan at count page) line d image = outcome 0 d image
plays (Write unit at count) line d image = calls.begin d image Service unit (values_at hex_at line at count)
plays (Step n) line d image = steps n d image
plays (Cut at count) line d image = calls.cut d image (values_at hex_at line at count)
plays Wake line d image = calls.wake d image
plays Show line d image = outcome 0 d image

-- "Each form but show prints its word and, in decimal, the answer number of the last call it made."
-- Show's lines, between which the buffer may be written out, are `put_unit`'s. A plan prints no line here.
abbrev pub word : Form → Option (List ℕ)
word (Plan at count page) = None
word (Write unit at count) = Some (ascii "write")
word (Step n) = Some (ascii "step")
word (Cut at count) = Some (ascii "cut")
word Wake = Some (ascii "wake")
word Show = None

abbrev pub Answered : Option (List ℕ) → ℕ → Page → Page → Type 0
Answered None number before after = Unit {0}
Answered (Some w) number before after = Printed before (answer_line w number) after

-- "which must be the first line and no other"
abbrev pub is_plan : Form → Bool
is_plan (Plan at count page) = true
is_plan (Write unit at count) = false
is_plan (Step n) = false
is_plan (Cut at count) = false
is_plan Wake = false
is_plan Show = false

-- r is the device that the outcome o of a form says, with the image and the page that playing it left; none, if a plan stands there
pub record Plays (form : Form) (o : Outcome) (r : Option store.Device) (left : List ℕ) (before after : Page) : Type 0 where
  pub device : IfSome r (λ device. modelled device ≡ o.device)
  pub image : left ≡ o.image
  pub answered : Answered (word form) o.number before after
  pub bad : is_none r ≡ is_plan form
  pub fits : Buffer after
