-- A line of a script is a list of the power-cut theorem's calls, so what the theorem says of lists it says of scripts.
use Rattle.std.specs.Prelude.{ℕ, ◌≡◌, List, [], ◌∷◌, replicate}
use Rattle.token.specs.Token.{hex_at}
use Rattle.list.specs.Items.{values_at}
use Rattle.script.specs.declared.Form.{Form}
use Rattle.script.specs.declared.Form.TheVariants.{Plan, Write, Step, Cut, Wake, Show}
use Rattle.model.specs.declared.Role.TheVariants.{Service}
use Rattle.model.specs.Calls.{Device, outcome}
use Rattle.model.specs.Ledger.{Call, begin, step, cut, wake}
use Rattle.model.specs.PowerCut.{run}
use Rattle.play.specs.Plays.{plays}

abbrev pub calls_of_line : Form → List ℕ → List Call
calls_of_line (Plan at count page) line = []
calls_of_line (Write unit at count) line = begin Service unit (values_at hex_at line at count) ∷ []
calls_of_line (Step n) line = replicate n step
calls_of_line (Cut at count) line = cut (values_at hex_at line at count) ∷ []
calls_of_line Wake line = wake ∷ []
calls_of_line Show line = []

-- for every form, line, device and image; proved in proofs/AsCalls.antt
abbrev pub LinesAreCalls : Type 0
LinesAreCalls =
    (form : Form) (line : List ℕ) (d : Device) (image : List ℕ)
    → plays form line d image ≡ run (calls_of_line form line) (outcome 0 d image)
