-- On a line that a machine's memory holds, no form ends at `lost`.
use Rattle.std.proofs.Common.{◌≡◌, arith, ℕ, ◌<◌, List, length, ne_eqb, None}
use Rattle.token.specs.Token.{lost}
use Rattle.token.specs.Ascii.{ascii}
use Rattle.token.proofs.Lost.{lost_eats, lost_word, lost_number}
use Rattle.script.specs.declared.Form.{Form}
use Rattle.script.specs.Line.{closed_at, paged_at}

module _ (line : List ℕ) (fits : length line < lost) where
  pub lost_bad : (form : Form) → closed_at line lost form ≡ None
  unfolding closed_at
  lost_bad form = simp (lost_eats line (omega arith), ne_eqb lost (length line) (λ e. omega arith))

  pub lost_paged : (at count : ℕ) → paged_at line lost at count ≡ None
  unfolding paged_at
  lost_paged at count = simp (lost_word line (omega arith) (ascii " (page "), lost_number line (omega arith), lost_eats line (omega arith), lost_bad)
