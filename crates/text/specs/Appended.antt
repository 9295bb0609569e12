-- What a method that prints onto a page leaves.
use Rattle.std.specs.Prelude.{◌≡◌, ℕ, List, length}
use Rattle.text.specs.declared.Page.{Page}
use Rattle.text.specs.Wrote.{Wrote}

-- `after` is `before` with the text behind its front; it is the same lent buffer, which keeps its length
pub record Appended (before : Page) (text : List ℕ) (after : Page) : Type 0 where
  pub wrote : Wrote before.bytes.now before.used text after.bytes.now after.used
  pub same_buffer : after.bytes.ghost_name ≡ before.bytes.ghost_name
  pub size : length after.bytes.now ≡ length before.bytes.now
