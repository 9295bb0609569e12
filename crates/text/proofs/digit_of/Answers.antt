-- `text::digit_of` meets its contract: the digits stand in their order.
use Rattle.std.proofs.Common.{ℕ, ◌∙◌, ap, get_or, arith}
use Rattle.text.specs.Text.{digit}
use Rattle.text.proofs.Glyphs.{glyphs, glyph_at}
use Rattle.text.proofs.digit_of.Goals as goal

pub returns : goal.returns
unfolding digit
returns c = ap (λ (i : ℕ). get_or (glyphs 16 0) i 0) c.from.ensures ∙ glyph_at 16 0 _ _ (omega arith) c.requires
