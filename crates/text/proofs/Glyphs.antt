-- The sixteen digits, in their order.
use Rattle.std.proofs.Common.{◌≡◌, ℕ, zero, suc, ◌+◌, ◌<◌, List, [], ◌∷◌, get_or, ap, arith}
use Rattle.text.specs.Text.{digit}

-- so many digits from one on
abbrev pub glyphs : ℕ → ℕ → List ℕ
glyphs zero from = []
glyphs (suc n) from = digit from ∷ glyphs n (suc from)

pub glyph_at : (n from i v : ℕ) → v ≡ from + i → i < n → get_or (glyphs n from) i 0 ≡ digit v
glyph_at zero from i v e h = absurd (omega arith)
glyph_at (suc n) from zero v e h = let same : from ≡ v = omega arith in ap digit same
glyph_at (suc n) from (suc i) v e h = glyph_at n (suc from) i v (omega arith) (omega arith)
