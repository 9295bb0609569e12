-- Where a line ends: not before its offset, and inside the text.
use Rattle.std.proofs.Common.{arith, ℕ, ◌≤◌, List, length, drop, length-drop}
use Rattle.std.proofs.Math.Seq.{take-length}
use Prim.Native.Char.{code}
use Rattle.token.specs.Scan.{slice}
use Rattle.token.specs.Lines.{line_end}
use Rattle.token.proofs.Scan.{index_within}

pub line_inside : (text : List ℕ) (at : ℕ) → at ≤ length text → line_end text at ≤ length text
unfolding line_end slice
line_inside text at h = simp take-length (omega (arith, length-drop at text, index_within (code "\n") (drop at text)))

pub line_onward : (text : List ℕ) (at : ℕ) → at ≤ line_end text at
unfolding line_end
line_onward text at = omega arith
