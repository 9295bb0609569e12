-- `token::word` meets its contract: the loop keeps the place that is left to reach.
use Rattle.std.proofs.Common.{◌≡◌, ◌≤◌, length, drop}
use Rattle.token.specs.Token.{word_at}
use Rattle.token.proofs.word.Given as goal

abbrev pub invariant-loop-byte : goal.invariant-loop-byte
invariant-loop-byte l = (word_at l.line l.past (drop l.byte-index l.word) ≡ word_at l.line l.at l.word)
    × (l.at ≤ length l.line → l.past ≤ length l.line)
