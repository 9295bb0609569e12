-- `curve::write_lines` meets its contract: all lines are written.
use Rattle.std.proofs.Common.{◌≡◌, ◌*◌, sym, ◌∙◌, arith, take}
use Rattle.std.proofs.lemmas.List.{take_all}
use Rattle.curve.proofs.Lines.{all_written}
use Rattle.curve.proofs.write_lines.Goals as goal

pub returns : goal.returns
returns c = let l = c.loop-line in
    let all : 64 * l.line ≡ 1280 = omega arith in
    let written = all_written l.line c.args.text.now l.at (take (64 * l.line) l.table) l.invariant.0 c.requires.1 (omega arith) in
    (sym (take_all 1280 l.table (omega arith)) ∙ (rw all at written), l.invariant.1)
