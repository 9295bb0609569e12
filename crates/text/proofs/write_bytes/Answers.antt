-- `text::write_bytes` meets its contract.
use Rattle.std.proofs.Common.{arith, ap, refl, rules}
use Rattle.std.proofs.Math.Seq.{take_all}
use Rattle.text.specs.Text.{hex, bytes_text}
use Rattle.text.proofs.Laws.{wrote_none, wrote_then, wrote_as, wrote_three, bytes_more}
use Rattle.text.proofs.write_bytes.Goals as goal

pub loop-byte-init : goal.loop-byte-init
unfolding bytes_text
loop-byte-init c = record { written = wrote_none _ _; place = omega arith; size = refl }

pub loop-byte-preserved : goal.loop-byte-preserved
unfolding hex
loop-byte-preserved c = record {
  written = wrote_as (bytes_more _ _ c.loop-byte-test.true) (wrote_then c.loop-byte.invariant.written (wrote_as (simp (c.digit_of.ensures, c.digit_of-in-loop-byte.ensures)) (wrote_three _ _ _ _ _)));
  place = omega arith;
  size = search rules;
}

pub returns-clause-written : goal.returns-clause-written
returns-clause-written c = wrote_as (ap bytes_text (take_all _ _ c.loop-byte-test.false)) c.loop-byte.invariant.written
