use Rattle.std.proofs.Common.{arith}
use Rattle.sarif_explain.proofs.DiffMore.{line_ends, line_goes_on, line_is_all}
use Rattle.sarif_explain.proofs.diff.first_line.Goals as goal

pub returns-then-byte-eq10 : goal.returns-then-byte-eq10
returns-then-byte-eq10 c = line_ends c.args.bytes.now c.loop-i.i (omega (arith, c.loop-i-test.true)) c.if-byte-eq10.true c.loop-i.invariant

pub loop-i-preserved : goal.loop-i-preserved
loop-i-preserved c = line_goes_on c.args.bytes.now c.loop-i.i (omega (arith, c.loop-i-test.true)) c.if-byte-eq10.false c.loop-i.invariant

pub returns : goal.returns
returns c = line_is_all c.args.bytes.now c.loop-i.i (omega (arith, c.loop-i-test.false)) c.loop-i.invariant
