use Rattle.std.proofs.Common.{arith}
use Rattle.sarif_explain.proofs.DiffMore.{rest_begins, rest_is_later, rest_is_none}
use Rattle.sarif_explain.proofs.diff.past_line.Goals as goal

pub returns-then-byte-eq10 : goal.returns-then-byte-eq10
returns-then-byte-eq10 c = rest_begins c.args.bytes.now c.loop-i.i (omega (arith, c.loop-i-test.true)) c.if-byte-eq10.true c.loop-i.invariant

pub loop-i-preserved : goal.loop-i-preserved
loop-i-preserved c = rest_is_later c.args.bytes.now c.loop-i.i (omega (arith, c.loop-i-test.true)) c.if-byte-eq10.false c.loop-i.invariant

pub returns : goal.returns
returns c = rest_is_none c.args.bytes.now c.loop-i.i (omega (arith, c.loop-i-test.false)) c.loop-i.invariant
