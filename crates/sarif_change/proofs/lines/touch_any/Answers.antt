use Rattle.std.proofs.Common.{arith}
use Rattle.sarif_change.proofs.RaisedMore.{reached}
use Rattle.sarif_change.proofs.lines.touch_any.Goals as goal

pub returns : goal.returns
returns c =
    reached c.args.spans.now c.args.lines c.count_to-count.result (record { first = 0; last = 0 }) c.count_to-count.ensures.is c.requires.last
    (omega (arith, c.if-count-eq0.false)) c.count_to-count.ensures.within
