use Rattle.std.proofs.lemmas.Iterator.{YieldsList-from_take}
use Rattle.std.proofs.lemmas.Iterator.Adapters.{YieldsList-from_skip}
use Rattle.std.proofs.lemmas.Iterator.Consumers.{map_from_collect, YieldsList-at}
use Rattle.std.proofs.lemmas.Iterator.Splits.{YieldsList-from_lines}
use Rattle.sarif_findings.proofs.code_excerpt.lines_from.Goals as goal

pub returns : goal.returns
returns c =
    map_from_collect _ c.collect.ensures.ran
    (YieldsList-from_take 5 (YieldsList-at c.take.ensures.source
    (YieldsList-from_skip c.args.from
    (YieldsList-at c.skip.ensures.source (YieldsList-from_lines c.args.text.now c.lines.ensures.rest))
    c.skip.ensures.count)) c.take.ensures.count)
