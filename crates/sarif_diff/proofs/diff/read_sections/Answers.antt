use Rattle.std.proofs.Common.{◌∙◌, sym}
use Rattle.sarif_diff.proofs.ReadingMore.{stops}
use Rattle.sarif_diff.proofs.diff.read_sections.Goals as goal

pub returns-in-Err-clause-err : goal.returns-in-Err-clause-err
returns-in-Err-clause-err c = λ fault same.
    sym c.loop-rest.invariant.0
    ∙ stops c.loop-rest.number c.loop-rest.added c.loop-rest.reading c.loop-rest.draft c.loop-rest.rest.now c.cut_line.result.0.now
    c.cut_line.result.1.now fault
    c.cut_line.ensures.cut (c.in-Err.ensures.err fault same)
