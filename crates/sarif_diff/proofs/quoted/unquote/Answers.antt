use Rattle.std.proofs.Common.{◌∙◌, sym}
use Rattle.sarif_diff.proofs.QuotedMore.{stops}
use Rattle.sarif_diff.proofs.quoted.unquote.Goals as goal

pub returns-in-Err-clause-err : goal.returns-in-Err-clause-err
returns-in-Err-clause-err c = λ fault same.
    sym c.loop-i.invariant.0
    ∙ stops c.loop-i.name c.args.text.now c.loop-i.i c.loop-i.escape fault c.loop-i-test.true (c.in-Err.ensures.err fault same)
