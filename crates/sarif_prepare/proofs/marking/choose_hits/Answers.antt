use Rattle.sarif_prepare.proofs.MarkedSides.{rejected_err}
use Rattle.sarif_prepare.proofs.marking.choose_hits.Goals as goal

pub returns-in-Err-clause-err : goal.returns-in-Err-clause-err
returns-in-Err-clause-err c =
    rejected_err c.args.choosing.now.choice c.args.hits.now c.in-Err.refusal c.rejection_of.result c.rejection_of.ensures c.in-Err.ensures.err
