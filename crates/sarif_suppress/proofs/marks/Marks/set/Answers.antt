use Rattle.std.proofs.Common.{arith}
use Rattle.std.proofs.lemmas.Grind.{common_steps}
use Rattle.sarif_suppress.proofs.Marked.{one_more}
use Rattle.sarif_suppress.proofs.marks.Marks.set.Goals as goal

pub returns-clause-one_more : goal.returns-clause-one_more
returns-clause-one_more c = λ file rs r was found.
    one_more c.args.self.now _ c.args.applied.now.entries file rs r (grind (arith, common_steps)) was found
