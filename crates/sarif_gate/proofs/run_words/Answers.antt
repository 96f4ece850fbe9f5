use Rattle.std.proofs.Common.{subst}
use Rattle.std.specs.Prelude.{Ok, Err}
use Rattle.sarif_request.specs.declared.request.Request.{Request}
use Rattle.sarif_gate.specs.Served.{IsServed}
use Rattle.sarif_gate.proofs.run_words.Goals as goal

pub returns-in-Ok : goal.returns-in-Ok
returns-in-Ok g c =
    let served = subst (λ (asked : Request). IsServed asked c.serve.result) c.at_terminal.ensures c.serve.ensures in
    (Ok c.in-Ok.asked, c.in-Ok.ensures, served)

pub returns-in-Err : goal.returns-in-Err
returns-in-Err g c = (Err c.in-Err.fault, c.in-Err.ensures, c.of_words.ensures)
