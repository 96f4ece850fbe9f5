use Rattle.std.proofs.Common.{inl, inr, subst}
use Rattle.sarif_request.specs.declared.request.Request.{Request}
use Rattle.sarif_gate.specs.Served.{IsRunOf}
use Rattle.sarif_gate.proofs.serve.Goals as goal

pub returns-in-Ok : goal.returns-in-Ok
returns-in-Ok g c = inl (subst (λ (request : Request). IsRunOf request c.merge.result) c.in-Ok.ensures c.merge.ensures)

pub returns-in-Err : goal.returns-in-Err
returns-in-Err g c = inr c.tell_unmade.ensures
