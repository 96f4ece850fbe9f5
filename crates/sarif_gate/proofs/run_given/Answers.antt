use Rattle.std.proofs.Common.{◌≡◌, List, ℕ, inl, inr, map, string_bytes, subst}
use Rattle.std.specs.Prelude.{Ok, Err}
use Rattle.sarif_arguments.specs.Replaced.{AreReplaced, HoldsForFault}
use Rattle.sarif_arguments.specs.System.{HasGiven}
use Rattle.sarif_arguments.specs.declared.fault.ArgumentsFault.{ArgumentsFault}
use Rattle.sarif_gate.specs.Given.{AreServedAs, AreServedWith, refusal_status}
use Rattle.sarif_gate.proofs.run_given.Goals as goal
use Rattle.sarif_model.specs.declared.refusal.Refusal.{Refusal}
use Rattle.sarif_model.specs.declared.refusal.Refusal.TheVariants as refusal
use Rattle.sarif_request.specs.declared.terminal.TerminalFacts.{TerminalFacts}

refused : (facts : TerminalFacts) (given : List (List ℕ)) (found : Refusal ArgumentsFault) (status : ℕ)
    → HoldsForFault (AreReplaced HasGiven given) found → status ≡ refusal_status found → AreServedWith facts given status
refused facts given (refusal.Fault fault) status replaced e = inl (Err fault, replaced, e)
refused facts given refusal.OutOfMemory status replaced e = inr e

pub returns-in-Ok : goal.returns-in-Ok
returns-in-Ok g c =
    let served = subst (λ words. AreServedAs c.args.facts (Ok (map string_bytes words)) c.run.result)
    c.as_slice.ensures.value c.run.ensures in
    inl (Ok (map string_bytes c.in-Ok.words.items), c.in-Ok.ensures, served)

pub returns-in-Err : goal.returns-in-Err
returns-in-Err g c =
    refused c.args.facts (map string_bytes c.args.words.now) c.in-Err.refusal c.tell_refusal.result c.in-Err.ensures c.tell_refusal.ensures
