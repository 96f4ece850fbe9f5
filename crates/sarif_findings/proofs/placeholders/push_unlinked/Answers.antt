use Rattle.std.proofs.Common.{◌∙◌, ◌++◌, ap}
use Rattle.sarif_findings.specs.Internal.ShownSoFar.{shown_with}
use Rattle.sarif_findings.specs.Internal.Unlinked.{left}
use Rattle.sarif_findings.proofs.placeholders.push_unlinked.Goals as goal

pub loop-c-preserved : goal.loop-c-preserved
loop-c-preserved c = λ more.
    c.loop-c.invariant more ∙ ap (λ cs. shown_with c.loop-c.so_far (cs ++ more)) c.in-Some.ensures.is
    ∙ c.in_ok-push.ensures (left c.next.new.self ++ more)

pub returns : goal.returns
returns c = λ rest. c.loop-c.invariant rest ∙ ap (λ cs. shown_with c.loop-c.so_far (cs ++ rest)) c.in_default.ensures.is
