use Rattle.std.proofs.Common.{◌∙◌, ◌++◌, ap, sym, map}
use Rattle.serde_json.specs.View.{view}
use Rattle.sarif_findings.specs.Placeholders.{filled_from}
use Rattle.sarif_findings.specs.Internal.ShownSoFar.{shown_with}
use Rattle.sarif_findings.proofs.MessageMore.{filled_empty}
use Rattle.sarif_findings.proofs.placeholders.push_filled.Goals as goal

pub loop-c-init : goal.loop-c-init
loop-c-init c = λ more.
    ap (λ cs. shown_with c.args.so_far.now (cs ++ more))
    (sym (c.pass_empties.ensures.same ∙ ap (filled_from (map view c.args.args.now) 0) c.new-rest.ensures))

pub loop-c-preserved : goal.loop-c-preserved
loop-c-preserved c = λ more.
    c.loop-c.invariant more
    ∙ ap (λ cs. shown_with c.loop-c.so_far (filled_from (map view c.args.args.now) c.loop-c.skip cs ++ more)) c.in-Some.ensures.is
    ∙ c.in_ok-skip.ensures more
    ∙ ap (λ cs. shown_with c.push_next.new.so_far (cs ++ more)) (sym c.pass_empties-in-Some.ensures.same)

pub returns : goal.returns
returns c = λ rest.
    c.loop-c.invariant rest
    ∙ filled_empty c.loop-c.so_far (map view c.args.args.now) c.loop-c.skip _ rest c.in_default.ensures.is
