use Rattle.std.proofs.Common.{◌≡◌, ◌∙◌, ℕ, List, Option, ap, map, subst}
use Rattle.std.specs.Prelude.{option_map}
use Rattle.std.proofs.lemmas.Result.{IfOk-weaker}
use Rattle.sarif_findings.specs.declared.finding.Finding.{Finding}
use Rattle.sarif_reports.specs.declared.report.Report.{Report}
use Rattle.sarif_reports.specs.Report.{report_of}
use Rattle.sarif_program.specs.Reports.{facts_with, texts_for}
use Rattle.sarif_program.proofs.Made.{map_twice}
use Rattle.sarif_program.proofs.telling.reports_of.Goals as goal

pub returns : goal.returns
returns g c =
    let facts = c.args.facts.now in
    let told = λ (findings : List Finding) (link : Option (List ℕ)) (one : Report).
    report_of one (record (facts_with c.args.request.now facts) { findings = findings; link = link }) in
    let writers = c.args.writers.now in
    let found = c.as_slice.result.now in
    let lent = option_map (λ link. link.now) c.as_ref.result in
    IfOk-weaker c.texts_told.result _ (λ texts. texts.items ≡ texts_for writers (told facts.findings.now.items c.args.request.now.link))
    (λ texts are.
    subst (λ link. texts.items ≡ texts_for writers (told facts.findings.now.items link)) {x = lent} {y = c.args.request.now.link} c.as_ref.ensures.value
    (subst (λ findings. texts.items ≡ texts_for writers (told findings lent)) {x = found} {y = facts.findings.now.items} c.as_slice.ensures.value
    (are ∙ ap (map (told found lent)) c.in_ok-reports.ensures
    ∙ map_twice (λ wanted. wanted.report) (told found lent) writers)))
    c.texts_told.ensures
