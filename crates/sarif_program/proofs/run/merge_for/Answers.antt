use Rattle.std.proofs.Common.{◌≡◌, ℕ, List, Option, arith, refl, rules, subst}
use Rattle.std.specs.Prelude.{option_map}
use Rattle.std.proofs.lemmas.Result.{IfErr-weaker, IfOk-weaker, err_from_is_err_and}
use Rattle.sarif_counts.specs.declared.counts.Counts.{Counts}
use Rattle.sarif_counts.specs.Counts.{count_at}
use Rattle.sarif_log.specs.declared.facts.Facts.{Facts as MergeFacts}
use Rattle.sarif_shown.specs.Facts.{Facts}
use Rattle.sarif_reports.specs.Report.{report_of}
use Rattle.sarif_conditions.specs.declared.facts.PolicyFacts.{PolicyFacts}
use Rattle.sarif_program.specs.Summary.{summary_for}
use Rattle.sarif_scope.specs.declared.facts.ChangeFacts.{ChangeFacts}
use Rattle.sarif_streams.proofs.ReadersRead.{none_has_fallen}
use Rattle.sarif_program.specs.Notes.{lines_for, lines_with}
use Rattle.sarif_program.specs.Reports.{report_for, report_with, texts_for}
use Rattle.sarif_program.proofs.SameFacts.{same_facts, same_lines}
use Rattle.sarif_program.proofs.run.merge_for.Goals as goal

abbrev ruling_of : MergeFacts → Option PolicyFacts
ruling_of facts = option_map (λ f. f.now) facts.ruling

pub returns-in_err-made-clause-risen : goal.returns-in_err-made-clause-risen
returns-in_err-made-clause-risen g c =
    let all = c.args.readers.now in
    record { logs = none_has_fallen all.logs.items; baselines = none_has_fallen all.baselines.items; suppressions = omega arith; policy = omega arith; diff = omega arith }

pub returns-clause-summary : goal.returns-clause-summary
returns-clause-summary g c =
    let policy = c.args.request.now.options.policy in
    IfOk-weaker c.merge_told.result _ (λ all. all.1.summary ≡ summary_for all.0.ruling all.0.change (count_at all.0.counts) policy)
    (λ all told.
    subst (λ (ruling : Option PolicyFacts). all.1.summary ≡ summary_for ruling all.0.change (count_at all.0.counts) policy) told.2.ruling
    (subst (λ (change : Option ChangeFacts). all.1.summary ≡ summary_for (ruling_of told.0) change (count_at all.0.counts) policy) told.2.change
    (subst (λ (counts : Counts). all.1.summary ≡ summary_for (ruling_of told.0) told.0.change (count_at counts) policy) told.2.counts
    (subst (λ (facts : MergeFacts). all.1.summary ≡ summary_for (ruling_of facts) facts.change (count_at facts.counts.now) policy) {x = told.1.0.now} {y = told.0} told.1.2
    (search rules)))))
    c.merge_told.ensures.told

pub returns-clause-lines : goal.returns-clause-lines
returns-clause-lines g c =
    let request = c.args.request.now in
    IfOk-weaker c.merge_told.result _ (λ all. all.1.lines ≡ lines_for request all.0)
    (λ all told.
    subst (λ (lines : List ℕ). all.1.lines ≡ lines) (same_lines request all.0 told.0 told.2)
    (subst (λ (facts : MergeFacts). all.1.lines ≡ lines_with request facts) {x = told.1.0.now} {y = told.0} told.1.2 (search rules)))
    c.merge_told.ensures.told

pub returns-clause-reports : goal.returns-clause-reports
returns-clause-reports g c =
    let request = c.args.request.now in
    let writers = c.args.writers.now in
    IfOk-weaker c.merge_told.result _ (λ all. all.1.reports.items ≡ texts_for writers (report_for request all.0))
    (λ all told.
    subst (λ (facts : Facts). all.1.reports.items ≡ texts_for writers (λ one. report_of one facts)) (same_facts request all.0 told.0 told.2)
    (subst (λ (facts : MergeFacts). all.1.reports.items ≡ texts_for writers (report_with request facts)) {x = told.1.0.now} {y = told.0} told.1.2
    (search rules)))
    c.merge_told.ensures.told

pub returns-in_err-made-clause-refused : goal.returns-in_err-made-clause-refused
returns-in_err-made-clause-refused g c =
    let p = err_from_is_err_and c.from_residual.result c.from_residual.ensures.1 in
    rw (p.1, p.2) (λ other. absurd (other refl))

pub returns-clause-refused : goal.returns-clause-refused
returns-clause-refused g c = IfErr-weaker c.merge_told.result _ _ (λ fault refused. λ other. refused) c.merge_told.ensures.refused
