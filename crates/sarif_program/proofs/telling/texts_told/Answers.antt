use Rattle.std.proofs.Common.{◌≡◌, [], map, rules}
use Rattle.std.specs.Prelude.{Ok}
use Rattle.std.proofs.lemmas.Result.{IfOk-weaker}
use Rattle.sarif_reports.specs.declared.report.Report.{Report}
use Rattle.sarif_shown.specs.Facts.{facts_of}
use Rattle.sarif_reports.specs.Report.{report_of}
use Rattle.sarif_program.proofs.Made.{made_texts}
use Rattle.sarif_program.proofs.telling.texts_told.Goals as goal

pub returns : goal.returns
returns g c =
    let all = c.args.told.now in
    let told = λ (one : Report). report_of one (facts_of all) in
    let made = c.in_ok-made.made.items in
    IfOk-weaker c.all_made.result _ (λ texts. texts.items ≡ map told c.args.reports.items)
    (λ texts are. made_texts told c.args.reports.items made texts.items (search rules) are (λ i within.
    let one = (c.in_ok-made.ensures.each i (Ok []) within).1 in
    (one.job, one.job_is one.job, one.call.met))) c.all_made.ensures
