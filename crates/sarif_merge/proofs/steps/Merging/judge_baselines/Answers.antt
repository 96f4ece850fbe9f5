use Rattle.std.proofs.Common.{◌≡◌, Err, refl, sym, subst}
use Rattle.std.proofs.lemmas.Result.{err_from_is_err_and}
use Rattle.std.specs.Prelude.{IfErr}
use Rattle.sarif_merge.specs.Internal.Steps.{IsRejection}
use Rattle.sarif_merge.proofs.StepFacts.{are_opened_baselines, baselines_judged, rejected_baselines}
use Rattle.sarif_merge.proofs.steps.Merging.judge_baselines.Goals as goal

pub judge_runs-requires-clause-few : goal.judge_runs-requires-clause-few
judge_runs-requires-clause-few g c κs within = (are_opened_baselines c.args.self.now c.args.runs.items c.requires.runs).few

pub judge_runs-requires-clause-few_results : goal.judge_runs-requires-clause-few_results
judge_runs-requires-clause-few_results g c κs within = (are_opened_baselines c.args.self.now c.args.runs.items c.requires.runs).few_results

pub returns-in_err-judged-clause-refused : goal.returns-in_err-judged-clause-refused
returns-in_err-judged-clause-refused g c =
    let fault = c.in_err-judged.field-0.0 in
    let p = err_from_is_err_and c.from_residual.result c.from_residual.ensures.1 in
    let is : c.from_residual.result ≡ Err fault = rw (p.1, p.2) refl in
    subst (λ r. IfErr r (IsRejection c.args.self.now)) (sym is)
    (rejected_baselines c.args.self.now c.args.runs.items c.args.files.now.change.now fault c.requires.runs c.requires.change c.requires.logs
    c.in_err-judged.ensures.faults c.in_err-judged.ensures.quiet)

pub returns-clause-judged : goal.returns-clause-judged
returns-clause-judged g c =
    baselines_judged c.args.self.now c.args.runs.items c.args.files.now.file.now c.in_ok-judged.judged c.requires.runs c.requires.file
    c.in_ok-judged.ensures.runs c.in_ok-judged.ensures.outcomes c.in_ok-judged.ensures.faults
