use Rattle.std.proofs.Common.{rules, ◌≡◌, ◌≤◌, length, vec_len, arith, ap, ◌∙◌, sym, subst}
use Rattle.std.proofs.lemmas.List.{length-map}
use Rattle.sarif_model.specs.Run.{results_total}
use Rattle.sarif_runs.specs.Internal.Opened.{placed_of}
use Rattle.sarif_runs.specs.Judging.{run_values}
use Rattle.sarif_inputs.specs.Internal.ReadRun.{placed_read}
use Rattle.sarif_inputs.proofs.OpenedParts.{logs_within, are_runs}
use Rattle.sarif_inputs.proofs.sources.open_sources.Goals as goal
use Rattle.sarif_model.specs.Limits.{most_results, most_runs}

pub split_off-requires : goal.split_off-requires
split_off-requires g c =
    let given = c.requires.indexes in
    let found = c.in_ok-all.ensures in
    let opened = c.in_ok-current.current in
    let are = c.in_ok-current.ensures ∙ found.all given.0 given.1 given.2 in
    let within = logs_within c.args.opening.checks.now given.0 given.1 opened.items c.in_ok-all.field-0.inputs are (found.inputs given.0 given.1 given.2) in
    let long : vec_len opened ≡ length opened.items = search rules in
    omega (arith, within, long)

pub returns-clause-runs : goal.returns-clause-runs
returns-clause-runs g c = λ ls bs indexed.
    let found = c.in_ok-all.ensures in
    let read = c.in_ok-all.field-0.all.items in
    let opened = c.in_ok-current.current.items in
    let same = c.in_ok-current.ensures in
    let few : length opened ≤ most_runs = omega (arith, found.few, ap length same, length-map opened placed_of, length-map read placed_read) in
    let few_results = subst (λ ps. results_total (run_values ps) ≤ most_results) (sym same) found.few_results in
    are_runs c.args.opening.checks.now ls bs opened c.in_ok-all.field-0.inputs (same ∙ found.all ls bs indexed) (found.inputs ls bs indexed) _
    c.in_ok-baseline.ensures.items c.in_ok-baseline.ensures.tail few few_results indexed.few_logs indexed.few_baselines (found.faults ls bs indexed)
