use Rattle.std.proofs.Common.{◌≡◌, false, List, ◌++◌, ◌∙◌}
use Rattle.std.proofs.lemmas.Bool.{or_from}
use Rattle.std.proofs.lemmas.List.Folds.{list_any-append}
use Rattle.std.specs.List.{list_any}
use Rattle.serde_json.specs.Data.{Data}
use Rattle.serde_json.specs.Written.{has_float}
use Rattle.sarif_runs.specs.Judging.{records_of, run_values}
use Rattle.sarif_log.specs.LogBy.{current_runs, leftover_runs, limited_records, states_of, taken_of}
use Rattle.sarif_inputs.specs.Inputs.{input_runs, baseline_runs, log_sources, baseline_sources}
use Rattle.sarif_inputs.proofs.ReadFacts.{whole}
use Rattle.sarif_merge.specs.MergedLog.{file_given}
use Rattle.sarif_merge.proofs.laws.merged_runs_hold_no_fraction.Goals as goal

both_whole : (ds es : List Data) → list_any has_float ds ≡ false → list_any has_float es ≡ false → list_any has_float (ds ++ es) ≡ false
both_whole ds es of_ds of_es = list_any-append has_float ds es ∙ or_from (list_any has_float ds) (list_any has_float es) of_ds of_es

pub returns : goal.returns
returns c = λ inputs.
    let now = input_runs inputs in
    let before = baseline_runs inputs in
    let reads = c.read_runs_hold_no_fraction.ensures in
    both_whole (current_runs inputs.checks.matching (file_given inputs) now before) (leftover_runs inputs.checks.matching now before)
    (c.written_runs_hold_no_fraction.ensures.current (file_given inputs) (limited_records (file_given inputs) now) (states_of inputs.checks.matching (records_of now) (records_of before))
    (run_values now) (whole reads (log_sources inputs)))
    (c.written_runs_hold_no_fraction.ensures.baseline (records_of before) (taken_of inputs.checks.matching (records_of now) (records_of before)) (run_values before)
    (whole reads (baseline_sources inputs)))
