-- The results of a merge as the conditions of its policy see them.
use Rattle.std.specs.Prelude.{List}
use Rattle.sarif_conditions.specs.Judged.{Judged}
use Rattle.sarif_deciding.specs.Matched.{Matched}
use Rattle.sarif_deciding.specs.Results.{results_in}
use Rattle.sarif_inputs.specs.Inputs.{Inputs, baseline_runs, input_runs}
use Rattle.sarif_merge.specs.MergedLog.{change_given, file_given}
use Rattle.sarif_policy.specs.declared.condition.GateCondition.{GateCondition}
use Rattle.sarif_prepare.specs.Ruled.{matched_in}

-- the matched results, if each result is counted
abbrev pub matched_given : Inputs → Matched
matched_given inputs =
    matched_in inputs.checks.matching (file_given inputs) (change_given inputs) (input_runs inputs)
    (baseline_runs inputs)

-- the current results, and then those of baselines that match none
abbrev pub results_given : Inputs → List GateCondition → List Judged
results_given inputs cs = results_in cs (matched_given inputs)
