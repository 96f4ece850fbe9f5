-- What the conditions of a policy see of a merge whose copies aren't counted.
use Rattle.std.specs.Prelude.{◌++◌, List, filter, flat_map}
use Rattle.sarif_conditions.specs.Decided.{impact_of}
use Rattle.sarif_conditions.specs.Judged.{Judged}
use Rattle.sarif_copies.specs.Copies.{copies_of}
use Rattle.sarif_deciding.specs.Matched.{Matched}
use Rattle.sarif_deciding.specs.Results.{absent_results, current_results}
use Rattle.sarif_inputs.specs.Inputs.{Inputs, baseline_runs, input_runs}
use Rattle.sarif_log.specs.LogBy.{listing_of}
use Rattle.sarif_merge.specs.MergedLog.{change_given, current_of, file_given}
use Rattle.sarif_merge.specs.OwnResult.{baseline_of}
use Rattle.sarif_model.specs.Run.{results_of}
use Rattle.sarif_policy.specs.declared.condition.GateCondition.{GateCondition}
use Rattle.sarif_prepare.specs.Chosen.{is_hit_by}
use Rattle.sarif_prepare.specs.Once.{limited_once, states_once}
use Rattle.sarif_prepare.specs.Ruled.{drafts_before}
use Rattle.sarif_read.specs.Unmarked.{unmarked}
use Rattle.sarif_results.specs.Drafts.{applied_of, drafts_by}
use Rattle.sarif_runs.specs.Judging.{run_values}
use Rattle.sarif_laws_once.specs.CopyOf.{matched_in}

-- all results of a merge, with their copies, as they are written: a copy has the state of its finding and the entries of
-- the suppression file that admit its finding, and a copy in baselines is matched if its finding is
abbrev pub all_matched : Inputs → Matched
all_matched inputs =
    let file = file_given inputs in
    let records = limited_once file (current_of inputs) in record {
      file = file;
      change = change_given inputs;
      runs = input_runs inputs;
      records = records;
      states = states_once inputs.checks.matching (current_of inputs) (baseline_of inputs);
      drafts = drafts_by (listing_of file) (applied_of file) records
          (flat_map results_of (run_values (input_runs inputs)));
      before = baseline_runs inputs;
      known = baseline_of inputs;
      taken = matched_in inputs;
      left = unmarked (matched_in inputs) (drafts_before (baseline_runs inputs));
    }

-- the current ones, as conditions see them, without the copies among them
abbrev pub current_without_copies : Inputs → List GateCondition → List Judged
current_without_copies inputs cs =
    unmarked (copies_of (current_of inputs)) (current_results cs (all_matched inputs))

-- the absent ones without the copies among them
abbrev pub absent_without_copies : Inputs → List GateCondition → List Judged
absent_without_copies inputs cs =
    unmarked (unmarked (matched_in inputs) (copies_of (baseline_of inputs)))
    (absent_results cs (all_matched inputs))

-- both
abbrev pub results_without_copies : Inputs → List GateCondition → List Judged
results_without_copies inputs cs =
    current_without_copies inputs cs ++ absent_without_copies inputs cs

-- the current ones that are hits of these conditions
abbrev pub hits_without_copies : Inputs → List GateCondition → List Judged
hits_without_copies inputs cs =
    filter (λ r. is_hit_by (impact_of cs (results_without_copies inputs cs) r))
    (current_without_copies inputs cs)
