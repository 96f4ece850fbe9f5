use Rattle.std.proofs.Common.{◌≡◌, ◌∙◌, ◌++◌, [], false, None, ap, append-nil}
use Rattle.std.specs.Prelude.{is_some}
use Rattle.sarif_inputs.specs.ChangeIn.{change_or_none, change_read}
use Rattle.sarif_inputs.specs.Faults.{faults_of}
use Rattle.sarif_inputs.specs.Inputs.{Inputs, baseline_runs, input_runs}
use Rattle.sarif_inputs.specs.PolicyIn.{conditions_or_none, faults_of_policy, policy_read}
use Rattle.sarif_inputs_laws.proofs.Parts.{apart_faults}
use Rattle.sarif_inputs_laws.proofs.Renumbered.{faults-append, none_both}
use Rattle.sarif_merge.specs.MergedLog.{change_given, file_given, runs_counted}
use Rattle.sarif_prepare.specs.By.{logged_by}
use Rattle.sarif_runs.specs.Judging.{faults_of_runs}
use Rattle.sarif_scope.specs.Counted.{hits_by, verdict_by}
use Rattle.sarif_laws.specs.OneChange.{without_diff}
use Rattle.sarif_laws.proofs.change.without_a_diff_all_hits_count.Goals as goal

-- only the policy may need the diff
only_policy : (inputs : Inputs) → faults_of inputs ≡ [] → faults_of (without_diff inputs) ≡ faults_of_policy (policy_read false inputs.policy)
only_policy inputs none =
    let fine = apart_faults inputs none in
    let now = input_runs inputs in
    let before = baseline_runs inputs in
    let policy = faults_of_policy (policy_read false inputs.policy) in
    let runs = faults-append now before ∙ none_both (faults_of_runs now) (faults_of_runs before) fine.log_runs fine.older_runs in
    let others : faults_of (without_diff inputs) ≡ policy ++ [] =
    λ i. fine.logs i ++ (fine.baselines i ++ (fine.sources i ++ (fine.file i ++ (policy ++ runs i)))) in
    others ∙ append-nil policy

pub returns : goal.returns
returns c = record {
  faultless = λ inputs no_policy none. only_policy inputs none ∙ ap (λ policy. faults_of_policy (policy_read false policy)) no_policy;
  needed = only_policy;
  log = λ inputs policy no_diff no_policy.
      ap (λ given. logged_by inputs.checks (file_given inputs) (input_runs inputs) (baseline_runs inputs) (change_given inputs) policy
      (conditions_or_none (policy_read (is_some inputs.diff) given))) no_policy
      ∙ ap (λ diff. logged_by inputs.checks (file_given inputs) (input_runs inputs) (baseline_runs inputs)
      (change_or_none (change_read inputs.checks diff)) policy None) no_diff;
  hits = λ inputs policy no_diff.
      ap (λ diff. hits_by (change_or_none (change_read inputs.checks diff)) policy (runs_counted inputs)) no_diff;
  verdict = λ inputs policy no_diff.
      ap (λ diff. verdict_by (change_or_none (change_read inputs.checks diff)) policy (runs_counted inputs)) no_diff;
}
