-- A merge without a diff.
use Rattle.std.proofs.Common.{◌≡◌, Option, None, ap, ◌∙◌}
use Rattle.std.specs.Prelude.{is_some}
use Rattle.sarif_counts.specs.CountOf.{count_of}
use Rattle.sarif_counts.specs.Gate.{gate_of}
use Rattle.sarif_counts.specs.Hits.{verdict_of}
use Rattle.sarif_findings.specs.declared.reporting.Reporting.{Reporting}
use Rattle.sarif_options.specs.declared.policy.Policy.{Policy}
use Rattle.sarif_scope.specs.Counted.{verdict_by}
use Rattle.sarif_scope.specs.Gate.{gate_by}
use Rattle.sarif_log.specs.Copies.{naming}
use Rattle.sarif_log.specs.Log.{log_with}
use Rattle.sarif_log.specs.Told.{told_by, told_of}
use Rattle.sarif_inputs.specs.ChangeIn.{change_or_none, change_read}
use Rattle.sarif_inputs.specs.Inputs.{Inputs, baseline_runs, input_runs}
use Rattle.sarif_inputs.specs.PolicyIn.{conditions_or_none, policy_read}
use Rattle.sarif_log.specs.Ruled.{gate_ruled}
use Rattle.sarif_prepare.specs.By.{ruled_if, told_if}
use Rattle.sarif_merge.specs.MergedLog.{change_given, copies_in_log, file_given, merged_log, ruling_given, runs_counted, runs_in_log, told_given, unused_counted, without_of}

pub no_change : (inputs : Inputs) → inputs.diff ≡ None → change_given inputs ≡ None
no_change inputs none = ap (λ diff. change_or_none (change_read inputs.checks diff)) none

pub no_ruling : (inputs : Inputs) → inputs.policy ≡ None → ruling_given inputs ≡ None
unfolding ruling_given
no_ruling inputs none =
    ap (λ policy. ruled_if (conditions_or_none (policy_read (is_some inputs.diff) policy)) inputs.checks (file_given inputs) (change_given inputs)
    (input_runs inputs) (baseline_runs inputs)) none

pub same_log : (inputs : Inputs) (policy : Policy) → inputs.diff ≡ None → inputs.policy ≡ None
    → merged_log inputs policy
    ≡ log_with (naming (copies_in_log inputs) (gate_of (count_of (runs_counted inputs)) policy (without_of inputs) (unused_counted inputs))) (runs_in_log inputs)
unfolding ruling_given
same_log inputs policy none free =
    ap (λ ruling. log_with (naming (copies_in_log inputs)
    (gate_ruled ruling (change_given inputs) (runs_counted inputs) policy (without_of inputs) (unused_counted inputs))) (runs_in_log inputs))
    (no_ruling inputs free)
    ∙ ap (λ change. log_with (naming (copies_in_log inputs) (gate_by change (runs_counted inputs) policy (without_of inputs) (unused_counted inputs)))
    (runs_in_log inputs)) (no_change inputs none)

pub same_verdict : (inputs : Inputs) (policy : Policy) → inputs.diff ≡ None
    → verdict_by (change_given inputs) policy (runs_counted inputs) ≡ verdict_of (count_of (runs_counted inputs)) policy
same_verdict inputs policy none = ap (λ change. verdict_by change policy (runs_counted inputs)) (no_change inputs none)

pub same_findings : (inputs : Inputs) (asked : Option Reporting) → inputs.diff ≡ None → inputs.policy ≡ None
    → told_given inputs asked ≡ told_of asked (runs_counted inputs)
unfolding told_given
same_findings inputs asked none free =
    ap (λ policy. told_if (conditions_or_none (policy_read (is_some inputs.diff) policy)) inputs.checks (file_given inputs) (change_given inputs) asked
    (input_runs inputs) (baseline_runs inputs)) free
    ∙ ap (λ change. told_by change asked (runs_counted inputs)) (no_change inputs none)
