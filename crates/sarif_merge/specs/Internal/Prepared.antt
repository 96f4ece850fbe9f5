-- What is prepared before the log is assembled.
use Rattle.std.specs.Prelude.{◌≡◌, [], Option}
use Rattle.sarif_options.specs.declared.policy.Policy.{Policy}
use Rattle.sarif_options.specs.declared.upkeep.Upkeep.{Upkeep}
use Rattle.sarif_findings.specs.declared.reporting.Reporting.{Reporting}
use Rattle.sarif_log.specs.declared.prepared.Prepared.{Prepared}
use Rattle.sarif_prepare.specs.Kept.{IsKept}
use Rattle.sarif_choice.specs.declared.choice.Choosing.{Choosing}
use Rattle.sarif_prepare.specs.By.{IsPreparedBy}
use Rattle.sarif_inputs.specs.Faults.{faults_of}
use Rattle.sarif_entries.specs.Given.{file_or_none}
use Rattle.sarif_inputs.specs.Inputs.{Inputs, baseline_runs, input_runs}
use Rattle.sarif_merge.specs.Life.{merge_counted}
use Rattle.sarif_merge.specs.MergedLog.{change_given, conditions_given, expired_in, file_in}

-- there are no errors, and everything that is written for the merge is there
pub record IsPreparedFor (inputs : Inputs) (policy : Policy) (asked : Option Reporting)
    (choice : Option Choosing) (upkeep : Option Upkeep) (prepared : Prepared) : Type 0 where
  pub faultless : faults_of inputs ≡ []
  pub written : IsPreparedBy inputs.checks
      (file_in (file_or_none inputs.suppressions inputs.today))
      (input_runs inputs)
      (baseline_runs inputs)
      (change_given inputs) policy (conditions_given inputs) asked prepared
  pub expired : prepared.expired ≡ expired_in inputs
  pub kept : IsKept (merge_counted inputs policy choice) upkeep prepared.life
