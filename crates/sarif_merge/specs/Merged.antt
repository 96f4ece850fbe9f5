-- What an accepted merge gives.
use Rattle.std.specs.Prelude.{◌≡◌, ℕ, ◌++◌, List, [], Option, length, option_map}
use Rattle.serde_json.specs.Data.{Data}
use Rattle.serde_json.specs.Written.{compact_text}
use Rattle.sarif_options.specs.declared.policy.Policy.{Policy}
use Rattle.sarif_findings.specs.declared.reporting.Reporting.{Reporting}
use Rattle.sarif_log.specs.Log.{log_with}
use Rattle.sarif_log.specs.declared.merged.Merged.{Merged}
use Rattle.sarif_log.specs.Assembled.{HasGate}
use Rattle.sarif_inputs.specs.Faults.{faults_of}
use Rattle.sarif_inputs.specs.Inputs.{Inputs}
use Rattle.sarif_merge.specs.MergedLog.{change_given, copies_in_log, expired_in, inputs_in_log, output_text, ruling_given, runs_counted, told_given, unused_counted, without_of}

-- the text begins with these runs, and goes on with others
abbrev pub HoldsFirst : List Data → List ℕ → Type 0
HoldsFirst runs text =
    (gate : Data) × (rest : List Data) × (text ≡ compact_text (log_with gate (runs ++ rest)))

-- there are no errors, and the result is the defined merge: its text begins with the input runs, it is the text of
-- the merged log; counts, verdict, numbers and findings are those of the results in it that are counted, with a policy
-- the verdict is that of its conditions, and expired entries are counted among the unused
pub record IsMerged (inputs : Inputs) (policy : Policy) (asked : Option Reporting)
    (merged : Merged) : Type 0 where
  pub faultless : faults_of inputs ≡ []
  pub begins : HoldsFirst (inputs_in_log inputs) merged.log
  pub log : merged.log ≡ output_text inputs policy
  pub gate : HasGate (runs_counted inputs) (change_given inputs) policy (ruling_given inputs)
      (without_of inputs) (unused_counted inputs) merged
  pub expired : merged.expired ≡ expired_in inputs
  pub told : merged.findings.items ≡ told_given inputs asked
  pub copies : merged.copies ≡ option_map length (copies_in_log inputs)
