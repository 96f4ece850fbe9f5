-- A merge that ignores fingerprints, and the merge of the same logs and baselines without these fingerprints.
use Rattle.std.specs.Prelude.{◌≡◌, ℕ, Bool, List, [], Ok, map}
use Rattle.std.specs.List.{AllZip}
use Rattle.serde_json.specs.Data.{Data}
use Rattle.sarif_match.specs.Partners.{partners_in}
use Rattle.sarif_read.specs.Reading.{log_of}
use Rattle.sarif_runs_laws.specs.Ignoring.{run_without}
use Rattle.sarif_inputs.specs.Faults.{faults_of}
use Rattle.sarif_inputs.specs.Inputs.{Inputs}
use Rattle.sarif_inputs_laws.specs.Parts.{baseline_in, current_in}

-- these bytes are read as the runs of those, without the fingerprints of these names
abbrev pub IsReadWithout : Bool → List (List ℕ) → List ℕ → List ℕ → Type 0
IsReadWithout allow names those these =
    (runs : List Data) × (log_of allow those ≡ Ok runs)
    × (log_of allow these ≡ Ok (map (run_without names) runs))

-- the logs or baselines are read without the fingerprints that a merge ignores
abbrev pub AreReadWithout : Inputs → List (List ℕ) → List (List ℕ) → Type 0
AreReadWithout inputs those these =
    AllZip (IsReadWithout inputs.checks.allow_external inputs.checks.ignored) those these

-- the merge of these logs and baselines with the same suppression file, policy, diff, date and requirements, which
-- ignores nothing
abbrev pub ignoring_none : Inputs → List (List ℕ) → List (List ℕ) → Inputs
ignoring_none inputs logs baselines =
    record inputs {
      logs = logs;
      baselines = baselines;
      checks = record inputs.checks { ignored = [] };
    }

-- another merge without errors, with the same records and the same matches
pub record HasSameRecords (inputs other : Inputs) : Type 0 where
  pub faultless : faults_of other ≡ []
  pub current : current_in other ≡ current_in inputs
  pub baseline : baseline_in other ≡ baseline_in inputs
  pub partners : partners_in other.checks.matching (current_in other) (baseline_in other)
      ≡ partners_in inputs.checks.matching (current_in inputs) (baseline_in inputs)
