-- The errors of the inputs of a merge, in the order of the checks, and the meaning of a rejection.
use Rattle.std.specs.Prelude.{◌≡◌, ◌≤◌, ◌<◌, ℕ, nat_lt, List, [], ◌∷◌, ◌++◌, ◌⊎◌, length, Option, Result, Ok, Err, is_some, if◌then◌else◌}
use Rattle.sarif_entries.specs.File.{File}
use Rattle.sarif_entries.specs.Given.{file_or_none}
use Rattle.sarif_entries.specs.declared.fault.FileFault.{FileFault}
use Rattle.sarif_model.specs.declared.merge_fault.Source.{Source}
use Rattle.sarif_model.specs.declared.merge_fault.Source.TheVariants.{Log, Baseline}
use Rattle.sarif_model.specs.declared.merge_fault.At.TheVariants.{Whole}
use Rattle.sarif_model.specs.declared.fault.Fault.TheVariants.{TooMany}
use Rattle.sarif_model.specs.declared.merge_fault.MergeFault.{MergeFault}
use Rattle.sarif_model.specs.MergeFault.{cause_of, fault_at}
use Rattle.sarif_entries.specs.FileFault.{fault_of_file}
use Rattle.sarif_inputs.specs.ChangeIn.{change_read, faults_of_change}
use Rattle.sarif_inputs.specs.Inputs.{Inputs, all_sources, all_runs}
use Rattle.sarif_inputs.specs.PolicyIn.{faults_of_policy, policy_read}
use Rattle.sarif_inputs.specs.SourceFaults.{source_faults}
use Rattle.sarif_runs.specs.Judging.{faults_of_runs}
use Rattle.sarif_model.specs.FirstFault.{first}
use Rattle.sarif_model.specs.Limits.{most_sources}

-- too many sources of a kind: the first past the limit
abbrev pub number_faults : (ℕ → Source) → List (List ℕ) → List MergeFault
number_faults name sources =
    if nat_lt most_sources (length sources)
    then fault_at (Whole (name most_sources)) (cause_of TooMany) ∷ [] else []

-- too many logs, or otherwise too many baselines
abbrev pub IsTooMany : ℕ → ℕ → MergeFault → Type 0
IsTooMany logs baselines fault =
    ((most_sources < logs)
    × (fault ≡ record { at = Whole (Log most_sources); cause = cause_of TooMany }))
    ⊎ ((logs ≤ most_sources) × (most_sources < baselines)
    × (fault ≡ record { at = Whole (Baseline most_sources); cause = cause_of TooMany }))

abbrev pub file_faults : Result File FileFault → List MergeFault
file_faults (Ok entries) = []
file_faults (Err fault) = fault_of_file fault ∷ []

-- the errors in order: too many logs, too many baselines; the reading of each source and the limits of all so far;
-- the suppression file; the policy; the diff; each input run and its results, and then each baseline run and its results
abbrev pub faults_of : Inputs → List MergeFault
faults_of inputs =
    number_faults Log inputs.logs
    ++ (number_faults Baseline inputs.baselines
    ++ (source_faults 0 0 (all_sources inputs)
    ++ (file_faults (file_or_none inputs.suppressions inputs.today)
    ++ (faults_of_policy (policy_read (is_some inputs.diff) inputs.policy)
    ++ (faults_of_change (change_read inputs.checks inputs.diff)
    ++ faults_of_runs (all_runs inputs))))))

abbrev pub first_fault : Inputs → Option MergeFault
first_fault inputs = first (faults_of inputs)
