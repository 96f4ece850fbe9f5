-- Two merges with the same suppression file, policy, diff, date and requirements, and the merge of the inputs of both.
use Rattle.std.specs.Prelude.{◌≡◌, ◌&&◌, ◌++◌, ℕ, List, [], Option, Some, Ok, length, slice_get}
use Rattle.sarif_model.specs.declared.record.Record.{Record}
use Rattle.sarif_evidence.specs.declared.version.MatchingVersion.{MatchingVersion}
use Rattle.sarif_match.specs.Partners.{partners_in}
use Rattle.sarif_match_laws.specs.ByTool.{IsMatchedApart, moved}
use Rattle.sarif_entries.specs.declared.entry.Entry.{Entry}
use Rattle.sarif_entries.specs.File.{File}
use Rattle.sarif_entries.specs.Given.{file_or_none}
use Rattle.sarif_suppress.specs.Limited.{limited}
use Rattle.sarif_suppress.specs.Suppressing.{is_unused}
use Rattle.sarif_runs.specs.Judging.{records_of, run_values}
use Rattle.sarif_inputs.specs.Faults.{faults_of}
use Rattle.sarif_inputs.specs.Inputs.{Inputs, baseline_runs, input_runs}

-- the same suppression file, policy, diff, date and requirements, with these logs and baselines
abbrev pub with_sources : Inputs → List (List ℕ) → List (List ℕ) → Inputs
with_sources inputs logs baselines = record inputs { logs = logs; baselines = baselines }

-- the records of all results of the logs
abbrev pub current_in : Inputs → List Record
current_in inputs = records_of (input_runs inputs)

-- the records of all results of the baselines that aren't absent there
abbrev pub baseline_in : Inputs → List Record
baseline_in inputs = records_of (baseline_runs inputs)

-- a merge of the inputs of two others
pub record HasParts (first second both : Inputs) : Type 0 where
  -- the two others have no errors
  pub first_faultless : faults_of first ≡ []
  pub second_faultless : faults_of second ≡ []
  -- the runs and the records of their results are those of the first merge, and then those of the second
  pub logs : run_values (input_runs both)
      ≡ run_values (input_runs first) ++ run_values (input_runs second)
  pub baselines : run_values (baseline_runs both)
      ≡ run_values (baseline_runs first) ++ run_values (baseline_runs second)
  pub current : current_in both ≡ current_in first ++ current_in second
  pub baseline : baseline_in both ≡ baseline_in first ++ baseline_in second
  -- an entry of a suppression file is unused exactly if it is unused in both; each counts its limits from 0
  pub unused : (given : Option (List ℕ)) (today : Option ℕ) (file : File) (n : ℕ) (e : Entry)
      → file_or_none given today ≡ Ok file → slice_get file.entries n ≡ Some e
      → is_unused file (limited file (current_in both)) e
      ≡ (is_unused file (limited file (current_in first)) e
      && is_unused file (limited file (current_in second)) e)

-- the matches of a merge are those of two others
pub record IsMatchedAs (version : MatchingVersion) (first second both : Inputs) : Type 0 where
  pub partners : partners_in version (current_in both) (baseline_in both)
      ≡ partners_in version (current_in first) (baseline_in first)
      ++ moved (length (baseline_in first))
      (partners_in version (current_in second) (baseline_in second))
  pub each : IsMatchedApart version (current_in first) (baseline_in first)
      (current_in second) (baseline_in second)
