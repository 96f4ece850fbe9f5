-- What a merge is given, and the runs that can be read from it.
use Rattle.std.specs.Prelude.{ℕ, ◌+◌, ◌||◌, Bool, true, false, List, [], ◌∷◌, ◌++◌, Option, Result, Ok, Err}
use Rattle.std.specs.List.{flat_map}
use Rattle.serde_json.specs.Data.{Data}
use Rattle.sarif_options.specs.declared.checks.Checks.{Checks}
use Rattle.sarif_runs.specs.declared.run_options.RecordOptions.{RecordOptions}
use Rattle.sarif_runs.specs.declared.run_options.RunOptions.{RunOptions}
use Rattle.sarif_runs.specs.Placed.{Placed}
use Rattle.sarif_evidence.specs.declared.version.MatchingVersion.{MatchingVersion}
use Rattle.sarif_evidence.specs.declared.version.MatchingVersion.TheVariants.{Two, Three}
use Rattle.sarif_read.specs.declared.read_fault.ReadFault.{ReadFault}
use Rattle.sarif_read.specs.Reading.{log_of}
use Rattle.sarif_model.specs.declared.merge_fault.Source.{Source}
use Rattle.sarif_model.specs.declared.merge_fault.Source.TheVariants.{Log, Baseline, Suppress, Policy, Diff, Output, Known}

-- the bytes of the logs, of the baselines, and of the suppression file, the policy and the diff, if there are any; today's
-- date, if it is known; what is required of runs; and whether records have regions and snippets because filters of the
-- policy or entries compare snippets
pub record Inputs : Type 0 where
  pub logs : List (List ℕ)
  pub baselines : List (List ℕ)
  pub suppressions : Option (List ℕ)
  pub policy : Option (List ℕ)
  pub diff : Option (List ℕ)
  pub today : Option ℕ
  pub checks : Checks
  pub snippets : Bool

-- how runs are read: filters and entries that compare snippets need what a merge needs that doesn't count copies
abbrev pub reading_checks : Inputs → Checks
reading_checks inputs =
    record inputs.checks { once = inputs.snippets || inputs.checks.once }

-- a source with its bytes, and what is required of its runs
pub record Sourced : Type 0 where
  pub source : Source
  pub bytes : List ℕ
  pub checks : Checks

-- the sources in order, from number n on
abbrev pub numbered : Checks → (ℕ → Source) → ℕ → List (List ℕ) → List Sourced
numbered checks name n [] = []
numbered checks name n (bytes ∷ rest) =
    record { source = name n; bytes = bytes; checks = checks } ∷ numbered checks name (n + 1) rest

abbrev pub log_sources : Inputs → List Sourced
log_sources inputs = numbered (reading_checks inputs) Log 0 inputs.logs

abbrev pub baseline_sources : Inputs → List Sourced
baseline_sources inputs = numbered (reading_checks inputs) Baseline 0 inputs.baselines

-- the logs, and then the baselines
abbrev pub all_sources : Inputs → List Sourced
all_sources inputs = log_sources inputs ++ baseline_sources inputs

-- whether the analysis of a run of this source must have been successful: this is never required of a baseline
abbrev pub must_succeed : Checks → Source → Bool
must_succeed checks (Log k) = checks.require_success
must_succeed checks (Baseline k) = false
must_succeed checks Suppress = false
must_succeed checks Policy = false
must_succeed checks Diff = false
must_succeed checks Output = false
must_succeed checks Known = false

-- whether a version of matching reads regions and snippets
abbrev pub looks_at_regions : MatchingVersion → Bool
looks_at_regions Two = false
looks_at_regions Three = true

-- what the records of results have: regions and snippets, if matching reads them or copies aren't counted
abbrev pub record_options : Checks → RecordOptions
record_options checks =
    record {
      regions = looks_at_regions checks.matching || checks.once;
      ignored = checks.ignored;
    }

-- how the runs of this source are read
abbrev pub run_options : Checks → Source → RunOptions
run_options checks source =
    record {
      must_succeed = must_succeed checks source;
      records = record_options checks;
    }

abbrev pub placed_from : Checks → Source → ℕ → List Data → List Placed
placed_from checks source n [] = []
placed_from checks source n (run ∷ runs) =
    record {
      source = source;
      number = n;
      options = run_options checks source;
      run = run;
    } ∷ placed_from checks source (n + 1) runs

-- the runs of a source; one that can't be read gives none
abbrev pub readable : Result (List Data) ReadFault → List Data
readable (Ok runs) = runs
readable (Err fault) = []

abbrev pub runs_in : Sourced → List Data
runs_in sourced = readable (log_of sourced.checks.allow_external sourced.bytes)

-- the runs of these sources, in order
abbrev pub placed : List Sourced → List Placed
placed sources = flat_map (λ s. placed_from s.checks s.source 0 (runs_in s)) sources

abbrev pub input_runs : Inputs → List Placed
input_runs inputs = placed (log_sources inputs)

abbrev pub baseline_runs : Inputs → List Placed
baseline_runs inputs = placed (baseline_sources inputs)

-- the input runs, and then the baseline runs
abbrev pub all_runs : Inputs → List Placed
all_runs inputs = input_runs inputs ++ baseline_runs inputs
