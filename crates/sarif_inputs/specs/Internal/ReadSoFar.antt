-- What was read from the sources so far, and the errors of one more source.
use Rattle.std.specs.Prelude.{◌≡◌, ℕ, ◌+◌, ◌≤◌, List, ◌++◌, map, length, Result}
use Rattle.serde_json.specs.Data.{Data}
use Rattle.sarif_read.specs.declared.read_fault.ReadFault.{ReadFault}
use Rattle.sarif_options.specs.declared.checks.Checks.{Checks}
use Rattle.sarif_model.specs.Run.{results_total}
use Rattle.sarif_model.specs.declared.merge_fault.MergeFault.{MergeFault}
use Rattle.sarif_model.specs.declared.merge_fault.Source.{Source}
use Rattle.sarif_model.specs.declared.merge_fault.Source.TheVariants.{Log, Baseline}
use Rattle.sarif_inputs.specs.declared.sources.ReadSoFar.{ReadSoFar}
use Rattle.sarif_inputs.specs.Inputs.{Sourced, numbered, readable}
use Rattle.sarif_runs.specs.Judging.{run_values}
use Rattle.sarif_inputs.specs.Internal.ReadRun.{placed_read}
use Rattle.sarif_inputs.specs.SourceFaults.{reading_faults, limit_faults}
use Rattle.sarif_model.specs.Limits.{most_results, most_runs}

-- the runs and their results are within the limits, and the results are counted
abbrev pub IsCounted : ReadSoFar → Type 0
IsCounted reading =
    (length reading.runs.items ≤ most_runs)
    × (reading.results ≤ most_results)
    × (reading.results ≡ results_total (run_values (map placed_read reading.runs.items)))

-- the errors of a source with this content, after this many runs and results
abbrev pub faults_with : Source → Result (List Data) ReadFault → ℕ → ℕ → List MergeFault
faults_with source log runs results =
    reading_faults source log
    ++ limit_faults source (runs + length (readable log)) (results + results_total (readable log))

-- the logs and then the baselines, by their bytes
abbrev pub sources_of : Checks → List (List ℕ) → List (List ℕ) → List Sourced
sources_of checks logs baselines =
    numbered checks Log 0 logs ++ numbered checks Baseline 0 baselines
