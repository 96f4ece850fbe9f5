-- How a copy is written, and how its finding is.
use Rattle.std.specs.Prelude.{◌≡◌, ℕ, Bool, List, Option, option_map, slice_get}
use Rattle.std.specs.List.{flat_map}
use Rattle.serde_json.specs.Data.{Data}
use Rattle.sarif_model.specs.declared.kinds.State.{State}
use Rattle.sarif_model.specs.declared.record.Record.{Record}
use Rattle.sarif_model.specs.Run.{results_of}
use Rattle.sarif_runs.specs.Judging.{run_values}
use Rattle.sarif_log.specs.LogBy.{listing_of}
use Rattle.sarif_log.specs.MergedRuns.{written}
use Rattle.sarif_prepare.specs.Once.{taken_once}
use Rattle.sarif_inputs.specs.Inputs.{Inputs, input_runs}
use Rattle.sarif_merge.specs.MergedLog.{current_of, file_given, inputs_in_log}
use Rattle.sarif_merge.specs.OwnResult.{baseline_of}

-- the result of the logs with that number among all, as it is read and as it is written
abbrev pub read_at : Inputs → ℕ → Option Data
read_at inputs n = slice_get (flat_map results_of (run_values (input_runs inputs))) n

abbrev pub written_at : Inputs → ℕ → Option Data
written_at inputs n = slice_get (flat_map results_of (inputs_in_log inputs)) n

-- result n of the logs is written with the level of this record, with this state, and with its own suppressions and
-- those that the suppression file adds for this record
abbrev pub IsWrittenWith : Inputs → Record → State → ℕ → Type 0
IsWrittenWith inputs r state n =
    written_at inputs n
    ≡ option_map (written (listing_of (file_given inputs)) r state) (read_at inputs n)

-- two results of the logs are written with the same level, the same state and the same suppressions besides their own
pub record AreWrittenAlike (inputs : Inputs) (m n : ℕ) : Type 0 where
  pub r : Record
  pub state : State
  pub first : IsWrittenWith inputs r state m
  pub second : IsWrittenWith inputs r state n

-- whether each result of the baselines is matched: then it isn't written
abbrev pub matched_in : Inputs → List Bool
matched_in inputs = taken_once inputs.checks.matching (current_of inputs) (baseline_of inputs)
