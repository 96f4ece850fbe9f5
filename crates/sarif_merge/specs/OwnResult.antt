-- A result of an input run, and what is written for it.
use Rattle.std.specs.Prelude.{ℕ, ◌+◌, ◌<◌, List, [], Option, None, length, slice_index_or, take}
use Rattle.serde_json.specs.Data.{Data, null}
use Rattle.sarif_model.specs.declared.record.Record.{Record}
use Rattle.sarif_model.specs.Run.{results_of, results_total}
use Rattle.sarif_evidence.specs.Evidence.{state_in}
use Rattle.sarif_match.specs.Partners.{partners_in}
use Rattle.sarif_runs.specs.Judging.{records_of, run_values}
use Rattle.sarif_suppress.specs.Limited.{all_admitted, with_admitted}
use Rattle.sarif_log.specs.MergedRuns.{written}
use Rattle.sarif_log.specs.LogBy.{listing_of, partner_in}
use Rattle.sarif_inputs.specs.Inputs.{Inputs, input_runs, baseline_runs}
use Rattle.sarif_merge.specs.MergedLog.{current_of, file_given, written_inputs}

-- input run k, as it was read
abbrev pub run_at : Inputs → ℕ → Data
run_at inputs k = slice_index_or (run_values (input_runs inputs)) k null

-- input run k, as it is written
abbrev pub written_run : Inputs → ℕ → Data
written_run inputs k = slice_index_or (written_inputs inputs) k null

-- there is an input run k, and it has a result seq
abbrev pub IsResult : Inputs → ℕ → ℕ → Type 0
IsResult inputs k seq =
    (k < length (input_runs inputs)) × (seq < length (results_of (run_at inputs k)))

-- the number of result seq of input run k among the results of all input runs
abbrev pub number_among_all : Inputs → ℕ → ℕ → ℕ
number_among_all inputs k seq = results_total (take k (run_values (input_runs inputs))) + seq

abbrev pub baseline_of : Inputs → List Record
baseline_of inputs = records_of (baseline_runs inputs)

-- the match in the baseline of the current result with that number, if it has one
abbrev pub partner_at : Inputs → ℕ → Option Record
partner_at inputs place =
    let partners = partners_in inputs.checks.matching (current_of inputs) (baseline_of inputs) in
    partner_in (baseline_of inputs) (slice_index_or partners place None)

-- the entries of the suppression file that admit the current result with that number
abbrev pub admitted_at : Inputs → ℕ → List ℕ
admitted_at inputs place =
    slice_index_or (all_admitted (file_given inputs) (current_of inputs)) place []

-- the current result with that number, as it is written: with the level of this record, the baseline state that
-- follows from its match, and its own suppressions with those that the suppression file adds
abbrev pub written_by : Inputs → Record → ℕ → Data → Data
written_by inputs r place result =
    written (listing_of (file_given inputs)) (with_admitted r (admitted_at inputs place))
    (state_in inputs.checks.matching r (partner_at inputs place)) result
