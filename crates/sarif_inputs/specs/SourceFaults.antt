-- The errors of reading the sources, in their order, and of the limits of all of them together.
use Rattle.std.specs.Prelude.{ℕ, ◌+◌, Bool, ◌||◌, nat_lt, List, [], ◌∷◌, ◌++◌, length, Option, Some, None, Result, Ok, Err, if◌then◌else◌}
use Rattle.serde_json.specs.Data.{Data}
use Rattle.sarif_read.specs.declared.read_fault.ReadFault.{ReadFault}
use Rattle.sarif_read.specs.Reading.{log_of}
use Rattle.sarif_model.specs.Run.{results_total}
use Rattle.sarif_model.specs.declared.merge_fault.Source.{Source}
use Rattle.sarif_model.specs.declared.merge_fault.At.{At}
use Rattle.sarif_model.specs.declared.merge_fault.At.TheVariants.{Whole, Run}
use Rattle.sarif_model.specs.declared.fault.Fault.TheVariants.{TooMany}
use Rattle.sarif_model.specs.declared.merge_fault.MergeFault.{MergeFault}
use Rattle.sarif_model.specs.MergeFault.{cause_of, fault_at}
use Rattle.sarif_inputs.specs.Inputs.{Sourced, runs_in}
use Rattle.sarif_model.specs.Limits.{most_results, most_runs}

-- the place of an error of reading: the run that it names, otherwise the whole source
abbrev pub place_of_reading : Source → Option ℕ → At
place_of_reading source None = Whole source
place_of_reading source (Some run) = Run source run

abbrev pub fault_of_reading : Source → ReadFault → MergeFault
fault_of_reading source fault = fault_at (place_of_reading source fault.run) (cause_of fault.fault)

abbrev pub reading_faults : Source → Result (List Data) ReadFault → List MergeFault
reading_faults source (Ok runs) = []
reading_faults source (Err fault) = fault_of_reading source fault ∷ []

-- too many runs, or too many results
abbrev pub is_past_limits : ℕ → ℕ → Bool
is_past_limits runs results = nat_lt most_runs runs || nat_lt most_results results

abbrev pub limit_faults : Source → ℕ → ℕ → List MergeFault
limit_faults source runs results =
    if is_past_limits runs results then fault_at (Whole source) (cause_of TooMany) ∷ [] else []

-- the errors of the sources in order, after this many runs and results of the sources before them: the reading of
-- each, and then whether the runs or the results of this and all earlier ones pass the limits
abbrev pub source_faults : ℕ → ℕ → List Sourced → List MergeFault
source_faults runs results [] = []
source_faults runs results (s ∷ rest) =
    let now = runs + length (runs_in s) in
    let all = results + results_total (runs_in s) in
    (reading_faults s.source (log_of s.checks.allow_external s.bytes)
    ++ limit_faults s.source now all)
    ++ source_faults now all rest
