-- The record of each result that is read is of its run's tool, and can be read again.
use Rattle.std.proofs.Common.{◌≡◌, ℕ, suc, ◌+◌, List, [], ◌∷◌, get_or, length, refl}
use Rattle.std.specs.Prelude.{Bool, Result, Ok, Err}
use Rattle.std.specs.List.{AllByRecursion, range_with_len}
use Rattle.serde_json.specs.Data.{Data, null}
use Rattle.sarif_model.specs.declared.merge_fault.Source.{Source}
use Rattle.sarif_model.specs.declared.record.Record.{Record}
use Rattle.sarif_model.specs.Run.{results_of}
use Rattle.sarif_model.specs.Driver.{tool_name}
use Rattle.sarif_options.specs.declared.checks.Checks.{Checks}
use Rattle.sarif_read.specs.declared.read_fault.ReadFault.{ReadFault}
use Rattle.sarif_read.specs.Reading.{log_of}
use Rattle.sarif_runs.specs.Judging.{items_of, records_in}
use Rattle.sarif_runs.specs.Placed.{Placed}
use Rattle.sarif_runs.specs.Record.{record_of}
use Rattle.sarif_inputs.specs.Inputs.{numbered, placed, placed_from, readable, record_options}
use Rattle.sarif_runs.specs.declared.run_options.RecordOptions.{RecordOptions}
use Rattle.sarif_known.specs.Laws.{IsOfTool}
use Rattle.sarif_known_laws.proofs.Readable.{read_sound}
use Rattle.sarif_laws.proofs.Lists.{all_append}
use Rattle.sarif_laws.proofs.Read.{in_run}

-- each record of the run is of its tool
abbrev IsOfToolRun : RecordOptions → Data → Type 0
IsOfToolRun options run = (seq : ℕ) (r : Record) → record_of options run seq ≡ Ok r → IsOfTool options (tool_name run) r

abbrev pub IsSoundRun : RecordOptions → Placed → Type 0
IsSoundRun options p = (seq : ℕ) (r : Record) → record_of p.options.records p.run seq ≡ Ok r → IsOfTool options (tool_name p.run) r

module _ (options : RecordOptions) where
  each_sound : (runs : List Data)
      → ((k seq : ℕ) (r : Record) → record_of options (get_or runs k null) seq ≡ Ok r → IsOfTool options (tool_name (get_or runs k null)) r)
      → AllByRecursion (IsOfToolRun options) runs
  each_sound [] each = tt
  each_sound (run ∷ runs) each = (λ seq r is. each 0 seq r is, each_sound runs (λ k. each (suc k)))

  readable_sound : (allow : Bool) (bytes : List ℕ) (read : Result (List Data) ReadFault) → log_of allow bytes ≡ read
      → AllByRecursion (IsOfToolRun options) (readable read)
  readable_sound allow bytes (Ok runs) is = each_sound runs (λ k seq r got. read_sound options allow bytes runs k seq r is got)
  readable_sound allow bytes (Err fault) is = tt

  pub own_records : (p : Placed) → IsSoundRun options p → AllByRecursion (IsOfTool options (tool_name p.run)) (records_in (items_of p))
  own_records p sound = in_run (IsOfTool options (tool_name p.run)) p sound (range_with_len 0 (length (results_of p.run)))

placed_sound : (checks : Checks) (source : Source) (n : ℕ) (runs : List Data) → AllByRecursion (IsOfToolRun (record_options checks)) runs
    → AllByRecursion (IsSoundRun (record_options checks)) (placed_from checks source n runs)
placed_sound checks source n [] all = tt
placed_sound checks source n (run ∷ runs) all = (all.0, placed_sound checks source (n + 1) runs all.1)

pub sources_sound : (checks : Checks) (name : ℕ → Source) (k : ℕ) (sources : List (List ℕ))
    → AllByRecursion (IsSoundRun (record_options checks)) (placed (numbered checks name k sources))
sources_sound checks name k [] = tt
sources_sound checks name k (bytes ∷ rest) =
    let read = log_of checks.allow_external bytes in
    all_append (IsSoundRun (record_options checks)) (placed_from checks (name k) 0 (readable read)) (placed (numbered checks name (k + 1) rest))
    (placed_sound checks (name k) 0 (readable read) (readable_sound (record_options checks) checks.allow_external bytes read refl))
    (sources_sound checks name (k + 1) rest)
