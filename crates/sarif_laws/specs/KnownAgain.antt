-- The known log of a merge, as a later merge reads it.
use Rattle.std.specs.Prelude.{◌≡◌, ℕ, Bool, List, [], map, Ok}
use Rattle.sarif_model.specs.declared.record.Record.{Record}
use Rattle.sarif_read.specs.Reading.{log_of}
use Rattle.sarif_runs.specs.Judging.{run_values}
use Rattle.sarif_runs.specs.Placed.{AreReadWith, Placed}
use Rattle.sarif_runs.specs.declared.run_options.RecordOptions.{RecordOptions}
use Rattle.sarif_known.specs.Chosen.{Chosen}
use Rattle.sarif_known.specs.KnownRun.{known_run}
use Rattle.sarif_known.specs.Laws.{AreKnownAgain}
use Rattle.sarif_suppress.specs.Limited.{with_admitted}

-- the record as it is read, without the entries of a suppression file that admit it
abbrev pub as_read : Record → Record
as_read r = with_admitted r []

-- a run with its records as they are read
abbrev pub run_as_read : Chosen → Chosen
run_as_read run = record { tool = run.tool; records = map as_read run.records }

-- these bytes are read without an error, as the log of these runs; wherever the runs are read with these options, none
-- has an error, and the records of their results are exactly those of these runs, in order, as they are read
pub record IsKnownAgain (options : RecordOptions) (runs : List Chosen) (text : List ℕ) : Type 0 where
  pub log : (allow : Bool) → log_of allow text ≡ Ok (map known_run runs)
  pub again : (placed : List Placed) → AreReadWith options placed
      → run_values placed ≡ map known_run runs
      → AreKnownAgain (map run_as_read runs) placed
