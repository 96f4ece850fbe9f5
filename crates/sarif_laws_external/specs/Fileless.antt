-- Inputs that pass without external property files being allowed, and runs without the member that names such files.
use Rattle.std.specs.Prelude.{◌≡◌, ℕ, false, List, map, Option, Some, Ok, codes, option_and_then}
use Rattle.std.specs.List.{AllByRecursion}
use Rattle.serde_json.specs.Data.{Data}
use Rattle.serde_json.specs.Find.{get}
use Rattle.json_parts.specs.Indexed.{json_of}
use Rattle.json_parts.specs.Mark.{without_mark}
use Rattle.sarif_model.specs.Run.{runs_of}
use Rattle.sarif_read.specs.Reading.{check_external}
use Rattle.sarif_read.specs.Stripping.{stripped}
use Rattle.sarif_runs.specs.Internal.NamedFiles.{without_files}
use Rattle.sarif_runs.specs.Placed.{Placed}
use Rattle.sarif_inputs.specs.Inputs.{Inputs}

-- each run of the log of these bytes passes the check of external property files without these being allowed
abbrev pub IsFileless : List ℕ → Type 0
IsFileless bytes =
    (value : Data) → json_of (without_mark bytes) ≡ Some value
    → AllByRecursion (λ run. check_external false run ≡ Ok tt) (runs_of (stripped value))

-- each log and each baseline is such bytes
pub record AreFileless (inputs : Inputs) : Type 0 where
  pub logs : AllByRecursion IsFileless inputs.logs
  pub baselines : AllByRecursion IsFileless inputs.baselines

-- the run at its place, without the member that names external property files
abbrev pub placed_without : Placed → Placed
placed_without p =
    record {
      source = p.source;
      number = p.number;
      options = p.options;
      run = without_files p.run;
    }

abbrev pub all_without : List Placed → List Placed
all_without runs = map placed_without runs

-- the gate of a merged log: its counts, its policy, its hits and its verdict
abbrev pub gate_in : Data → Option Data
gate_in log = option_and_then (get (codes "gate")) (get (codes "properties") log)
