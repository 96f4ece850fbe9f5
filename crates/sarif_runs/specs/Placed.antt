-- A run in its log or baseline.
use Rattle.std.specs.Prelude.{◌≡◌, ℕ, List}
use Rattle.std.specs.List.{AllByRecursion}
use Rattle.serde_json.specs.Data.{Data}
use Rattle.sarif_model.specs.declared.merge_fault.Source.{Source}
use Rattle.sarif_runs.specs.declared.run_options.RecordOptions.{RecordOptions}
use Rattle.sarif_runs.specs.declared.run_options.RunOptions.{RunOptions}

-- a run of a source, with its number there, and how it is read
pub record Placed : Type 0 where
  pub source : Source
  pub number : ℕ
  pub options : RunOptions
  pub run : Data

-- the records of each of these runs have the same
abbrev pub AreReadWith : RecordOptions → List Placed → Type 0
AreReadWith records runs = AllByRecursion (λ p. p.options.records ≡ records) runs
