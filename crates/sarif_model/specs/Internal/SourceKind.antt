-- The sources of a kind by their numbers.
use Rattle.std.specs.Prelude.{ℕ}
use Rattle.sarif_model.specs.declared.merge_fault.Source.{Source}
use Rattle.sarif_model.specs.declared.merge_fault.Source.TheVariants as source
use Rattle.sarif_model.specs.declared.source_kind.SourceKind.{SourceKind}
use Rattle.sarif_model.specs.declared.source_kind.SourceKind.TheVariants.{Log, Baseline}

abbrev pub source_of : SourceKind → ℕ → Source
source_of Log number = source.Log number
source_of Baseline number = source.Baseline number
