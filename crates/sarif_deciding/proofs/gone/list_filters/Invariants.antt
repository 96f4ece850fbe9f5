use Rattle.std.proofs.Common.{◌≡◌, take}
use Rattle.sarif_deciding.specs.Internal.Gone.{filters_of}
use Rattle.sarif_deciding.proofs.gone.list_filters.Given as goal

abbrev pub invariant-loop-entry : goal.invariant-loop-entry
invariant-loop-entry l = l.filters.items ≡ filters_of (take l.entry-index l.file.entries)
