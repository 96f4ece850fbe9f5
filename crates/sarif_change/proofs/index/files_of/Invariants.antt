use Rattle.std.proofs.Common.{take}
use Rattle.sarif_change.specs.Internal.Index.{HaveFiles}
use Rattle.sarif_change.proofs.index.files_of.Given as goal

abbrev pub invariant-loop-section : goal.invariant-loop-section
invariant-loop-section l = HaveFiles l.files.items (take l.section-index l.sections)
