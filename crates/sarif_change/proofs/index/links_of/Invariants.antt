use Rattle.std.proofs.Common.{take}
use Rattle.sarif_change.specs.Internal.Index.{HaveLinks}
use Rattle.sarif_change.proofs.index.links_of.Given as goal

abbrev pub invariant-loop-section : goal.invariant-loop-section
invariant-loop-section l = HaveLinks l.links.items (take l.section-index l.sections)
