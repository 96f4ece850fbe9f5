use Rattle.std.proofs.Common.{take}
use Rattle.sarif_change.specs.Internal.NamesSeen.{IsTableOf}
use Rattle.sarif_change.proofs.joining.names_seen.Given as goal

abbrev pub invariant-loop-section : goal.invariant-loop-section
invariant-loop-section g l = IsTableOf (take l.section-index l.sections) l.names
