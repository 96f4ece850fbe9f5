use Rattle.std.proofs.Common.{◌≡◌, ◌++◌, drop}
use Rattle.sarif_change.specs.Internal.NamesSeen.{shared_names}
use Rattle.sarif_change.proofs.joining.list_shared.Given as goal

abbrev pub invariant-loop-section : goal.invariant-loop-section
invariant-loop-section g l = l.shared.items ++ shared_names l.sections (drop l.section-index l.sections) ≡ shared_names l.sections l.sections
