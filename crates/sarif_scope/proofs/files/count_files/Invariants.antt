use Rattle.std.proofs.Common.{◌≡◌, ◌≤◌, take}
use Rattle.sarif_scope.specs.Files.{files_of}
use Rattle.sarif_scope.specs.Internal.NamesMet.{AreMet}
use Rattle.sarif_scope.proofs.files.count_files.Given as goal

abbrev pub invariant-loop-section : goal.invariant-loop-section
invariant-loop-section g l =
    AreMet (take l.section-index l.sections) l.names
    × (l.count ≡ files_of (take l.section-index l.sections)) × (l.count ≤ l.section-index)
