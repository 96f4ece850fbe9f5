use Rattle.std.proofs.Common.{◌≡◌, ◌++◌, Option, map, drop}
use Rattle.sarif_diff.specs.declared.section.Span.{Span}
use Rattle.sarif_change.specs.Known.{artifact_meets, known_meets}
use Rattle.sarif_change.proofs.known.paths_of_all.Given as goal

abbrev pub invariant-loop-artifact : goal.invariant-loop-artifact
invariant-loop-artifact l = (lines : Option Span)
    → map (known_meets lines) l.paths.items ++ map (artifact_meets l.changed l.roots lines) (drop l.artifact-index l.artifacts)
    ≡ map (artifact_meets l.changed l.roots lines) l.artifacts
