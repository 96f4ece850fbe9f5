use Rattle.std.proofs.Common.{◌≡◌, map, drop}
use Rattle.std.specs.List.{list_all}
use Rattle.sarif_change.specs.Named.{named_spot}
use Rattle.sarif_change.specs.Outside.{is_missed}
use Rattle.sarif_change.proofs.artifacts.KnownArtifacts.are_missed.Given as goal

abbrev pub invariant-loop-place : goal.invariant-loop-place
invariant-loop-place l =
    list_all (is_missed l.self.changed.now l.self.roots.now l.self.scope) (map (named_spot l.self.artifacts) (drop l.place-index l.places))
    ≡ list_all (is_missed l.self.changed.now l.self.roots.now l.self.scope) (map (named_spot l.self.artifacts) l.places)
