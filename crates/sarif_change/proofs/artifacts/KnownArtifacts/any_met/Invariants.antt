use Rattle.std.proofs.Common.{◌≡◌, map, drop}
use Rattle.std.specs.List.{list_any}
use Rattle.sarif_change.specs.Named.{named_spot}
use Rattle.sarif_change.specs.Outside.{is_met}
use Rattle.sarif_change.proofs.artifacts.KnownArtifacts.any_met.Given as goal

abbrev pub invariant-loop-place : goal.invariant-loop-place
invariant-loop-place l =
    list_any (is_met l.self.changed.now l.self.roots.now l.self.scope) (map (named_spot l.self.artifacts) (drop l.place-index l.places))
    ≡ list_any (is_met l.self.changed.now l.self.roots.now l.self.scope) (map (named_spot l.self.artifacts) l.places)
