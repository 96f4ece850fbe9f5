use Rattle.std.proofs.Common.{◌≡◌, drop}
use Rattle.std.specs.List.{list_all}
use Rattle.sarif_change.specs.Outside.{is_missed}
use Rattle.sarif_change.proofs.changed.Changed.are_missed.Given as goal

abbrev pub invariant-loop-spot : goal.invariant-loop-spot
invariant-loop-spot l = list_all (is_missed l.self l.roots l.scope) (drop l.spot-index l.spots) ≡ list_all (is_missed l.self l.roots l.scope) l.spots
