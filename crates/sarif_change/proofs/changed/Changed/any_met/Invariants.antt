use Rattle.std.proofs.Common.{◌≡◌, drop}
use Rattle.std.specs.List.{list_any}
use Rattle.sarif_change.specs.Outside.{is_met}
use Rattle.sarif_change.proofs.changed.Changed.any_met.Given as goal

abbrev pub invariant-loop-spot : goal.invariant-loop-spot
invariant-loop-spot l = list_any (is_met l.self l.roots l.scope) (drop l.spot-index l.spots) ≡ list_any (is_met l.self l.roots l.scope) l.spots
