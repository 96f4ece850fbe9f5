use Rattle.std.proofs.Common.{◌≡◌, map, drop}
use Rattle.serde_json.specs.View.{view, items_of}
use Rattle.sarif_counts.specs.CountOf.{all_accepted}
use Rattle.sarif_counts.proofs.suppressing.are_accepted.Given as goal

abbrev pub invariant-loop-suppression : goal.invariant-loop-suppression
invariant-loop-suppression l =
    all_accepted (items_of (map view (drop l.suppression-index l.suppressions))) ≡ all_accepted (items_of (map view l.suppressions))
