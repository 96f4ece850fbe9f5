use Rattle.std.proofs.Common.{◌≡◌, ◌≤◌, ◌+◌, ◌-◌, drop, length}
use Rattle.json_texts.specs.Internal.Parts.{place, is_there}
use Rattle.json_texts.proofs.around.place_of.Given as goal

abbrev pub invariant-loop-at : goal.invariant-loop-at
invariant-loop-at l =
    (l.at + place l.name (drop l.at l.list) ≡ place l.name l.list) × (is_there l.name (drop l.at l.list) ≡ is_there l.name l.list) × (l.at ≤ length l.list)

abbrev pub decreases-loop-at : goal.decreases-loop-at
decreases-loop-at l = length l.list - l.at
