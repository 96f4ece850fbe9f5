use Rattle.std.proofs.Common.{◌≡◌, ◌++◌, map, drop}
use Rattle.serde_json.specs.View.{view}
use Rattle.sarif_suppress.specs.Internal.Unseen.{HasKeysOf}
use Rattle.sarif_suppress.specs.Written.{with_objects_at}
use Rattle.sarif_suppress.proofs.unseen.unseen_objects.Given as goal

-- the remaining objects are added after the objects so far, and the keys are those of the own suppressions and of
-- these objects
abbrev pub invariant-loop-number : goal.invariant-loop-number
invariant-loop-number g l = record {
  keys : HasKeysOf l.keys (map view l.own ++ map view l.unseen.items);
  told : with_objects_at (map view l.own ++ map view l.unseen.items) l.entries (drop l.number-index l.numbers)
      ≡ with_objects_at (map view l.own) l.entries l.numbers;
}
