use Rattle.std.proofs.Common.{map, take}
use Rattle.serde_json.specs.View.{view}
use Rattle.sarif_suppress.specs.Internal.Unseen.{HasKeysOf}
use Rattle.sarif_suppress.proofs.unseen.keys_in.Given as goal

-- the keys of the values gone through
abbrev pub invariant-loop-value : goal.invariant-loop-value
invariant-loop-value g l = HasKeysOf l.keys (map view (take l.value-index l.values))
