use Rattle.std.proofs.Common.{◌≡◌, ℕ, length}
use Rattle.serde_json.specs.Data.{Items, array}
use Rattle.json_parts.specs.Indexed.{data_of}
use Rattle.json_parts.specs.Internal.Walking.{ElementsAre}
use Rattle.json_parts.proofs.Walks.{before}
use Rattle.json_parts.proofs.node.Node.items.Given as goal

abbrev pub invariant-items : goal.invariant-items
invariant-items l = (n : ℕ) × (rest : Items) × ElementsAre n l.elements rest × (data_of l.self ≡ array (before l.found.items rest))

abbrev pub decreases-items : goal.decreases-items
decreases-items l = length l.elements
