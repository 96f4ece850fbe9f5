use Rattle.std.proofs.Common.{◌≡◌, ℕ, suc, length}
use Rattle.serde_json.specs.Data.{Items}
use Rattle.json_parts.specs.Indexed.{data_of}
use Rattle.json_parts.specs.Stripping.{is_fractional, any_fractional}
use Rattle.json_parts.specs.Internal.Walking.{depth_of, ElementsAre}
use Rattle.json_parts.proofs.node.Node.+fractions.Given as goal

abbrev pub decreases-is_fractional : goal.decreases-is_fractional
decreases-is_fractional l = depth_of l.self.now

abbrev pub invariant-items : goal.invariant-items
invariant-items l =
    (n : ℕ) × (rest : Items) × ElementsAre n l.elements rest × (depth_of l.self ≡ suc n) × (is_fractional (data_of l.self) ≡ any_fractional rest)

abbrev pub decreases-items : goal.decreases-items
decreases-items l = length l.elements
