use Rattle.std.proofs.Common.{◌≡◌, ℕ, suc, length}
use Rattle.json.specs.Json.{Items}
use Rattle.json_parts.specs.Indexed.{json_at}
use Rattle.json_parts.specs.Internal.Walking.{depth_of}
use Rattle.json_texts.specs.Whole.{is_fractional, any_fractional}
use Rattle.json_texts.specs.Internal.Walking.{ItemsStand}
use Rattle.json_texts.proofs.fraction.+fractions.Given as goal

abbrev pub decreases-is_fractional : goal.decreases-is_fractional
decreases-is_fractional l = depth_of l.element.now

abbrev pub invariant-items : goal.invariant-items
invariant-items l =
    (n : ℕ) × (rest : Items) × ItemsStand n l.items rest × (depth_of l.element ≡ suc n) × (is_fractional (json_at l.element) ≡ any_fractional rest)

abbrev pub decreases-items : goal.decreases-items
decreases-items l = length l.items
