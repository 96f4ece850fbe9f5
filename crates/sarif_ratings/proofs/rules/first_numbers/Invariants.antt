use Rattle.std.proofs.Common.{◌≡◌, ℕ, List, map, drop}
use Rattle.std.specs.Option.{option_or}
use Rattle.serde_json.specs.View.{view}
use Rattle.sarif_ratings.specs.Internal.Tables.{first_number, number_at}
use Rattle.sarif_ratings.proofs.rules.first_numbers.Given as goal

abbrev pub invariant-loop-number : goal.invariant-loop-number
invariant-loop-number l =
    (id : List ℕ) → option_or (number_at l.first id) (first_number id l.number (map view (drop l.number l.rules)))
    ≡ first_number id 0 (map view l.rules)
