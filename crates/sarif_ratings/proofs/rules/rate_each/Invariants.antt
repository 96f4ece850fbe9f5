use Rattle.std.proofs.Common.{◌≡◌, ◌++◌, map, drop}
use Rattle.serde_json.specs.View.{view}
use Rattle.sarif_ratings.specs.Ratings.{own_rating}
use Rattle.sarif_ratings.proofs.rules.rate_each.Given as goal

abbrev pub invariant-loop-rule : goal.invariant-loop-rule
invariant-loop-rule l =
    l.ratings.items ++ map own_rating (map view (drop l.rule-index l.rules)) ≡ map own_rating (map view l.rules)
