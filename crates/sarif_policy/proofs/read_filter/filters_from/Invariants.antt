use Rattle.std.proofs.Common.{◌≡◌, [], map, drop}
use Rattle.serde_json.specs.View.{view}
use Rattle.sarif_policy.specs.Reading.{filters_from}
use Rattle.sarif_policy.proofs.read_filter.filters_from.Given as goal

-- the filters so far and those that are left are all of them
abbrev pub invariant-loop-number : goal.invariant-loop-number
invariant-loop-number l =
    filters_from l.condition l.list l.number l.filters (map view (drop l.number l.values))
    ≡ filters_from l.condition l.list 0 [] (map view l.values)
