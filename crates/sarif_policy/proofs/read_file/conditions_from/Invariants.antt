use Rattle.std.proofs.Common.{◌≡◌, [], length, map, drop}
use Rattle.serde_json.specs.View.{view}
use Rattle.sarif_policy.specs.File.{conditions_from}
use Rattle.sarif_policy.proofs.read_file.conditions_from.Given as goal

-- the conditions so far and those that are left are all of them
abbrev pub invariant-loop-number : goal.invariant-loop-number
invariant-loop-number l = record {
  count : length l.conditions ≡ l.number;
  told : conditions_from l.has_diff l.number l.conditions (map view (drop l.number l.values))
      ≡ conditions_from l.has_diff 0 [] (map view l.values);
}
