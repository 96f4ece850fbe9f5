use Rattle.std.proofs.Common.{◌≡◌, ◌++◌, drop, map}
use Rattle.sarif_known.specs.Chosen.{all_chosen}
use Rattle.sarif_upkeep.specs.Known.{records_among}
use Rattle.sarif_upkeep.proofs.knowing.list_results.Given as goal

abbrev pub invariant-loop-run : goal.invariant-loop-run
invariant-loop-run l =
    map (λ r. r.now) l.list.items ++ records_among (all_chosen (drop l.run-index l.runs)) ≡ records_among (all_chosen l.runs)
