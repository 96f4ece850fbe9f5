use Rattle.std.proofs.Common.{◌≡◌, ◌+◌, drop}
use Rattle.sarif_known.specs.Chosen.{all_chosen, results_among}
use Rattle.sarif_upkeep.proofs.knowing.count_results.Given as goal

abbrev pub invariant-loop-run : goal.invariant-loop-run
invariant-loop-run l = l.count + results_among (all_chosen (drop l.run-index l.runs)) ≡ results_among (all_chosen l.runs)
