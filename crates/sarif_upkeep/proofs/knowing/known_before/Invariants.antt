use Rattle.std.proofs.Common.{◌≡◌, ◌≤◌, ◌++◌, map, length, drop}
use Rattle.sarif_model.specs.Limits.{most_results}
use Rattle.sarif_runs.specs.Judging.{run_values}
use Rattle.sarif_runs.specs.Internal.Opened.{placed_of}
use Rattle.sarif_accept.specs.Heard.{heard_of}
use Rattle.sarif_known.specs.Chosen.{all_chosen}
use Rattle.sarif_upkeep.specs.Known.{chosen_before}
use Rattle.sarif_upkeep.specs.Merge.{present_total}
use Rattle.sarif_upkeep.proofs.knowing.known_before.Given as goal

abbrev pub invariant-loop-number : goal.invariant-loop-number
invariant-loop-number l = record {
  few : length l.records ≤ most_results;
  records : length l.records ≡ present_total (run_values (map placed_of (drop l.number l.before.runs.now)));
  left : length l.left ≡ length l.records;
  chosen : all_chosen l.chosen.items
      ++ chosen_before (heard_of l.heard) (run_values (map placed_of (drop l.number l.before.runs.now))) l.records l.left
      ≡ chosen_before (heard_of l.heard) (run_values (map placed_of l.before.runs.now)) l.before.records.now l.gone;
}
