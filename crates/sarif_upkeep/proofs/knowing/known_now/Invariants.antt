use Rattle.std.proofs.Common.{◌≡◌, ◌≤◌, ◌++◌, map, length, drop}
use Rattle.sarif_model.specs.Limits.{most_results}
use Rattle.sarif_model.specs.Run.{results_total}
use Rattle.sarif_runs.specs.Judging.{run_values}
use Rattle.sarif_runs.specs.Internal.Opened.{placed_of}
use Rattle.sarif_results.specs.Drafts.{applied_of}
use Rattle.sarif_known.specs.Chosen.{all_chosen}
use Rattle.sarif_upkeep.specs.Known.{chosen_now}
use Rattle.sarif_upkeep.proofs.knowing.known_now.Given as goal

abbrev pub invariant-loop-run : goal.invariant-loop-run
invariant-loop-run l = record {
  few : length l.rest.records.now ≤ most_results;
  records : length l.rest.records.now ≡ results_total (run_values (map placed_of (drop l.run-index l.runs)));
  standings : length l.rest.standings.now ≡ length l.rest.records.now;
  drafts : map (λ draft. draft.applied) l.rest.drafts.now ≡ map (applied_of l.choice.file.now) l.rest.records.now;
  chosen : all_chosen l.chosen.items
      ++ chosen_now l.choice.file.now l.choice.policy l.choice.adopt (run_values (map placed_of (drop l.run-index l.runs))) l.rest.records.now l.rest.standings.now
      ≡ chosen_now l.choice.file.now l.choice.policy l.choice.adopt (run_values (map placed_of l.runs)) l.fn.results.records.now l.fn.results.standings.now;
}
