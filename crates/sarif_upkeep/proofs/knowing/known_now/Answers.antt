use Rattle.std.proofs.Common.{◌≡◌, ◌+◌, ◌-◌, length, map, drop, rules, ap, ◌∙◌, arith}
use Rattle.std.proofs.lemmas.List.{length-drop}
use Rattle.sarif_model.specs.Run.{results_of, results_total}
use Rattle.sarif_runs.specs.Judging.{run_values}
use Rattle.sarif_runs.specs.Internal.Opened.{placed_of}
use Rattle.sarif_known.specs.Chosen.{all_chosen, chosen_of}
use Rattle.sarif_upkeep.proofs.Taken.{applied_back, applied_front, chosen_push, known_same, now_next, runs_left}
use Rattle.sarif_upkeep.proofs.knowing.known_now.Goals as goal

pub know_run-requires-clause-drafts : goal.know_run-requires-clause-drafts
know_run-requires-clause-drafts c =
    applied_front c.args.choice.now.file.now _ _ _ _ c.len.result c.loop-run.invariant.drafts c.split_results.ensures.records c.split_results.ensures.drafts

pub loop-run-preserved : goal.loop-run-preserved
loop-run-preserved c =
    let l = c.loop-run in
    let s = c.split_results.ensures in
    let k = c.len.result in
    let run = (placed_of c.run-item.result).run in
    let left = runs_left c.args.runs.now l.run-index c.run-item.result _ c.loop-run-test.true c.run-item.is in
    let many : length l.rest.records.now ≡ length (results_of run) + results_total (run_values (map placed_of (drop (l.run-index + 1) c.args.runs.now))) =
    l.invariant.records ∙ ap results_total left in
    let records_left : length c.split_results.result.1.records.now ≡ length l.rest.records.now - k = ap length s.other_records
    ∙ length-drop k l.rest.records.now in
    let states_left : length c.split_results.result.1.standings.now ≡ length l.rest.standings.now - k = ap length s.other_standings
    ∙ length-drop k l.rest.standings.now in record {
      few = omega (arith, records_left, l.invariant.few);
      records = omega (arith, records_left, many, c.len.ensures.count);
      standings = omega (arith, records_left, states_left, l.invariant.standings);
      drafts = applied_back c.args.choice.now.file.now _ _ _ _ k l.invariant.drafts s.other_records s.other_drafts;
      chosen =
          now_next c.args.choice.now.file.now c.args.choice.now.policy c.args.choice.now.adopt _ run _ l.rest.records.now _ l.rest.standings.now _ k
          (all_chosen l.chosen.items) (chosen_of c.in_ok-know_run.field-0) _ _
          left c.len.ensures.count s.other_records s.other_standings
          (c.in_ok-know_run.ensures
          ∙ known_same c.args.choice.now.file.now c.args.choice.now.policy c.args.choice.now.adopt _ _ _ _ _ _ c.tool.ensures s.records
          s.standings) (chosen_push l.chosen.items c.in_ok-know_run.field-0 _ (search rules)) l.invariant.chosen;
    }
