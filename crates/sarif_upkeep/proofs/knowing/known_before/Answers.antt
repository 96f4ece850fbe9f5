use Rattle.std.proofs.Common.{◌≡◌, ◌+◌, ◌-◌, length, map, drop, rules, ap, ◌∙◌, arith}
use Rattle.std.proofs.lemmas.List.{length-drop}
use Rattle.std.specs.Prelude.{Some, slice_index_or}
use Rattle.sarif_model.specs.Run.{present, results_of}
use Rattle.sarif_runs.specs.Judging.{run_values}
use Rattle.sarif_runs.specs.Internal.Opened.{placed_of}
use Rattle.sarif_accept.specs.Heard.{heard_of}
use Rattle.sarif_known.specs.Chosen.{all_chosen, chosen_of}
use Rattle.sarif_upkeep.specs.Merge.{present_total}
use Rattle.sarif_upkeep.proofs.Taken.{before_next, chosen_push, count_at, kept_same, runs_left}
use Rattle.sarif_upkeep.proofs.knowing.known_before.Goals as goal

pub split_at-requires : goal.split_at-requires
split_at-requires c =
    let l = c.loop-number in
    let runs = c.args.before.now.runs.now in
    let count = count_at runs l.number c.run-item.result _ c.args.before.now.counts.now c.requires.counts c.loop-number-test.true c.run-item.is in
    let left = runs_left runs l.number c.run-item.result _ c.loop-number-test.true c.run-item.is in
    let many = l.invariant.records ∙ ap present_total left in
    omega (arith, many, count)

pub loop-number-preserved : goal.loop-number-preserved
loop-number-preserved c =
    let l = c.loop-number in
    let runs = c.args.before.now.runs.now in
    let run = (placed_of c.run-item.result).run in
    let k = slice_index_or c.args.before.now.counts.now l.number 0 in
    let count = count_at runs l.number c.run-item.result _ c.args.before.now.counts.now c.requires.counts c.loop-number-test.true c.run-item.is in
    let left = runs_left runs l.number c.run-item.result _ c.loop-number-test.true c.run-item.is in
    let many : length l.records.now ≡ length (present (results_of run)) + present_total (run_values (map placed_of (drop (l.number + 1) runs))) =
    l.invariant.records ∙ ap present_total left in
    let records_left : length c.split_at.result.1.now ≡ length l.records.now - k = ap length c.split_at.ensures.back ∙ length-drop k l.records.now in
    let marks_left : length c.split_at-in-loop-number.result.1.now ≡ length l.left.now - k =
    ap length c.split_at-in-loop-number.ensures.back ∙ length-drop k l.left.now in record {
      few = omega (arith, records_left, l.invariant.few);
      records = omega (arith, records_left, many, count);
      left = omega (arith, records_left, marks_left, l.invariant.left);
      chosen =
          before_next (heard_of c.args.heard.now) _ run _ l.records.now _ l.left.now _ k
          (all_chosen l.chosen.items) (chosen_of c.in_ok-keep_run.field-0) _ _
          left count c.split_at.ensures.back c.split_at-in-loop-number.ensures.back
          (c.in_ok-keep_run.ensures
          ∙ kept_same _ _ _ _ _ _ _ _
          (c.hears-is_heard.ensures ∙ ap (λ t. heard_of c.args.heard.now (Some t)) c.tool.ensures) c.tool-in-loop-number.ensures
          c.split_at.ensures.front c.split_at-in-loop-number.ensures.front)
          (chosen_push l.chosen.items c.in_ok-keep_run.field-0 _ (search rules)) l.invariant.chosen;
    }
