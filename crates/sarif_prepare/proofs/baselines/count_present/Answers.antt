use Rattle.std.proofs.Common.{rules, ◌≡◌, ◌++◌, ◌∷◌, [], true, map, drop, sym, ap, ◌∙◌, subst, append_assoc, suc, ◌+◌, add-one}
use Rattle.std.proofs.Math.Seq.{drop-cons}
use Rattle.std.specs.List.{AllByRecursion, flat_map}
use Rattle.sarif_runs.specs.Judging.{faults_of_runs, items_of, skips}
use Rattle.sarif_runs.specs.Internal.Opened.{placed_of}
use Rattle.sarif_prepare.specs.Internal.LeftParts.{present_counts}
use Rattle.sarif_results.proofs.OutcomeItems.{items_cut}
use Rattle.sarif_prepare.proofs.FoundDrafts.{baseline_count, others_sound}
use Rattle.sarif_prepare.proofs.baselines.count_present.Goals as goal

pub split_at-requires : goal.split_at-requires
split_at-requires c =
    let l = c.loop-run in
    let run = c.run-item.result in
    let left = drop (l.run-index + 1) c.args.runs.now in
    let step : drop l.run-index c.args.runs.now ≡ run ∷ left =
    rw add-one (drop-cons c.args.runs.now l.run-index run c.loop-run-test.true ∙ ap (λ x. x ∷ drop (suc l.run-index) c.args.runs.now) (sym c.run-item.is)) in
    let judged = l.invariant.judged ∙ ap (λ rs. flat_map items_of (map placed_of rs)) step in
    (items_cut l.outcomes.now (placed_of run) (map placed_of left) c.len.result judged c.len.ensures.count).0

pub loop-run-preserved : goal.loop-run-preserved
loop-run-preserved c =
    let l = c.loop-run in
    let run = c.run-item.result in
    let left = drop (l.run-index + 1) c.args.runs.now in
    let placed = placed_of run in
    let others = map placed_of left in
    let step : drop l.run-index c.args.runs.now ≡ run ∷ left =
    rw add-one (drop-cons c.args.runs.now l.run-index run c.loop-run-test.true ∙ ap (λ x. x ∷ drop (suc l.run-index) c.args.runs.now) (sym c.run-item.is)) in
    let judged = l.invariant.judged ∙ ap (λ rs. flat_map items_of (map placed_of rs)) step in
    let skip = subst (λ rs. AllByRecursion (λ p. skips p.source ≡ true) (map placed_of rs)) step l.invariant.baselines in
    let sound = sym (ap (λ rs. faults_of_runs (map placed_of rs)) step) ∙ l.invariant.faultless in
    let cut = items_cut l.outcomes.now placed others c.len.result judged c.len.ensures.count in
    let these = ap (map (λ o. o.item)) c.split_at.ensures.front ∙ cut.1 in
    let count = c.count_records.ensures.count ∙ baseline_count placed others (map (λ o. o.item) c.split_at.result.0.now) skip.0 sound these in
    let pushed : c.push.new.self.items ≡ l.counts.items ++ c.count_records.result ∷ [] = search rules in record {
      counted =
          ap (λ ns. ns ++ present_counts others) pushed ∙ append_assoc l.counts.items (c.count_records.result ∷ []) (present_counts others)
          ∙ ap (λ n. l.counts.items ++ (n ∷ present_counts others)) count
          ∙ sym (ap (λ rs. l.counts.items ++ present_counts (map placed_of rs)) step) ∙ l.invariant.counted;
      judged = ap (map (λ o. o.item)) c.split_at.ensures.back ∙ cut.2;
      baselines = skip.1;
      faultless = others_sound placed others sound;
    }
