use Rattle.std.proofs.Common.{◌≡◌, ◌+◌, ◌<◌, [], length, get_or, take, drop}
use Rattle.sarif_reports.specs.GitlabReport.{mark_of, quality_of}
use Rattle.sarif_reports.specs.Internal.GitlabObjects.{objects_after}
use Rattle.sarif_reports.specs.GitlabParts.{identity_of, counted}
use Rattle.sarif_reports.proofs.GitlabMore.{count_step, next_object, ranked_more}
use Rattle.sarif_reports.proofs.ranking.rank_all.Goals as goal

pub loop-number-preserved : goal.loop-number-preserved
loop-number-preserved c =
    let fs = c.args.findings.now in
    let i = c.loop-number.number in
    let held = c.loop-number.invariant in
    let f = c.index-findings-number.result in
    let rank = counted c.loop-number.counts (identity_of f) in
    let within : i < length fs = c.loop-number-test.true in
    let is : f ≡ get_or fs i f = c.index-findings-number.is in
    record {
      counts = λ other. count_step other fs i f _ _ within is (held.counts other) (c.in_ok-rank_next.ensures.counted other);
      objects =
          ranked_more c.loop-number.ranked.items c.push.new.self.items c.in_ok-rank_next.field-0 (quality_of f (mark_of f rank))
          (objects_after (take (i + 1) fs) (drop (i + 1) fs)) (objects_after (take i fs) (drop i fs)) (objects_after [] fs)
          c.in_ok-push.ensures.items c.in_ok-rank_next.ensures.object (next_object fs i f rank within is (held.counts (identity_of f))) held.objects;
    }
