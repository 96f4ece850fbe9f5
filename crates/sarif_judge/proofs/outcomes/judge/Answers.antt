use Rattle.std.proofs.Common.{rules, ◌≡◌, ◌<◌, ◌≤◌, ◌+◌, ◌*◌, ◌/◌, [], length, map, ap, ◌∙◌, sym, refl, subst, arith}
use Rattle.std.specs.List.{All}
use Rattle.sarif_runs.specs.Internal.Opened.{placed_of}
use Rattle.sarif_results.specs.Internal.OutcomesAt.{outcome_at}
use Rattle.sarif_runs.specs.Internal.Spots.{spots_from, IsSpotOf}
use Rattle.sarif_runs.proofs.AllSpots.{none_long, spots_count, shard_size, shard_count, shards_enough}
use Rattle.sarif_results.proofs.Places.{outcomes_at_spots}
use Rattle.sarif_judge.proofs.Shards.{all_parts}
use Rattle.sarif_runs.proofs.SpotsWithin.{spots_within}
use Rattle.sarif_judge.proofs.outcomes.judge.Goals as goal
use Rattle.sarif_model.specs.Limits.{most_results}

pub invariant_of-work : goal.invariant_of-work
invariant_of-work g c =
    let ps = map placed_of c.args.runs.now in
    let spots = c.deref.result.now in
    let are : spots ≡ spots_from 0 ps = c.deref.ensures.value ∙ c.in_ok-spots.ensures in
    let n = c.len.result in
    let parts = c.args.team.workers * 16 in
    let size = n / parts + 1 in
    let same : c.len-2.result ≡ n = search rules in
    let long : n ≡ length c.in_ok-spots.spots.items = search rules in
    let few : n ≤ most_results = omega (arith, long, ap length c.in_ok-spots.ensures, spots_count 0 ps, c.requires.few_results) in
    let w = c.requires.workers in
    let some : 0 < parts = omega (arith, w.0) in
    record {
      within = subst (All (IsSpotOf ps)) (sym are) (spots_within ps);
      few = omega (arith, shard_count n parts size (c.len-2.result / size + 1) some refl (ap (λ k. k / size + 1) same), w.1);
      small = shard_size n parts size few refl;
    }

pub returns : goal.returns
returns g c =
    let ps = map placed_of c.args.runs.now in
    let n = c.len.result in
    let size = n / (c.args.team.workers * 16) + 1 in
    let shards = c.len-2.result / size + 1 in
    let same : c.len-2.result ≡ n = search rules in
    let long : length c.deref.result.now ≡ n = search rules in
    let are : c.deref.result.now ≡ spots_from 0 ps = c.deref.ensures.value ∙ c.in_ok-spots.ensures in
    let pos : 0 < size = omega arith in
    let enough : length c.deref.result.now ≤ shards * size =
    subst (λ k. k ≤ shards * size) (sym long) (shards_enough n size shards pos (ap (λ k. k / size + 1) same)) in
    c.in_ok-all.ensures ∙ c.in_ok-stack.ensures
    ∙ all_parts c.args.file.now ps size shards c.deref.result.now c.in_ok-lists.lists c.in_ok-lists.ensures enough
    ∙ ap (map (outcome_at c.args.file.now ps)) are
    ∙ outcomes_at_spots c.args.file.now ps

pub returns-then-is_empty : goal.returns-then-is_empty
returns-then-is_empty g c =
    let ps = map placed_of c.args.runs.now in
    let spots = c.in_ok-spots.spots.items in
    let short : length spots ≡ 0 = search rules in
    let new : c.new.result.items ≡ [] = search rules in
    new ∙ ap (map (outcome_at c.args.file.now ps)) (sym (none_long spots short) ∙ c.in_ok-spots.ensures) ∙ outcomes_at_spots c.args.file.now ps
