use Rattle.std.proofs.Common.{◌<◌, ◌≤◌, ◌+◌, ◌^◌, arith}
use Rattle.sarif_runs.proofs.AllSpots.{product_fits}
use Rattle.sarif_judge.proofs.judging.JudgingWork.make.Goals as goal
use Rattle.sarif_model.specs.Limits.{most_results}
use Rattle.sarif_dispatch.specs.Limits.{most_runs}

pub overflow_mul-start : goal.overflow_mul-start
overflow_mul-start c =
    let few : c.args.self.now.shards ≤ most_runs = c.args.self.now.few in
    let small : c.args.self.now.size ≤ most_results + 1 = c.args.self.now.small in
    let below : c.args.head.now < 2 ^ 32 = omega (arith, c.requires.1, c.requires.2, few) in
    omega (arith, product_fits c.args.head.now c.args.self.now.size below small)
