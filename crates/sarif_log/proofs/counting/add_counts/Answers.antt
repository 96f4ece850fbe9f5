use Rattle.std.proofs.Common.{◌+◌, take, sym, ap, ◌∙◌}
use Rattle.std.specs.Prelude.{sum_by}
use Rattle.std.proofs.lemmas.List.Sums.{sum_by_more}
use Rattle.sarif_counts.specs.Counts.{count_at, total_of}
use Rattle.sarif_log.proofs.counting.add_counts.Goals as goal

pub loop-part-preserved : goal.loop-part-preserved
loop-part-preserved c =
    let ps = c.args.parts.now in
    let i = c.loop-part.part-index in
    let p = c.part-item.result in
    let below = c.loop-part-test.true in record {
      each = λ s l b.
          c.plus-all.ensures.both s l b
          ∙ ap (λ n. n + count_at p s l b) (c.loop-part.invariant.each s l b)
          ∙ ap (λ x. sum_by (λ y. count_at y s l b) (take i ps) + count_at x s l b) c.part-item.is
          ∙ sym (sum_by_more (λ y. count_at y s l b) ps i p below);
      total =
          c.plus-all.ensures.total
          ∙ ap (λ n. n + total_of p) c.loop-part.invariant.total
          ∙ ap (λ x. sum_by total_of (take i ps) + total_of x) c.part-item.is
          ∙ sym (sum_by_more total_of ps i p below);
    }
