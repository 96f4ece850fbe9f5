use Rattle.std.proofs.Common.{◌<◌, ◌^◌, length, take, drop, sym, ap, ◌∙◌, subst, arith}
use Rattle.std.specs.Prelude.{sum_by}
use Rattle.sarif_counts.specs.Counts.{count_at, total_of}
use Rattle.sarif_log.specs.Internal.Written.{AreCounted}
use Rattle.sarif_log.proofs.PartsCounted.{few_counted, parts_counted}
use Rattle.sarif_log.proofs.counting.count_all.Goals as goal

pub add_counts-requires : goal.add_counts-requires
add_counts-requires g c =
    let states = c.args.states.now in
    let made = c.in_ok-parts.ensures in
    let few = few_counted _ _ states
    (λ start p r part. subst (λ ds. AreCounted ds (take (length ds) (drop start states)) r) part.shows part.call)
    0 made.parts c.in_ok-parts.parts.items made.given in
    let below : sum_by total_of c.deref.result.now < 2 ^ 32 =
    subst (λ cs. sum_by total_of cs < 2 ^ 32) (sym c.deref.ensures.value) (omega (arith, few, ap length made.whole, c.requires.few)) in
    record { few = below }

pub returns : goal.returns
returns g c =
    let states = c.args.states.now in
    parts_counted _ _ states
    (λ start p r part. subst (λ ds. AreCounted ds (take (length ds) (drop start states)) r) part.shows part.call)
    c.args.drafts.now c.in_ok-parts.parts.items c.add_counts.result c.in_ok-parts.ensures
    (λ s l b. c.add_counts.ensures.each s l b ∙ ap (sum_by (λ x. count_at x s l b)) c.deref.ensures.value)
    (c.add_counts.ensures.total ∙ ap (sum_by total_of) c.deref.ensures.value)
