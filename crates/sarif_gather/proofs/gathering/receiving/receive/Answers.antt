use Rattle.std.proofs.Common.{◌+◌, sym, ap, ◌∙◌, arith}
use Rattle.std.proofs.lemmas.Bool.{true≢false, OnTrue_at, OnTrue_from}
use Rattle.sarif_collect.specs.Collecting.{with_piece, all_after}
use Rattle.sarif_dispatch.specs.Ends.{taken_by}
use Rattle.sarif_collect.specs.Pieces.{carried, ends_in, parcels_in}
use Rattle.sarif_collect.proofs.Parcels.{carried_push, ends_push, all_after_push, carried_end, ends_end}
use Rattle.sarif_gather.proofs.gathering.receiving.receive.Goals as goal

pub loop-preserved-in_default-Carry : goal.loop-preserved-in_default-Carry
loop-preserved-in_default-Carry g c =
    let was = c.loop.invariant in
    let arm = c.in_default-Carry in
    let next = c.take_next in
    let h = taken_by c.loop.desk in (
      tt,
      tt,
      next.ensures.desk,
      was.3,
      ap (λ t. ends_in (parcels_in t)) next.ensures.taken ∙ ends_push h next.result arm.piece arm.is-1 ∙ was.4,
      OnTrue_from c.take_in-is_whole.result _ (λ kept.
          let took = OnTrue_at kept c.take_in-is_whole.ensures in
          took.1 ∙ ap (with_piece c.loop.collector) arm.piece-is ∙ ap (λ k. with_piece k arm.piece) (OnTrue_at took.0 was.5)
          ∙ sym (all_after_push c.args.collector.now (carried (parcels_in h)) arm.piece)
          ∙ sym (ap (λ t. all_after c.args.collector.now (carried (parcels_in t))) next.ensures.taken
          ∙ ap (all_after c.args.collector.now) (carried_push h next.result arm.piece arm.is-1))),
    )

pub loop-preserved-then-is_whole : goal.loop-preserved-then-is_whole
loop-preserved-then-is_whole g c =
    let was = c.loop.invariant in
    let arm = c.in_default-End in
    let next = c.take_next in
    let h = taken_by c.loop.desk in (
      tt,
      tt,
      next.ensures.desk,
      omega (arith, c.if-ended-started.false, was.3),
      ap (λ t. ends_in (parcels_in t)) next.ensures.taken ∙ ends_end h next.result arm.short arm.is-1 ∙ ap (λ n. n + 1) was.4,
      OnTrue_from _ _ (λ long.
          OnTrue_at c.if-is_whole.true was.5
          ∙ sym (ap (λ t. all_after c.args.collector.now (carried (parcels_in t))) next.ensures.taken
          ∙ ap (all_after c.args.collector.now) (carried_end h next.result arm.short arm.is-1))),
    )

pub loop-preserved : goal.loop-preserved
loop-preserved g c =
    let was = c.loop.invariant in
    let arm = c.in_default-End in
    let next = c.take_next in (
      tt,
      tt,
      next.ensures.desk,
      omega (arith, c.if-ended-started.false, was.3),
      ap (λ t. ends_in (parcels_in t)) next.ensures.taken ∙ ends_end (taken_by c.loop.desk) next.result arm.short arm.is-1 ∙ ap (λ n. n + 1) was.4,
      OnTrue_from c.loop.is_whole _ (λ whole. absurd (true≢false (sym whole ∙ c.if-is_whole.false))),
    )
