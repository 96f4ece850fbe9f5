use Rattle.std.proofs.Common.{◌≡◌, ◌<◌, ◌++◌, map, take, drop, length, slice_index_or, ap, ◌∙◌, arith, below_more}
use Rattle.std.proofs.lemmas.List.{get_or-set_other, get_or-set_same}
use Rattle.std.proofs.Math.Seq.{take-append_seam}
use Rattle.sarif_inputs.specs.Snippets.{with_regions}
use Rattle.sarif_runs.specs.Internal.Opened.{placed_of}
use Rattle.sarif_inputs.proofs.ReadAgain.{any_default, maps_same}
use Rattle.sarif_inputs.proofs.snippets.read_all_regions.Goals as goal

pub loop-run-preserved : goal.loop-run-preserved
loop-run-preserved c =
    let i = c.loop-run.run-index in
    let items = c.loop-run.run-items in
    let given = c.deref_mut-run-items.result.now in
    let run = c.read_regions.new.run in
    let one = c.run-item.result in
    let inside : i < length items = omega (arith, c.loop-run-test.true, c.loop-run.auto.run-items) in (
      λ d k past. get_or-set_other items i k run d (λ z. omega (arith, z, past)) ∙ c.loop-run.invariant.0 d k (omega (arith, past)),
      λ d. below_more _ _
          (λ k h. ap placed_of (get_or-set_other items i k run d (λ z. omega (arith, z, h))) ∙ c.loop-run.invariant.1 d k h)
          (ap placed_of (get_or-set_same items i run d inside)
          ∙ c.read_regions.ensures
          ∙ ap (λ r. with_regions (placed_of r)) (c.loop-run.invariant.0 one i (omega arith) ∙ any_default given i one d c.loop-run-test.true)),
    )

pub returns : goal.returns
returns c =
    let items = c.loop-run.run-items in
    let given = c.args.runs.now.items in
    let long : length items ≡ length given = c.loop-run.auto.run-items ∙ ap length c.deref_mut-run-items.ensures.value in
    let whole : c.args.runs.now.len ≡ length items = omega (arith, c.deref_mut-run-items.ensures.len, c.loop-run.auto.run-items) in
    ap (map placed_of) (ap (λ n. take n (items ++ drop (length items) given)) whole ∙ take-append_seam items (drop (length items) given))
    ∙ maps_same placed_of (λ run. with_regions (placed_of run)) items given long
    (λ d k within. c.loop-run.invariant.1 d k (omega (arith, within, c.loop-run-test.false, c.loop-run.auto.run-items))
    ∙ ap (λ xs. with_regions (placed_of (slice_index_or xs k d))) c.deref_mut-run-items.ensures.value)
