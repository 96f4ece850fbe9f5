use Rattle.std.proofs.Common.{◌++◌, ◌∷◌, [], append_assoc, sym, ap, ◌∙◌, arith}
use Rattle.std.proofs.lemmas.List.FromFn.{map-range_with_len_more}
use Rattle.sarif_runs.specs.declared.spots.Spot.{Spot}
use Rattle.sarif_runs.specs.Internal.Spots.{spots_in}
use Rattle.sarif_runs.proofs.spots.push_spots.Goals as goal

pub loop-seq-preserved : goal.loop-seq-preserved
loop-seq-preserved c =
    let run = c.args.run in
    let seq = c.loop-seq.seq in
    let old = c.args.spots.now.items in
    let spot : Spot = record { run = run; seq = seq } in
    c.in_ok-push.ensures.items ∙ ap (λ xs. xs ++ spot ∷ []) c.loop-seq.invariant ∙ append_assoc old (spots_in run seq) (spot ∷ [])
    ∙ ap (λ xs. old ++ xs) (sym (map-range_with_len_more (λ s. record { run = run; seq = s }) 0 seq seq (omega arith)))
