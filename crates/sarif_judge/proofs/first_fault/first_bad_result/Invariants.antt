use Rattle.std.proofs.Common.{◌≡◌, map, drop}
use Rattle.sarif_model.specs.declared.merge_fault.At.TheVariants.{Single}
use Rattle.sarif_runs.specs.Judging.{first_bad}
use Rattle.sarif_judge.proofs.first_fault.first_bad_result.Given as goal

abbrev pub invariant-loop-seq : goal.invariant-loop-seq
invariant-loop-seq l =
    let at = Single l.run.source l.run.number in
    first_bad at 0 (map (λ o. o.item) l.outcomes) ≡ first_bad at l.seq (map (λ o. o.item) (drop l.seq l.outcomes))
