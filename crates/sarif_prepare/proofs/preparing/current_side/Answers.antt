use Rattle.std.proofs.Common.{map, length, ap, arith}
use Rattle.std.proofs.lemmas.List.{length-map}
use Rattle.sarif_runs.specs.Judging.{run_values}
use Rattle.sarif_runs.specs.Internal.Opened.{placed_of}
use Rattle.sarif_log.specs.Internal.Texts.{own_count}
use Rattle.sarif_log.proofs.Sides.{runs_long}
use Rattle.sarif_prepare.proofs.preparing.current_side.Goals as goal

pub count_without-without-requires : goal.count_without-without-requires
count_without-without-requires c =
    let placed = map placed_of c.args.current.runs.items in
    let long = runs_long own_count c.in_ok-runs.runs.items (run_values placed) c.in_ok-runs.ensures.parts in
    let same = length-map placed (λ p. p.run) in
    let many = length-map c.args.current.runs.items placed_of in
    let held = ap length c.deref-2.ensures.value in
    record { few = omega (arith, long, same, many, held, c.requires) }
