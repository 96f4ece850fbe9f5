use Rattle.std.proofs.Common.{map, sym, ap, ◌∙◌}
use Rattle.std.specs.List.{flat_map}
use Rattle.sarif_runs.specs.Judging.{items_of}
use Rattle.sarif_runs.specs.Internal.Opened.{placed_of}
use Rattle.sarif_results.proofs.OutcomeItems.{all_items}
use Rattle.sarif_judge.proofs.judged.judge_runs.Goals as goal

pub fault_of_runs-requires : goal.fault_of_runs-requires
fault_of_runs-requires g c =
    ap (map (λ o. o.item)) (c.deref-3.ensures.value ∙ c.in-Ok.ensures)
    ∙ all_items c.args.file.now (map placed_of c.deref.result.now)
    ∙ ap (λ rs. flat_map items_of (map placed_of rs)) (c.deref.ensures.value ∙ sym c.deref-2.ensures.value)
