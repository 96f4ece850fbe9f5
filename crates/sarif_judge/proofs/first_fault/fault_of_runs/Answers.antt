use Rattle.std.proofs.Common.{◌≡◌, ◌<◌, ◌+◌, ◌∷◌, map, drop, length, sym, ap, ◌∙◌, arith}
use Rattle.std.proofs.lemmas.List.{drop_more}
use Rattle.std.specs.List.{flat_map}
use Rattle.sarif_runs.specs.Judging.{faults_of_runs, items_of}
use Rattle.sarif_runs.specs.Internal.Opened.{placed_of}
use Rattle.sarif_results.proofs.OutcomeItems.{items_cut}
use Rattle.sarif_model.specs.FirstFault.{first}
use Rattle.sarif_judge.proofs.FirstFaults.{ends, goes_on}
use Rattle.sarif_judge.proofs.first_fault.fault_of_runs.Goals as goal

pub split_at-requires : goal.split_at-requires
split_at-requires c =
    let l = c.loop-run in
    let runs = c.args.runs.now in
    let run = c.run-item.result in
    let later = drop (l.run-index + 1) runs in
    let below : l.run-index < length runs = omega arith in
    let step : drop l.run-index runs ≡ run ∷ later = drop_more runs l.run-index run below ∙ ap (λ r. r ∷ later) (sym c.run-item.is) in
    let judged = l.invariant.0 ∙ ap (λ rs. flat_map items_of (map placed_of rs)) step in
    (items_cut l.outcomes.now (placed_of run) (map placed_of later) c.len.result judged c.len.ensures.count).0

pub fault_of_run-found-requires-clause-judged : goal.fault_of_run-found-requires-clause-judged
fault_of_run-found-requires-clause-judged c =
    let l = c.loop-run in
    let runs = c.args.runs.now in
    let run = c.run-item.result in
    let later = drop (l.run-index + 1) runs in
    let below : l.run-index < length runs = omega arith in
    let step : drop l.run-index runs ≡ run ∷ later = drop_more runs l.run-index run below ∙ ap (λ r. r ∷ later) (sym c.run-item.is) in
    let judged = l.invariant.0 ∙ ap (λ rs. flat_map items_of (map placed_of rs)) step in
    ap (map (λ o. o.item)) c.split_at.ensures.front ∙ (items_cut l.outcomes.now (placed_of run) (map placed_of later) c.len.result judged c.len.ensures.count).1

pub returns-then-is_some-clause-first : goal.returns-then-is_some-clause-first
returns-then-is_some-clause-first c =
    let l = c.loop-run in
    let runs = c.args.runs.now in
    let run = c.run-item.result in
    let later = drop (l.run-index + 1) runs in
    let below : l.run-index < length runs = omega arith in
    let step : drop l.run-index runs ≡ run ∷ later = drop_more runs l.run-index run below ∙ ap (λ r. r ∷ later) (sym c.run-item.is) in
    ends (placed_of run) (map placed_of later) c.fault_of_run-found.result c.fault_of_run-found.ensures.first (sym c.is_some.ensures ∙ c.if-is_some.true)
    ∙ ap (λ rs. first (faults_of_runs (map placed_of rs))) (sym step)
    ∙ ap first (sym l.invariant.1)

pub loop-run-preserved : goal.loop-run-preserved
loop-run-preserved c =
    let l = c.loop-run in
    let runs = c.args.runs.now in
    let run = c.run-item.result in
    let later = drop (l.run-index + 1) runs in
    let below : l.run-index < length runs = omega arith in
    let step : drop l.run-index runs ≡ run ∷ later = drop_more runs l.run-index run below ∙ ap (λ r. r ∷ later) (sym c.run-item.is) in
    let judged = l.invariant.0 ∙ ap (λ rs. flat_map items_of (map placed_of rs)) step in (
      ap (map (λ o. o.item)) c.split_at.ensures.back
          ∙ (items_cut l.outcomes.now (placed_of run) (map placed_of later) c.len.result judged c.len.ensures.count).2,
      l.invariant.1 ∙ ap (λ rs. faults_of_runs (map placed_of rs)) step
          ∙ goes_on (placed_of run) (map placed_of later) c.fault_of_run-found.result c.fault_of_run-found.ensures.first
          (sym c.is_some.ensures ∙ c.if-is_some.false),
    )
