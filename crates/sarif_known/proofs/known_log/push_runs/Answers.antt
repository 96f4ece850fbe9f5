use Rattle.std.proofs.Common.{◌≡◌, ◌∙◌, ◌++◌, ◌∷◌, ◌+◌, drop, map, ap, sym}
use Rattle.std.proofs.lemmas.List.{drop_more}
use Rattle.sarif_known.specs.Chosen.{all_chosen, chosen_of, run_as}
use Rattle.sarif_known.specs.KnownRun.{known_run}
use Rattle.sarif_known.specs.Internal.Tokens.{each_tokens}
use Rattle.sarif_known.proofs.RunsAdded.{runs_lost}
use Rattle.sarif_known.proofs.known_log.push_runs.Goals as goal

pub returns-in-Err-clause-lost : goal.returns-in-Err-clause-lost
returns-in-Err-clause-lost c =
    let these : drop c.loop-run.run-index c.args.runs.now ≡ c.run-item.result ∷ drop (c.loop-run.run-index + 1) c.args.runs.now =
    drop_more c.args.runs.now c.loop-run.run-index c.run-item.result c.loop-run-test.true
    ∙ ap (λ x. x ∷ drop (c.loop-run.run-index + 1) c.args.runs.now) (sym c.run-item.is) in
    runs_lost c.loop-run.out (c.args.out.now ++ each_tokens (map known_run (map (run_as c.args.regions) (all_chosen c.args.runs.now)))) (run_as c.args.regions (chosen_of c.run-item.result))
    (map (run_as c.args.regions) (all_chosen (drop (c.loop-run.run-index + 1) c.args.runs.now))) c.in-Err.fault
    (ap (λ rs. c.loop-run.out ++ each_tokens (map known_run (map (run_as c.args.regions) (all_chosen rs)))) (sym these) ∙ c.loop-run.invariant) c.in-Err.ensures.lost
