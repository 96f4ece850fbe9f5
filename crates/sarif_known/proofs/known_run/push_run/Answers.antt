use Rattle.std.proofs.Common.{◌++◌, ◌∙◌, List, map, ap, sym, subst}
use Rattle.json.specs.Layout.{pretty}
use Rattle.sarif_model.specs.declared.record.Record.{Record}
use Rattle.sarif_known.specs.Chosen.{chosen_of, known_as, run_as}
use Rattle.sarif_known.specs.KnownLog.{IsLost}
use Rattle.sarif_known.proofs.RunsAdded.{each_as, opening_as, run_added, run_lost, run_unopened}
use Rattle.sarif_known.proofs.known_run.push_run.Goals as goal

pub returns-in-Err-clause-lost : goal.returns-in-Err-clause-lost
returns-in-Err-clause-lost c =
    let first : List Record = map (λ r. r.now) c.deref.result.now in
    run_unopened c.args.out.now (run_as c.args.regions (chosen_of c.args.run.now)) (map (known_as c.args.regions) first) c.in-Err.fault
    (ap (λ rs. map (known_as c.args.regions) (map (λ r. r.now) rs)) c.deref.ensures.value)
    (subst (λ ts. IsLost (pretty (c.args.out.now ++ ts)) c.in-Err.fault) (sym (opening_as c.args.regions first)) c.in-Err.ensures.lost)

pub returns-in-Err-push_results-clause-lost : goal.returns-in-Err-push_results-clause-lost
returns-in-Err-push_results-clause-lost c =
    let first : List Record = map (λ r. r.now) c.deref.result.now in
    run_lost c.args.out.now c.open_run.new.out (run_as c.args.regions (chosen_of c.args.run.now)) (map (known_as c.args.regions) first)
    (map (λ r. known_as c.args.regions r.now) c.deref-2.result.now) c.in-Err-push_results.fault
    (ap (λ rs. map (known_as c.args.regions) (map (λ r. r.now) rs)) c.deref.ensures.value)
    (each_as c.args.regions c.deref-2.result.now ∙ ap (λ rs. map (known_as c.args.regions) (map (λ r. r.now) rs)) c.deref-2.ensures.value)
    (c.in_default.ensures.added ∙ ap (λ ts. c.args.out.now ++ ts) (sym (opening_as c.args.regions first))) c.in-Err-push_results.ensures.lost

pub returns-clause-added : goal.returns-clause-added
returns-clause-added c =
    let first : List Record = map (λ r. r.now) c.deref.result.now in
    run_added c.args.out.now c.open_run.new.out c.push_results.new.out c.close_run.new.out (run_as c.args.regions (chosen_of c.args.run.now))
    (map (known_as c.args.regions) first) (map (λ r. known_as c.args.regions r.now) c.deref-2.result.now)
    (ap (λ rs. map (known_as c.args.regions) (map (λ r. r.now) rs)) c.deref.ensures.value)
    (each_as c.args.regions c.deref-2.result.now ∙ ap (λ rs. map (known_as c.args.regions) (map (λ r. r.now) rs)) c.deref-2.ensures.value)
    (c.in_default.ensures.added ∙ ap (λ ts. c.args.out.now ++ ts) (sym (opening_as c.args.regions first)))
    c.in_default-push_results.ensures.added
    c.in_ok-close_run.ensures
