use Rattle.std.proofs.Common.{rules, ◌≡◌, ◌++◌, ◌∷◌, [], map, sym, ap, ◌∙◌, subst, append_assoc}
use Rattle.std.specs.List.{AllByRecursion}
use Rattle.sarif_runs.specs.Internal.Opened.{placed_of}
use Rattle.sarif_log.specs.Internal.Texts.{own_count, ArePartsOf, IsWholeRun}
use Rattle.sarif_runs.specs.Judging.{run_values}
use Rattle.sarif_prepare.proofs.RunPartsOf.{parts_more, whole_more, data_more}
use Rattle.sarif_prepare.proofs.parts_of_runs.current_parts.Goals as goal

pub loop-run-preserved : goal.loop-run-preserved
loop-run-preserved c =
    let l = c.loop-run in
    let left = c.next.new.self.rest.items in
    let step : l.run-iterator.rest.items ≡ c.in-Some.run' ∷ left = search rules in
    let made = c.current_run.ensures in
    let pushed : c.push.new.self.items ≡ l.all.items ++ c.current_run.result ∷ [] = search rules in (
      l.invariant.0 ∙ ap (λ rs. l.yielded ++ rs) step ∙ sym (append_assoc l.yielded (c.in-Some.run' ∷ []) left),
      subst (λ ds. ArePartsOf own_count c.push.new.self.items ds) (data_more l.yielded c.in-Some.run')
          (subst (λ ps. ArePartsOf own_count ps (run_values (map placed_of l.yielded) ++ (placed_of c.in-Some.run').run ∷ [])) (sym pushed)
          (parts_more own_count l.all.items (run_values (map placed_of l.yielded)) c.current_run.result
          (placed_of c.in-Some.run').run l.invariant.1 made.members made.results)),
      subst (AllByRecursion IsWholeRun) (sym pushed) (whole_more l.all.items c.current_run.result l.invariant.2 made.whole),
    )
