use Rattle.std.proofs.Common.{◌≤◌, ap, sym, subst, ◌∙◌}
use Rattle.sarif_merge.specs.MergedLog.{runs_counted}
use Rattle.sarif_scope.specs.Counted.{hits_by, verdict_by}
use Rattle.sarif_laws.proofs.HitsInside.{hit_counted, hit_fails}
use Rattle.sarif_laws.proofs.change.no_hit_in_the_change_passes.Goals as goal

pub returns : goal.returns
returns c = record {
  counted = λ inputs policy change run found given hit.
      subst (λ one. 1 ≤ hits_by one policy (runs_counted inputs)) (sym given)
      (hit_counted policy change (runs_counted inputs) run found hit);
  verdict = λ inputs policy change run found given hit none.
      ap (λ one. verdict_by one policy (runs_counted inputs)) given
      ∙ hit_fails policy change (runs_counted inputs) run found hit none;
}
