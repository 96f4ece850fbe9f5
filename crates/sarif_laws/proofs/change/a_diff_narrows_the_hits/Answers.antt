use Rattle.std.proofs.Common.{◌+◌, ap, ◌∙◌, sym, refl}
use Rattle.sarif_merge.specs.MergedLog.{runs_counted}
use Rattle.sarif_scope.specs.Counted.{hits_by, outside_of}
use Rattle.sarif_scope.proofs.HitsMore.{split_by}
use Rattle.sarif_laws.proofs.HitsInside.{hits_inside}
use Rattle.sarif_laws.proofs.change.a_diff_narrows_the_hits.Goals as goal

pub returns : goal.returns
returns c = record {
  runs = λ inputs. refl;
  counts = λ inputs. refl;
  copies = λ inputs. refl;
  unused = λ inputs. refl;
  inside = λ inputs policy change given.
      ap (λ one. hits_by one policy (runs_counted inputs)) given ∙ hits_inside policy change (runs_counted inputs);
  outside = λ inputs policy change given.
      split_by change (runs_counted inputs) policy
      ∙ ap (λ one. hits_by one policy (runs_counted inputs) + outside_of change policy (runs_counted inputs)) (sym given);
}
