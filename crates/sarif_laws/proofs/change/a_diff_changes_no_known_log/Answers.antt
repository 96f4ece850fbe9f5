use Rattle.sarif_laws.proofs.KnownByConditions.{known_by_conditions}
use Rattle.sarif_laws.proofs.NoDiff.{known_same, pruned_same, unused_same}
use Rattle.sarif_laws.proofs.change.a_diff_changes_no_known_log.Goals as goal

pub returns : goal.returns
returns c = record {
  known = known_same;
  unused = unused_same;
  pruned = pruned_same;
  by_conditions = λ cs checks file bytes change policy choice now before knowing.
      known_by_conditions cs checks file bytes policy now before knowing change choice;
}
