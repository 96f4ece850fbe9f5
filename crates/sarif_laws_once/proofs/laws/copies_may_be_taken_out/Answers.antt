use Rattle.sarif_laws_once.proofs.LogWithout.{log_left}
use Rattle.sarif_laws_once.proofs.TakenOut.{later_same, same_findings}
use Rattle.sarif_laws_once.proofs.TakenOutBare.{same_findings_bare}
use Rattle.sarif_laws_once.proofs.laws.copies_may_be_taken_out.Goals as goal

pub returns : goal.returns
returns c = record {
  findings = λ inputs logs baselines none once regions read. same_findings inputs logs baselines none once regions read (log_left inputs none once);
  in_version_2 = λ inputs logs baselines none once two unread plain read. same_findings_bare inputs logs baselines none once two unread plain read
      (log_left inputs none once);
  later = λ inputs logs baselines policy choice none once regions read. later_same inputs logs baselines none once regions read policy choice;
}
