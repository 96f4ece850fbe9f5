use Rattle.sarif_merge.proofs.WithoutDiff.{no_change, no_ruling, same_findings, same_log, same_verdict}
use Rattle.sarif_merge.proofs.laws.without_a_diff_all_results_count.Goals as goal

pub returns : goal.returns
returns c = record { change = no_change; ruling = no_ruling; log = same_log; verdict = same_verdict; told = same_findings }
