use Rattle.std.proofs.Common.{ap, map}
use Rattle.sarif_match.specs.Partners.{partners_in}
use Rattle.sarif_counts.specs.Hits.{verdict_of}
use Rattle.sarif_suppress.specs.Limited.{limited}
use Rattle.sarif_suppress.specs.Suppressing.{is_suppressed, matching_numbers}
use Rattle.sarif_log.specs.LogBy.{states_of, taken_of}
use Rattle.sarif_laws_external.proofs.SameResults.{counts_same, gate_same, written_same}
use Rattle.sarif_laws_external.proofs.SameRuns.{faults_same, passes_without, reads_alike, records_same}
use Rattle.sarif_laws_external.proofs.laws.external_files_change_no_result.Goals as goal

pub returns-clause-passes : goal.returns-clause-passes
returns-clause-passes c = passes_without

pub returns-clause-reads : goal.returns-clause-reads
returns-clause-reads c = reads_alike

pub returns-clause-faults : goal.returns-clause-faults
returns-clause-faults c = faults_same

pub returns-clause-records : goal.returns-clause-records
returns-clause-records c = records_same

pub returns-clause-partners : goal.returns-clause-partners
returns-clause-partners c = λ version current baseline i. partners_in version (records_same current i) (records_same baseline i)

pub returns-clause-states : goal.returns-clause-states
returns-clause-states c = λ version current baseline i. states_of version (records_same current i) (records_same baseline i)

pub returns-clause-taken : goal.returns-clause-taken
returns-clause-taken c = λ version current baseline i. taken_of version (records_same current i) (records_same baseline i)

pub returns-clause-matching : goal.returns-clause-matching
returns-clause-matching c = λ file runs. ap (λ rs. map (matching_numbers file) (limited file rs)) (records_same runs)

pub returns-clause-suppressed : goal.returns-clause-suppressed
returns-clause-suppressed c = λ file runs. ap (λ rs. map (is_suppressed file) (limited file rs)) (records_same runs)

pub returns-clause-results : goal.returns-clause-results
returns-clause-results c = written_same

pub returns-clause-counts : goal.returns-clause-counts
returns-clause-counts c = counts_same

pub returns-clause-gate : goal.returns-clause-gate
returns-clause-gate c = gate_same

pub returns-clause-verdict : goal.returns-clause-verdict
returns-clause-verdict c = λ version file current baseline policy. ap (λ counts. verdict_of counts policy) (counts_same version file current baseline)
