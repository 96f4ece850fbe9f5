use Rattle.sarif_laws_external.proofs.Allowed.{faults_alike, later_alike, log_alike, text_alike}
use Rattle.sarif_laws_external.proofs.laws.allowing_external_files_changes_no_merge.Goals as goal

pub returns-clause-faults : goal.returns-clause-faults
returns-clause-faults c = faults_alike

pub returns-clause-log : goal.returns-clause-log
returns-clause-log c = log_alike

pub returns-clause-text : goal.returns-clause-text
returns-clause-text c = text_alike

pub returns-clause-later : goal.returns-clause-later
returns-clause-later c = later_alike
