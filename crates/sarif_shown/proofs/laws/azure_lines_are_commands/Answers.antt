use Rattle.sarif_shown.specs.Listed.{listed}
use Rattle.sarif_shown.proofs.AzureApart.{all_counted, hit_issues, hits_first, issues_listed}
use Rattle.sarif_shown.specs.ReportedInside.{reported_by}
use Rattle.sarif_shown.proofs.FindingsInside.{told_inside}
use Rattle.sarif_shown.proofs.ListedMore.{listed_told}
use Rattle.sarif_shown.proofs.laws.azure_lines_are_commands.Goals as goal

pub returns-clause-lines : goal.returns-clause-lines
returns-clause-lines c = issues_listed

pub returns-clause-properties : goal.returns-clause-properties
returns-clause-properties c = λ change reporting log.
    all_counted (listed (reported_by change reporting log)) (listed_told (reported_by change reporting log) (told_inside change reporting log))

pub returns-clause-hits : goal.returns-clause-hits
returns-clause-hits c = hit_issues

pub returns-clause-first : goal.returns-clause-first
returns-clause-first c = hits_first
