use Rattle.std.proofs.Common.{refl}
use Rattle.sarif_shown.specs.TerminalReport.{most_shown}
use Rattle.sarif_shown.proofs.TerminalApart.{first_lines, hits_parted, lines_unstyled, report_unstyled}
use Rattle.sarif_shown.proofs.laws.terminals_show_the_hits.Goals as goal

pub returns-clause-plain : goal.returns-clause-plain
returns-clause-plain c = λ f. refl

pub returns-clause-coloured : goal.returns-clause-coloured
returns-clause-coloured c = lines_unstyled

pub returns-clause-whole : goal.returns-clause-whole
returns-clause-whole c = report_unstyled

pub returns-clause-lines : goal.returns-clause-lines
returns-clause-lines c = first_lines most_shown

pub returns-clause-counted : goal.returns-clause-counted
returns-clause-counted c = hits_parted most_shown
