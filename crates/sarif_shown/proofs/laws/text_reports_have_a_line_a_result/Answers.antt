use Rattle.sarif_shown.proofs.TextApart.{hit_lines, hits_first, text_lines}
use Rattle.sarif_shown.proofs.laws.text_reports_have_a_line_a_result.Goals as goal

pub returns-clause-lines : goal.returns-clause-lines
returns-clause-lines c = text_lines

pub returns-clause-hits : goal.returns-clause-hits
returns-clause-hits c = hit_lines

pub returns-clause-first : goal.returns-clause-first
returns-clause-first c = hits_first
