use Rattle.sarif_reports.proofs.RowsApart.{rows_barred, rows_end}
use Rattle.sarif_reports.proofs.laws.markdown_rows_have_their_cells.Goals as goal

pub returns-clause-bars : goal.returns-clause-bars
returns-clause-bars c = rows_barred

pub returns-clause-lines : goal.returns-clause-lines
returns-clause-lines c = rows_end
