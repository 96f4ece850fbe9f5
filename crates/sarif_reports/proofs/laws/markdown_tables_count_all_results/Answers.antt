use Rattle.sarif_reports.proofs.TableRows.{each_short, hits_parted, results_parted, some_row, table_fits}
use Rattle.sarif_reports.proofs.laws.markdown_tables_count_all_results.Goals as goal

pub returns-clause-results : goal.returns-clause-results
returns-clause-results c = results_parted

pub returns-clause-hits : goal.returns-clause-hits
returns-clause-hits c = hits_parted

pub returns-clause-row : goal.returns-clause-row
returns-clause-row c = some_row

pub returns-clause-few : goal.returns-clause-few
returns-clause-few c = each_short

pub returns-clause-bytes : goal.returns-clause-bytes
returns-clause-bytes c = table_fits
