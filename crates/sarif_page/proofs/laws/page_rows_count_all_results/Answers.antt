use Rattle.sarif_page.proofs.RowsLeft.{hits_counted, others_counted}
use Rattle.sarif_page.proofs.laws.page_rows_count_all_results.Goals as goal

pub returns : goal.returns
returns c = record { hits = hits_counted; others = others_counted }
