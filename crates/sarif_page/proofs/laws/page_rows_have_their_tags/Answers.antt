use Rattle.sarif_page.proofs.TagsCounted.{quotes_counted, tags_counted}
use Rattle.sarif_page.proofs.laws.page_rows_have_their_tags.Goals as goal

pub returns : goal.returns
returns c = record { tags = tags_counted; quotes = quotes_counted }
