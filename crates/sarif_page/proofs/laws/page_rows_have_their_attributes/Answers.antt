use Rattle.sarif_page.proofs.AttributesRead.{attributes_read}
use Rattle.sarif_page.proofs.laws.page_rows_have_their_attributes.Goals as goal

pub returns : goal.returns
returns c = attributes_read
