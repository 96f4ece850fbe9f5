use Rattle.sarif_page.proofs.PageAttributesRead.{page_attributes_read}
use Rattle.sarif_page.proofs.laws.page_has_its_attributes.Goals as goal

pub returns : goal.returns
returns c = page_attributes_read
