use Rattle.sarif_shown.proofs.EscapedApart.{page_apart}
use Rattle.sarif_page.proofs.CodeApart.{code_apart}
use Rattle.sarif_page.proofs.laws.page_texts_hold_no_markup.Goals as goal

pub returns : goal.returns
returns c = record { texts = page_apart; code = code_apart }
