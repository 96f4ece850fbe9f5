use Rattle.sarif_laws.proofs.UnreadMerge.{unread}
use Rattle.sarif_laws.proofs.laws.snippets_that_no_entry_compares_change_nothing.Goals as goal

pub returns : goal.returns
returns c = unread
