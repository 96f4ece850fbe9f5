use Rattle.sarif_entries.proofs.EntryLimits.{numbered}
use Rattle.sarif_entries.proofs.laws.limits_have_the_numbers_of_their_entries.Goals as goal

pub returns : goal.returns
returns c = numbered
