use Rattle.sarif_copies.proofs.EqualRecords.{records_equal}
use Rattle.sarif_copies.proofs.laws.records_are_equal_where_their_fields_are.Goals as goal

pub returns : goal.returns
returns c = records_equal
