use Rattle.sarif_streams.proofs.ReadOnce.{contents_once}
use Rattle.sarif_streams.proofs.laws.sources_are_read_in_one_way.Goals as goal

pub returns : goal.returns
returns g c = contents_once g.R.Read.remaining
