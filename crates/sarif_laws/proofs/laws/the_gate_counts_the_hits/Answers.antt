use Rattle.sarif_laws.proofs.Counted.{hits_counted}
use Rattle.sarif_laws.proofs.laws.the_gate_counts_the_hits.Goals as goal

pub returns : goal.returns
returns c = hits_counted
