use Rattle.sarif_laws.proofs.HitsTold.{hits_told}
use Rattle.sarif_laws.proofs.laws.each_hit_looked_at_is_accepted_alike_or_stays.Goals as goal

pub returns : goal.returns
returns c = hits_told
