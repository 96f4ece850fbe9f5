use Rattle.sarif_known_laws.proofs.Readable.{read_sound}
use Rattle.sarif_known_laws.proofs.laws.what_is_read_can_be_known.Goals as goal

pub returns : goal.returns
returns c = λ options allow bytes runs k seq r is got. read_sound options allow bytes runs k seq r is got
