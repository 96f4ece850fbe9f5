use Rattle.sarif_links.proofs.ReadBack.{apart, named, reads}
use Rattle.sarif_links.proofs.laws.paths_are_read_back.Goals as goal

pub returns-clause-apart : goal.returns-clause-apart
returns-clause-apart c = apart

pub returns-clause-read : goal.returns-clause-read
returns-clause-read c = reads

pub returns-clause-segments : goal.returns-clause-segments
returns-clause-segments c = named
