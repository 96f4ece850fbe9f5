use Rattle.sarif_laws_once.proofs.CopyOf.{matched_alike, written_alike}
use Rattle.sarif_laws_once.proofs.laws.copies_are_written_as_their_findings.Goals as goal

pub returns : goal.returns
returns c = record { current = written_alike; before = matched_alike }
