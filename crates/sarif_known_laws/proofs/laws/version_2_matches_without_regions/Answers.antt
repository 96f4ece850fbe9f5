use Rattle.sarif_known_laws.proofs.BarePartners.{bare_both}
use Rattle.sarif_known_laws.proofs.BareRecords.{record_bare}
use Rattle.sarif_known_laws.proofs.laws.version_2_matches_without_regions.Goals as goal

pub returns : goal.returns
returns c = record { partners = bare_both; records = record_bare }
