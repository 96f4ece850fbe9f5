use Rattle.sarif_links.proofs.Placed.{place_scheme, place_signs, place_start}
use Rattle.sarif_links.proofs.laws.places_link_to_addresses.Goals as goal

pub returns-clause-signs : goal.returns-clause-signs
returns-clause-signs c = place_signs

pub returns-clause-scheme : goal.returns-clause-scheme
returns-clause-scheme c = place_scheme

pub returns-clause-start : goal.returns-clause-start
returns-clause-start c = place_start
