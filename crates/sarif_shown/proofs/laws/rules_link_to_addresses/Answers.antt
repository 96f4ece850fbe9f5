use Rattle.sarif_links.proofs.AddressSigns.{scheme, signs}
use Rattle.sarif_shown.proofs.AddressSigns.{all_linked}
use Rattle.sarif_shown.proofs.laws.rules_link_to_addresses.Goals as goal

pub returns-clause-links : goal.returns-clause-links
returns-clause-links c = all_linked

pub returns-clause-signs : goal.returns-clause-signs
returns-clause-signs c = signs

pub returns-clause-scheme : goal.returns-clause-scheme
returns-clause-scheme c = scheme
