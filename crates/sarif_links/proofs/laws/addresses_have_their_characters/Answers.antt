use Rattle.sarif_links.proofs.AddressSigns.{scheme, signs}
use Rattle.sarif_links.proofs.laws.addresses_have_their_characters.Goals as goal

pub returns-clause-signs : goal.returns-clause-signs
returns-clause-signs c = signs

pub returns-clause-scheme : goal.returns-clause-scheme
returns-clause-scheme c = scheme
