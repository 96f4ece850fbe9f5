use Rattle.sarif_shown.proofs.AzureApart.{properties_closed}
use Rattle.sarif_shown.proofs.laws.azure_properties_hold_no_end.Goals as goal

pub returns : goal.returns
returns c = properties_closed
