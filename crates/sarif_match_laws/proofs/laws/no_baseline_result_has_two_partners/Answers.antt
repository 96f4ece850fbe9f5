use Rattle.sarif_match.proofs.LawLemmas.{partners-once}
use Rattle.sarif_match_laws.proofs.laws.no_baseline_result_has_two_partners.Goals as goal

pub returns : goal.returns
returns c = partners-once
