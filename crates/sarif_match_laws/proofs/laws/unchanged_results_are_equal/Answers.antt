use Rattle.sarif_evidence.proofs.StateLemmas.{unchanged_is_equal, equal_is_unchanged}
use Rattle.sarif_match_laws.proofs.laws.unchanged_results_are_equal.Goals as goal

pub returns : goal.returns
returns c = λ current partner. (unchanged_is_equal current partner, equal_is_unchanged current partner)
