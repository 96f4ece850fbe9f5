use Rattle.sarif_match_laws.proofs.HiddenLemmas.{nothing_hidden}
use Rattle.sarif_match_laws.proofs.laws.unchanged_results_have_one_snippet_or_are_equal_in_version_2.Goals as goal

pub returns : goal.returns
returns c = nothing_hidden
