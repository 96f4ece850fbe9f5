use Rattle.sarif_match_laws.proofs.BlindSpot.{new_snippet_is_seen, unchanged_has_match}
use Rattle.sarif_match_laws.proofs.laws.unchanged_results_have_a_match_that_is_the_same.Goals as goal

pub returns-clause-same : goal.returns-clause-same
returns-clause-same c = unchanged_has_match

pub returns-clause-snippet : goal.returns-clause-snippet
returns-clause-snippet c =
    λ current baseline i r snippet here own others. new_snippet_is_seen current baseline i r here snippet own others
