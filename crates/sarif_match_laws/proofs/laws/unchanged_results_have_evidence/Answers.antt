use Rattle.sarif_match_laws.proofs.EvidenceLemmas.{unchanged_is_same, unchanged_has_snippet, unchanged_has_other, enough_is_unchanged}
use Rattle.sarif_match_laws.proofs.laws.unchanged_results_have_evidence.Goals as goal

pub returns-clause-same : goal.returns-clause-same
returns-clause-same c = unchanged_is_same

pub returns-clause-snippet : goal.returns-clause-snippet
returns-clause-snippet c = unchanged_has_snippet

pub returns-clause-other : goal.returns-clause-other
returns-clause-other c = unchanged_has_other

pub returns-clause-enough : goal.returns-clause-enough
returns-clause-enough c = enough_is_unchanged
