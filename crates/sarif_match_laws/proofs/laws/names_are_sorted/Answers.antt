use Rattle.sarif_match.proofs.SortedLemmas.{sorted_names, has_names}
use Rattle.sarif_match_laws.proofs.laws.names_are_sorted.Goals as goal

pub returns-clause-rising : goal.returns-clause-rising
returns-clause-rising c = sorted_names

pub returns-clause-just : goal.returns-clause-just
returns-clause-just c = λ current baseline name. has_names name current baseline
