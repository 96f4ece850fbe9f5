use Rattle.sarif_shown.proofs.ListedMore.{hits_first, length_listed, listed_permutes, others_after}
use Rattle.sarif_shown.proofs.ListedSorted.{listed_sorted, standing_kept}
use Rattle.sarif_shown.proofs.laws.listed_results_are_sorted.Goals as goal

pub returns-clause-once : goal.returns-clause-once
returns-clause-once c = listed_permutes

pub returns-clause-sorted : goal.returns-clause-sorted
returns-clause-sorted c = listed_sorted

pub returns-clause-stable : goal.returns-clause-stable
returns-clause-stable c = standing_kept

pub returns-clause-hits : goal.returns-clause-hits
returns-clause-hits c = hits_first

pub returns-clause-others : goal.returns-clause-others
returns-clause-others c = others_after

pub returns-clause-length : goal.returns-clause-length
returns-clause-length c = length_listed
