use Rattle.sarif_accept_laws.proofs.NextMerge.{pruned_list, pruned_unused}
use Rattle.sarif_accept_laws.proofs.next_laws.the_next_merge_has_the_same_suppressions.Goals as goal

pub returns-clause-same : goal.returns-clause-same
returns-clause-same c = λ how policy given today file rs states i r later own is at there none.
    pruned_list how policy given today file rs states is i r later own at there none

pub returns-clause-unused : goal.returns-clause-unused
returns-clause-unused c = λ how policy given today file rs states n e is at prunes none unused.
    pruned_unused how policy given today file rs states is n e at prunes none unused
