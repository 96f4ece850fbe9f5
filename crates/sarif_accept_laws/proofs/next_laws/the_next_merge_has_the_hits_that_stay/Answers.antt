use Rattle.sarif_accept_laws.proofs.NextMerge.{hit_stays}
use Rattle.sarif_accept_laws.proofs.next_laws.the_next_merge_has_the_hits_that_stay.Goals as goal

pub returns : goal.returns
returns c = λ how policy given today file rs states i r later state is at there said accepts until.
    hit_stays how policy given today file rs states is i r later state at there said accepts until
