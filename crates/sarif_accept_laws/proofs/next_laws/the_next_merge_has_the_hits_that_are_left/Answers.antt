use Rattle.sarif_accept_laws.proofs.NextMerge.{begins_at, left_at, suppressed_at}
use Rattle.sarif_accept_laws.proofs.next_laws.the_next_merge_has_the_hits_that_are_left.Goals as goal

pub returns-clause-hits : goal.returns-clause-hits
returns-clause-hits c = λ how policy given today file rs added i r later state is at there.
    left_at how given today file rs added is i r later at there policy state

pub returns-clause-suppressed : goal.returns-clause-suppressed
returns-clause-suppressed c = λ how given today file rs added i r later is at there was.
    suppressed_at how given today file rs added is i r later at there was

pub returns-clause-begins : goal.returns-clause-begins
returns-clause-begins c = λ how given today file rs added i r later own is at there.
    begins_at how given today file rs added is i r later at there own
