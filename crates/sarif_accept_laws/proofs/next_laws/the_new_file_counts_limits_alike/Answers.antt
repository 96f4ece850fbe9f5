use Rattle.sarif_accept_laws.proofs.Next.{as_many_unused, given_numbered, same_matches, same_statuses, same_suppressions, same_unused}
use Rattle.sarif_accept_laws.proofs.next_laws.the_new_file_counts_limits_alike.Goals as goal

pub returns-clause-matches : goal.returns-clause-matches
returns-clause-matches c = λ how given today file rs added before r n e later is at there.
    same_matches how file rs added (given_numbered given today file is) before r n e later at there

pub returns-clause-statuses : goal.returns-clause-statuses
returns-clause-statuses c = λ how given today file rs added before r is.
    same_statuses how file rs added (given_numbered given today file is) before r

pub returns-clause-suppressions : goal.returns-clause-suppressions
returns-clause-suppressions c = λ how given today file rs added before r own is.
    same_suppressions how file rs added (given_numbered given today file is) own before r

pub returns-clause-unused : goal.returns-clause-unused
returns-clause-unused c = λ how given today file rs added all n e later is at there.
    same_unused how file rs added (given_numbered given today file is) all n e later at there

pub returns-clause-as_many : goal.returns-clause-as_many
returns-clause-as_many c = λ how given today file rs added all is. as_many_unused how file rs added (given_numbered given today file is) all
