use Rattle.sarif_results.proofs.CountedAgain.{counted_again}
use Rattle.sarif_log.proofs.laws.suppressed_results_are_counted_as_suppressed.Goals as goal

pub returns : goal.returns
returns c = counted_again c.written_suppressions_say_what_is_suppressed.ensures
