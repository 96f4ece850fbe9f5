use Rattle.sarif_match_laws.proofs.OrderLemmas.{each_matched_in}
use Rattle.sarif_match_laws.proofs.laws.the_same_results_match_in_any_order.Goals as goal

pub returns : goal.returns
returns c = λ version current baseline i reordered within. each_matched_in version current baseline reordered i within
