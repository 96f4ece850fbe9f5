use Rattle.sarif_match_laws.proofs.AnyOrder.{same_unchanged}
use Rattle.sarif_match_laws.proofs.laws.the_same_results_are_unchanged_in_any_order.Goals as goal

pub returns : goal.returns
returns c = λ current baseline i r reordered bare levels here. same_unchanged current baseline reordered bare levels i r here
