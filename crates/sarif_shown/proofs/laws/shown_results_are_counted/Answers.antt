use Rattle.sarif_shown.proofs.FindingsInside.{alone_inside, filtered_inside}
use Rattle.sarif_shown.proofs.ShownCounted.{all_counted}
use Rattle.sarif_shown.proofs.laws.shown_results_are_counted.Goals as goal

pub returns-clause-shown : goal.returns-clause-shown
returns-clause-shown c = λ change reporting log. filtered_inside reporting change log

pub returns-clause-hits : goal.returns-clause-hits
returns-clause-hits c = alone_inside

pub returns-clause-all : goal.returns-clause-all
returns-clause-all c = all_counted
