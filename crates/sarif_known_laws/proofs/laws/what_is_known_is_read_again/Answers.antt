use Rattle.sarif_known.proofs.LogBack.{log_back}
use Rattle.sarif_known.proofs.RunBack.{known_again}
use Rattle.sarif_known_laws.proofs.laws.what_is_known_is_read_again.Goals as goal

pub returns : goal.returns
returns c = record {
  log = λ options allow runs text can is. log_back options allow runs text can is;
  records = λ options runs placed can alike are. known_again options runs placed alike are can.each can.few_results;
}
