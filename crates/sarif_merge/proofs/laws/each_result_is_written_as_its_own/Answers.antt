use Rattle.sarif_merge.proofs.OwnResult.{own_result, results_same, runs_same}
use Rattle.sarif_merge.proofs.laws.each_result_is_written_as_its_own.Goals as goal

pub returns : goal.returns
returns c = record { runs = runs_same; results = results_same; own = own_result }
