use Rattle.sarif_ratings.proofs.RunsRated.{all_rated}
use Rattle.sarif_ratings.proofs.rated_run.rate_runs.Goals as goal

pub returns : goal.returns
returns c = λ found. all_rated _ _ c.in_ok-rated.ensures found
