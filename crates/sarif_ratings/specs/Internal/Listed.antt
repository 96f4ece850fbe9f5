-- A listed result, as the definitions see it.
use Rattle.sarif_model.specs.Run.{result_at}
use Rattle.sarif_policy.specs.declared.rating.Rating.{Rating}
use Rattle.sarif_runs.specs.Internal.Opened.{placed_of}
use Rattle.sarif_ratings.specs.Ratings.{own_rating}
use Rattle.sarif_ratings.specs.declared.listed.ListedResult.{ListedResult}

-- what it says itself
abbrev pub own_of : ListedResult → Rating
own_of listed = own_rating (result_at (placed_of listed.run.now).run listed.seq)
