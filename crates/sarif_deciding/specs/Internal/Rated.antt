-- The ratings of results of runs.
use Rattle.std.specs.Prelude.{List, Option, Some, None, map}
use Rattle.sarif_policy.specs.declared.rating.Rating.{Rating}
use Rattle.sarif_policy.specs.declared.rating.Rating.TheVariants.{Missing}
use Rattle.sarif_ratings.specs.Ratings.{rating_at}
use Rattle.sarif_results.specs.declared.draft.Draft.{Draft}
use Rattle.sarif_runs.specs.Internal.Opened.{placed_of}
use Rattle.sarif_deciding.specs.Results.{for_each}
use Rattle.sarif_deciding.specs.declared.ratings.RatedResults.{RatedResults}
use Rattle.sarif_deciding.specs.declared.ratings.Ratings.{Ratings}

abbrev pub ratings_in : RatedResults → List Rating
ratings_in rated = map (rating_at (map placed_of rated.opened.now)) rated.spots.items

abbrev pub ratings_by : Option RatedResults → List Draft → List Rating
ratings_by None drafts = for_each Missing drafts
ratings_by (Some rated) drafts = ratings_in rated

-- the ratings of the results with these drafts
abbrev pub ratings_or : Ratings → List Draft → List Rating
ratings_or ratings drafts = ratings_by ratings.rated drafts
