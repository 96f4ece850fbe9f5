-- What conditions see of results, as the contracts of the crate's functions see it.
use Rattle.std.specs.Prelude.{◌≡◌, List, map}
use Rattle.sarif_change.specs.declared.spots.Scope.TheVariants.{Lines, Files}
use Rattle.sarif_policy.specs.declared.condition.GateCondition.{GateCondition}
use Rattle.sarif_read.specs.Unmarked.{unmarked}
use Rattle.sarif_deciding.specs.Internal.Rated.{ratings_or}
use Rattle.sarif_deciding.specs.Matched.{Matched}
use Rattle.sarif_deciding.specs.Results.{absent_ratings, current_ratings, gone_in, inside_in, Seen}
use Rattle.sarif_deciding.specs.declared.absent.AbsentLooked.{AbsentLooked}
use Rattle.sarif_deciding.specs.declared.current.CurrentLooked.{CurrentLooked}
use Rattle.sarif_deciding.specs.declared.seen.SeenResult.{SeenResult}

abbrev pub seen_of : SeenResult → Seen
seen_of seen = record {
  rating = seen.rating.now;
  in_lines = seen.in_lines;
  in_files = seen.in_files;
  is_gone = seen.is_gone;
}

-- holds what the conditions require of the current results of a merge
pub record IsCurrentLooked (cs : List GateCondition) (m : Matched) (looked : CurrentLooked)
    : Type 0 where
  pub ratings : ratings_or looked.ratings m.drafts ≡ current_ratings cs m
  pub in_lines : looked.in_lines.items ≡ inside_in Lines cs m
  pub in_files : looked.in_files.items ≡ inside_in Files cs m

-- holds what the conditions require of the absent results of a merge
pub record IsAbsentLooked (cs : List GateCondition) (m : Matched) (looked : AbsentLooked)
    : Type 0 where
  pub ratings : ratings_or looked.ratings m.left ≡ absent_ratings cs m
  pub records : map (λ r. r.now) looked.records.items ≡ unmarked m.taken m.known
  pub gone : looked.gone.items ≡ gone_in cs m
