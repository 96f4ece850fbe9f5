-- Conditions see each result of a merge once.
use Rattle.std.proofs.Common.{◌≡◌, ◌+◌, ℕ, Bool, true, false, List, map, length, length-append, sym, ap, ◌∙◌}
use Rattle.std.proofs.lemmas.List.{length-map}
use Rattle.std.specs.Prelude.{if◌then◌else◌}
use Rattle.serde_json.specs.Data.{Data}
use Rattle.sarif_change.specs.declared.spots.Scope.TheVariants.{Lines, Files}
use Rattle.sarif_deciding.proofs.Lengths.{current_rated_long, each_long, inside_long}
use Rattle.sarif_deciding.proofs.Unmarked.{unmarked_long}
use Rattle.sarif_deciding.proofs.SideBySide.{judged_long, seen_long}
use Rattle.sarif_deciding.specs.Asked.{ratchets, rates}
use Rattle.sarif_deciding.specs.Matched.{Matched}
use Rattle.sarif_deciding.specs.Present.{all_present}
use Rattle.sarif_deciding.specs.Results.{absent_ratings, absent_results, absent_seen, current_ratings, current_results, current_seen, for_each, gone_in, inside_in, is_gone_by, results_in}
use Rattle.sarif_model.specs.declared.kinds.State.TheVariants.{Absent}
use Rattle.sarif_policy.specs.declared.condition.GateCondition.{GateCondition}
use Rattle.sarif_policy.specs.declared.rating.Rating.{Rating}
use Rattle.sarif_policy.specs.declared.rating.Rating.TheVariants.{Missing}
use Rattle.sarif_ratings.specs.Ratings.{rating_in}
use Rattle.sarif_read.specs.Unmarked.{unmarked}
use Rattle.sarif_runs.specs.Internal.Spots.{spots_from}

if_long : {X Y : Type 0} (asked : Bool) (xs ys : List X) (zs : List Y) → length xs ≡ length zs → length ys ≡ length zs
    → length (if asked then xs else ys) ≡ length zs
if_long true xs ys zs x y = x
if_long false xs ys zs x y = y

module _ (cs : List GateCondition) (m : Matched) where
  module _ (r : length m.records ≡ length m.drafts) (s : length m.states ≡ length m.drafts) (spots : length m.drafts ≡ length (spots_from 0 m.runs)) where
    ratings : length (current_ratings cs m) ≡ length m.drafts
    ratings = current_rated_long cs m spots

    seen : length (current_seen cs m) ≡ length m.drafts
    seen =
        seen_long (current_ratings cs m) (inside_in Lines cs m) (inside_in Files cs m) (for_each false m.drafts)
        (inside_long cs m spots Lines ∙ sym ratings) (inside_long cs m spots Files ∙ sym ratings) (each_long false m.drafts ∙ sym ratings)
        ∙ ratings

    pub current_each : length (current_results cs m) ≡ length m.drafts
    current_each = judged_long m.records m.states m.drafts (current_seen cs m) (s ∙ sym r) (sym r) (seen ∙ sym r) ∙ r

  module _ (left : length m.left ≡ length (unmarked m.taken m.known)) (present : length (all_present m.before) ≡ length m.known) where
    abbrev rated : Data × Data → Rating
    rated found = rating_in found.0 found.1

    past : length (absent_ratings cs m) ≡ length m.left
    past =
        if_long (rates cs) (unmarked m.taken (map rated (all_present m.before))) (for_each Missing m.left) m.left
        (unmarked_long m.taken (map rated (all_present m.before)) m.known (length-map (all_present m.before) rated ∙ present) ∙ sym left)
        (each_long Missing m.left)

    gone : length (gone_in cs m) ≡ length m.left
    gone =
        if_long (ratchets cs) (map (is_gone_by m.file m.runs) (unmarked m.taken m.known)) (for_each false m.left) m.left
        (length-map (unmarked m.taken m.known) (is_gone_by m.file m.runs) ∙ sym left) (each_long false m.left)

    seen_before : length (absent_seen cs m) ≡ length m.left
    seen_before =
        seen_long (absent_ratings cs m) (for_each false m.left) (for_each false m.left) (gone_in cs m)
        (each_long false m.left ∙ sym past) (each_long false m.left ∙ sym past) (gone ∙ sym past)
        ∙ past

    pub absent_each : length (absent_results cs m) ≡ length m.left
    absent_each =
        judged_long (unmarked m.taken m.known) (for_each Absent m.left) m.left (absent_seen cs m)
        (each_long Absent m.left ∙ left) left (seen_before ∙ left)
        ∙ sym left

pub each_result : (cs : List GateCondition) (m : Matched) (n k : ℕ) → length (current_results cs m) ≡ n → length (absent_results cs m) ≡ k
    → length (results_in cs m) ≡ n + k
each_result cs m n k now gone = length-append (current_results cs m) (absent_results cs m) ∙ ap (λ j. j + length (absent_results cs m)) now ∙ ap (λ j. n + j) gone
