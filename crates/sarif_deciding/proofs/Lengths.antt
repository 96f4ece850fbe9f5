-- There is as much for each result.
use Rattle.std.proofs.Common.{◌≡◌, List, Bool, true, false, [], ◌∷◌, Option, Some, None, not, map, length, suc, refl, sym, ap, ◌∙◌, arith}
use Rattle.std.proofs.lemmas.List.{length-map}
use Rattle.std.specs.Prelude.{if◌then◌else◌}
use Rattle.sarif_change.specs.declared.spots.Scope.{Scope}
use Rattle.sarif_change.specs.declared.spots.Scope.TheVariants.{Lines, Files}
use Rattle.sarif_outside.specs.Marks.{both, in_scope, is_outside_at, outside_marks}
use Rattle.sarif_policy.specs.declared.condition.GateCondition.{GateCondition}
use Rattle.sarif_policy.specs.declared.rating.Rating.{Rating}
use Rattle.sarif_policy.specs.declared.rating.Rating.TheVariants.{Missing}
use Rattle.sarif_ratings.specs.Ratings.{rating_at, rating_in}
use Rattle.sarif_read.specs.Unmarked.{unmarked}
use Rattle.sarif_results.specs.declared.draft.Draft.{Draft}
use Rattle.sarif_runs.specs.Internal.Spots.{spots_from}
use Rattle.sarif_runs.specs.Placed.{Placed}
use Rattle.sarif_scope.specs.declared.gated.GatedChange.{GatedChange}
use Rattle.serde_json.specs.Data.{Data}
use Rattle.sarif_deciding.specs.Asked.{asks_scope, ratchets, rates}
use Rattle.sarif_deciding.specs.Matched.{Matched}
use Rattle.sarif_deciding.specs.Merge.{matched_of, AreLeft}
use Rattle.sarif_deciding.specs.Present.{all_present, pair_at}
use Rattle.sarif_deciding.specs.Results.{absent_ratings, absent_seen, active_of, current_ratings, current_seen, for_each, gone_in, inside_by, inside_in, is_gone_by}
use Rattle.sarif_deciding.specs.declared.merge.MatchedMerge.{MatchedMerge}
use Rattle.sarif_deciding.proofs.SideBySide.{seen_long}
use Rattle.sarif_deciding.proofs.Unmarked.{unmarked_long}

both_long : (ms ns : List Bool) → length ms ≡ length ns → length (both ms ns) ≡ length ms
both_long [] ns same = refl
both_long (m ∷ ms) [] same = absurd (omega (arith, same))
both_long (m ∷ ms) (n ∷ ns) same = ap suc (both_long ms ns (omega (arith, same)))

outside_long : (change : GatedChange) (runs : List Placed) (asked : List Bool) → length asked ≡ length (spots_from 0 runs)
    → length (outside_marks change runs asked) ≡ length asked
outside_long change runs asked same =
    both_long asked (map (is_outside_at change runs) (spots_from 0 runs))
    (let long = length-map (spots_from 0 runs) (is_outside_at change runs) in omega (arith, same, long))

pub each_long : {X : Type 0} (x : X) (drafts : List Draft) → length (for_each x drafts) ≡ length drafts
each_long x drafts = length-map drafts (λ _. x)

by_long : (scope : Scope) (change : Option GatedChange) (runs : List Placed) (drafts : List Draft) → length drafts ≡ length (spots_from 0 runs)
    → length (inside_by scope change runs drafts) ≡ length drafts
by_long scope None runs drafts same = each_long true drafts
by_long scope (Some change) runs drafts same =
    let active : length (active_of drafts) ≡ length drafts = length-map drafts (λ draft. not draft.suppressed) in
    let marks = outside_marks (in_scope scope change) runs (active_of drafts) in
    length-map marks not ∙ outside_long (in_scope scope change) runs (active_of drafts) (active ∙ same) ∙ active

if_long : {X : Type 0} (asked : Bool) (xs ys : List X) (drafts : List Draft) → length xs ≡ length drafts → length ys ≡ length drafts
    → length (if asked then xs else ys) ≡ length drafts
if_long true xs ys drafts x y = x
if_long false xs ys drafts x y = y

-- ---- current results

module _ (cs : List GateCondition) (m : Matched) (same : length m.drafts ≡ length (spots_from 0 m.runs)) where
  pub inside_long : (scope : Scope) → length (inside_in scope cs m) ≡ length m.drafts
  inside_long scope =
      if_long (asks_scope scope cs) (inside_by scope m.change m.runs m.drafts) (for_each true m.drafts) m.drafts
      (by_long scope m.change m.runs m.drafts same) (each_long true m.drafts)

  pub current_rated_long : length (current_ratings cs m) ≡ length m.drafts
  current_rated_long =
      if_long (rates cs) (map (rating_at m.runs) (spots_from 0 m.runs)) (for_each Missing m.drafts) m.drafts
      (length-map (spots_from 0 m.runs) (rating_at m.runs) ∙ sym same) (each_long Missing m.drafts)

  pub current_seen_long : length (current_seen cs m) ≡ length m.drafts
  current_seen_long =
      seen_long (current_ratings cs m) (inside_in Lines cs m) (inside_in Files cs m) (for_each false m.drafts)
      (inside_long Lines ∙ sym current_rated_long) (inside_long Files ∙ sym current_rated_long)
      (each_long false m.drafts ∙ sym current_rated_long)
      ∙ current_rated_long

-- ---- absent results

module _ (cs : List GateCondition) (merge : MatchedMerge) (is : AreLeft merge.before) where
  abbrev taken : List Bool
  taken = merge.before.taken.now

  abbrev m : Matched
  m = matched_of merge

  -- as many are left of a list as there are drafts
  left_long : {X : Type 0} (xs : List X) → length xs ≡ length merge.before.spots.now → length (unmarked taken xs) ≡ length m.left
  left_long xs same = unmarked_long taken xs merge.before.spots.now same ∙ sym is.left

  pub left_records_long : length (unmarked taken m.known) ≡ length m.left
  left_records_long = left_long m.known is.records

  pub absent_rated_long : length (absent_ratings cs m) ≡ length m.left
  absent_rated_long =
      let rated : List Rating = map (λ found. rating_in found.0 found.1) (all_present m.before) in
      if_long (rates cs) (unmarked taken rated) (for_each Missing m.left) m.left
      (left_long rated
      (length-map (all_present m.before) (λ (found : Data × Data). rating_in found.0 found.1) ∙ sym (ap length is.pairs)
      ∙ length-map merge.before.spots.now (pair_at m.before)))
      (each_long Missing m.left)

  pub gone_long : length (gone_in cs m) ≡ length m.left
  gone_long =
      if_long (ratchets cs) (map (is_gone_by m.file m.runs) (unmarked taken m.known)) (for_each false m.left) m.left
      (length-map (unmarked taken m.known) (is_gone_by m.file m.runs) ∙ left_records_long) (each_long false m.left)

  pub absent_seen_long : length (absent_seen cs m) ≡ length m.left
  absent_seen_long =
      seen_long (absent_ratings cs m) (for_each false m.left) (for_each false m.left) (gone_in cs m)
      (each_long false m.left ∙ sym absent_rated_long) (each_long false m.left ∙ sym absent_rated_long) (gone_long ∙ sym absent_rated_long)
      ∙ absent_rated_long
