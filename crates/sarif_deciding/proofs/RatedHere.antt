-- The rating of a result, by what it says itself and by its run.
use Rattle.std.proofs.Common.{◌≡◌, ◌<◌, ◌∙◌, ℕ, List, map, length, get_or, sym, ap, arith}
use Rattle.std.proofs.lemmas.List.{get_or-map, length-map}
use Rattle.serde_json.specs.Data.{Data, null}
use Rattle.serde_json.specs.View.{view}
use Rattle.serde_json.specs.declared.value.Value.{Value}
use Rattle.sarif_model.specs.Internal.References.{IsRuleReference}
use Rattle.sarif_model.specs.Run.{result_at}
use Rattle.sarif_model.specs.declared.references.RuleReference.{RuleReference}
use Rattle.sarif_policy.specs.declared.rating.Rating.{Rating}
use Rattle.sarif_ratings.specs.Ratings.{own_rating, own_rating_at, rating_at, rating_in}
use Rattle.sarif_runs.specs.Internal.Opened.{placed_of}
use Rattle.sarif_runs.specs.Internal.Spots.{no_run, placed_at}
use Rattle.sarif_runs.specs.declared.opened.OpenedRun.{OpenedRun}
use Rattle.sarif_runs.specs.declared.spots.Spot.{Spot}

-- as many runs with their rules rated as runs
pub as_many : (opened : List OpenedRun) (runs : List Value)
    → ((found : Data) → map (λ (run : Value). rating_in (view run) found) runs ≡ map (λ (run : OpenedRun). rating_in (placed_of run).run found) opened)
    → length runs ≡ length opened
as_many opened runs are =
    sym (length-map runs (λ (run : Value). rating_in (view run) null)) ∙ ap length (are null)
    ∙ length-map opened (λ (run : OpenedRun). rating_in (placed_of run).run null)

module _ (opened : List OpenedRun) (runs : List Value) (spots : List Spot) (own : List Rating)
    (own_are : own ≡ map (own_rating_at (map placed_of opened)) spots)
    (runs_are : (found : Data)
    → map (λ (run : Value). rating_in (view run) found) runs ≡ map (λ (run : OpenedRun). rating_in (placed_of run).run found) opened) where
  -- the rating of the result with number n
  pub rated_here : (n : ℕ) (spot : Spot) (one : OpenedRun) (run : Value) (said got : Rating) (rule : RuleReference)
      → n < length spots → spot.run < length opened
      → spot ≡ get_or spots n spot → one ≡ get_or opened spot.run one → run ≡ get_or runs spot.run run → said ≡ get_or own n said
      → IsRuleReference rule (result_at (placed_of one).run spot.seq)
      → ((found : Data) → said ≡ own_rating found → IsRuleReference rule found → got ≡ rating_in (view run) found)
      → got ≡ get_or (map (rating_at (map placed_of opened)) spots) n got
  rated_here n spot one run said got rule in_spots in_runs spot_is one_is run_is said_is refers says =
      let ps = map placed_of opened in
      let found : Data = result_at (placed_of one).run spot.seq in
      let placed : placed_at ps spot.run ≡ placed_of one =
      get_or-map placed_of opened spot.run one no_run in_runs ∙ ap placed_of (sym one_is) in
      let own_is : said ≡ own_rating found =
      said_is ∙ ap (λ l. get_or l n said) own_are ∙ get_or-map (own_rating_at ps) spots n spot said in_spots
      ∙ ap (own_rating_at ps) (sym spot_is) ∙ ap (λ p. own_rating (result_at p.run spot.seq)) placed in
      let many = as_many opened runs runs_are in
      let same : rating_in (view run) found ≡ rating_in (placed_of one).run found =
      ap (λ (r : Value). rating_in (view r) found) run_is
      ∙ sym (get_or-map (λ (r : Value). rating_in (view r) found) runs spot.run run got (omega (arith, in_runs, many)))
      ∙ ap (λ l. get_or l spot.run got) (runs_are found)
      ∙ get_or-map (λ (o : OpenedRun). rating_in (placed_of o).run found) opened spot.run one got in_runs
      ∙ ap (λ (o : OpenedRun). rating_in (placed_of o).run found) (sym one_is) in
      says found own_is refers ∙ same
      ∙ ap (λ p. rating_in p.run (result_at p.run spot.seq)) (sym placed)
      ∙ ap (rating_at ps) spot_is
      ∙ sym (get_or-map (rating_at ps) spots n spot got in_spots)
