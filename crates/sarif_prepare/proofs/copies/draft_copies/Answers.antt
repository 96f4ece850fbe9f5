use Rattle.std.proofs.Common.{◌≡◌, IfOk, map, length, sym, ap, subst, ◌∙◌}
use Rattle.std.proofs.lemmas.List.{length-map}
use Rattle.std.specs.List.{All}
use Rattle.sarif_results.proofs.OutcomeItems.{all_items}
use Rattle.sarif_results.specs.Internal.Judged.{placed_in}
use Rattle.sarif_results.specs.Internal.Outcomes.{all_outcomes}
use Rattle.sarif_runs.proofs.SpotsWithin.{spots_within}
use Rattle.sarif_runs.specs.Internal.Opened.{placed_of}
use Rattle.sarif_runs.specs.Internal.Spots.{spots_from, IsSpotOf}
use Rattle.sarif_prepare.specs.Internal.Apart.{copy_drafts}
use Rattle.sarif_prepare.specs.Internal.Leftover.{found_at, leftover_draft}
use Rattle.sarif_prepare.proofs.BaselineSpots.{all_long}
use Rattle.sarif_prepare.proofs.CopyDrafts.{copied_before, outcomes_many}
use Rattle.sarif_prepare.proofs.copies.draft_copies.Goals as goal

-- the places of all results
pub list_copies-requires-clause-within : goal.list_copies-requires-clause-within
list_copies-requires-clause-within g c =
    let placed = placed_in c.args.judged.now in
    let spots = c.deref-3.ensures.value ∙ c.in_ok-spots.ensures ∙ ap (λ rs. spots_from 0 (map placed_of rs)) c.deref.ensures.value in
    subst (λ rs. All (IsSpotOf (map placed_of rs)) c.deref-3.result.now) (sym c.deref-2.ensures.value)
    (subst (All (IsSpotOf placed)) (sym spots) (spots_within placed))

pub list_copies-requires-clause-spots : goal.list_copies-requires-clause-spots
list_copies-requires-clause-spots g c =
    let placed = placed_in c.args.judged.now in
    ap length (c.deref-3.ensures.value ∙ c.in_ok-spots.ensures ∙ ap (λ rs. spots_from 0 (map placed_of rs)) c.deref.ensures.value)
    ∙ sym (all_long placed 0) ∙ sym (ap length (all_items c.requires.judged.0 placed)) ∙ length-map (all_outcomes c.requires.judged.0 placed) (λ o. o.item)
    ∙ sym (ap length (c.deref-4.ensures.value ∙ c.requires.judged.1.outcomes))

pub list_copies-requires-clause-marks : goal.list_copies-requires-clause-marks
list_copies-requires-clause-marks g c =
    ap length c.requires.marks ∙ outcomes_many c.requires.judged.0 (placed_in c.args.judged.now)
    ∙ sym (ap length (c.deref-4.ensures.value ∙ c.requires.judged.1.outcomes))

pub returns : goal.returns
returns g c =
    let placed = placed_in c.args.judged.now in
    let copies = c.deref-5.ensures.value in
    let items =
    ap (map (λ o. o.item)) (c.deref-4.ensures.value ∙ c.requires.judged.1.outcomes) ∙ all_items c.requires.judged.0 placed in
    let spots = c.deref-3.ensures.value ∙ c.in_ok-spots.ensures ∙ ap (λ rs. spots_from 0 (map placed_of rs)) c.deref.ensures.value in
    let found =
    ap (λ rs. map (found_at (map placed_of rs)) c.deref-3.result.now) c.deref-2.ensures.value ∙ ap (map (found_at placed)) spots in
    let drafted =
    ap (map leftover_draft) copies ∙ c.in_ok-copies.ensures
    ∙ ap (λ ms. copy_drafts ms (map (λ o. o.item) c.deref-4.result.now) (map (found_at (map placed_of c.deref-2.result.now)) c.deref-3.result.now))
    c.requires.marks
    ∙ copied_before placed c.requires.judged.1.faultless c.requires.judged.1.sources (map (λ o. o.item) c.deref-4.result.now)
    (map (found_at (map placed_of c.deref-2.result.now)) c.deref-3.result.now) items found in
    subst (λ ds. IfOk c.draft_leftovers.result (λ drafts. drafts.items ≡ ds)) drafted c.draft_leftovers.ensures
