use Rattle.std.proofs.Common.{map, length, sym, ap, ◌∙◌, subst, refl}
use Rattle.std.proofs.lemmas.List.{length-map}
use Rattle.std.specs.List.{All, flat_map}
use Rattle.sarif_runs.specs.Judging.{items_of, records_in}
use Rattle.sarif_runs.specs.Internal.Opened.{placed_of}
use Rattle.sarif_runs.specs.Internal.Spots.{spots_from, IsSpotOf}
use Rattle.sarif_runs.proofs.SpotsWithin.{spots_within}
use Rattle.sarif_prepare.specs.Internal.LeftParts.{present_counts}
use Rattle.sarif_prepare.specs.Internal.Baselines.{spots_with_record}
use Rattle.sarif_prepare.specs.Internal.Telling.{pair_at}
use Rattle.sarif_prepare.proofs.BaselineSpots.{all_long, found_at_pairs, pairs_at_spots, recorded_within}
use Rattle.sarif_results.proofs.OutcomeItems.{all_items, all_records}
use Rattle.sarif_log.proofs.Sides.{records_present}
use Rattle.sarif_prepare.proofs.baselines.gather_baselines.Goals as goal

pub count_present-requires-clause-judged : goal.count_present-requires-clause-judged
count_present-requires-clause-judged c =
    ap (map (λ o. o.item)) (c.deref-2.ensures.value ∙ c.requires.1.outcomes) ∙ all_items c.requires.0 (map placed_of c.args.judged.runs.items)
    ∙ sym (ap (λ rs. flat_map items_of (map placed_of rs)) c.deref.ensures.value)

pub take_recorded-requires : goal.take_recorded-requires
take_recorded-requires c =
    let placed = map placed_of c.args.judged.runs.items in
    ap length (c.deref-4.ensures.value ∙ c.in_ok-places.ensures ∙ ap (λ rs. spots_from 0 (map placed_of rs)) c.deref-3.ensures.value)
    ∙ sym (all_long placed 0)
    ∙ sym (ap length (ap (map (λ o. o.item)) c.requires.1.outcomes ∙ all_items c.requires.0 placed))
    ∙ length-map c.args.judged.outcomes.items (λ o. o.item)

pub returns : goal.returns
returns c =
    let file = c.requires.0 in
    let judged = c.requires.1 in
    let placed = map placed_of c.args.judged.runs.items in
    let items = ap (map (λ o. o.item)) judged.outcomes ∙ all_items file placed in
    let places = c.deref-4.ensures.value ∙ c.in_ok-places.ensures ∙ ap (λ rs. spots_from 0 (map placed_of rs)) c.deref-3.ensures.value in
    let found = c.in_ok-records.ensures in
    let pairs =
    ap (map (pair_at placed))
    (found.spots ∙ ap (λ is. spots_with_record is c.deref-4.result.now) items ∙ ap (spots_with_record (flat_map items_of placed)) places)
    ∙ pairs_at_spots placed judged.sources judged.faultless in record {
      opened = refl;
      counts = c.in_ok-counts.ensures ∙ ap (λ rs. present_counts (map placed_of rs)) c.deref.ensures.value;
      records = found.records ∙ ap (λ os. records_in (map (λ o. o.item) os)) judged.outcomes ∙ all_records file placed;
      spots = found_at_pairs placed c.in_ok-records.field-0.spots.items pairs;
      pairs = pairs;
      within =
          subst (All (IsSpotOf placed)) (sym found.spots)
          (recorded_within (IsSpotOf placed) (map (λ o. o.item) c.args.judged.outcomes.items) c.deref-4.result.now
          (subst (All (IsSpotOf placed)) (sym places) (spots_within placed)));
      count = records_present placed judged.faultless judged.sources;
    }
