-- The results of judged logs that entries with `max` admit.
use Rattle.std.proofs.Common.{◌≡◌, ℕ, false, Bool, List, map, length, Option, Bor, sym, ap, ◌∙◌, subst}
use Rattle.std.proofs.lemmas.List.{length-map}
use Rattle.std.specs.List.{All, flat_map}
use Rattle.serde_json.specs.Data.{Data}
use Rattle.sarif_copies.specs.Copies.{copies_of}
use Rattle.sarif_entries.specs.File.{File}
use Rattle.sarif_model.specs.Run.{results_of}
use Rattle.sarif_model.specs.declared.record.Record.{Record}
use Rattle.sarif_once.proofs.Marks.{marked_each}
use Rattle.sarif_read.specs.Unmarked.{unmarked}
use Rattle.sarif_read.proofs.Only.{unmarked_map}
use Rattle.sarif_results.specs.Internal.Judged.{placed_in, IsJudged}
use Rattle.sarif_results.specs.declared.draft.Draft.{Draft}
use Rattle.sarif_results.specs.declared.judged.Judged.{Judged}
use Rattle.sarif_results.specs.declared.outcome.Outcome.{Outcome}
use Rattle.sarif_results.proofs.JudgedCounts.{records_of_logs}
use Rattle.sarif_results.proofs.OutcomeItems.{all_records}
use Rattle.sarif_runs.specs.Internal.Opened.{placed_of}
use Rattle.sarif_runs.specs.Internal.Spots.{spots_from, IsSpotOf}
use Rattle.sarif_runs.specs.Judging.{records_in, records_of, run_values}
use Rattle.sarif_runs.specs.Placed.{Placed}
use Rattle.sarif_runs.specs.declared.opened.OpenedRun.{OpenedRun}
use Rattle.sarif_runs.specs.declared.spots.Spot.{Spot}
use Rattle.sarif_runs.proofs.AllSpots.{spots_count}
use Rattle.sarif_runs.proofs.SpotsWithin.{spots_within}
use Rattle.sarif_prepare.specs.Internal.Leftover.{found_at}
use Rattle.sarif_prepare.specs.Internal.Limiting.{drafts_again}
use Rattle.sarif_prepare.specs.Once.{findings_only}
use Rattle.sarif_prepare.proofs.CopyDrafts.{all_found}

abbrev pub lent_records : List (Bor Record) → List Record
lent_records rs = map (λ r. r.now) rs

module _ (file : File) (judged : Judged) (j : IsJudged file false judged) where
  abbrev ps : List Placed
  ps = placed_in judged

  abbrev rs : List Record
  rs = records_of ps

  abbrev ds : List Data
  ds = flat_map results_of (run_values ps)

  pub known_records : (outcomes : List Outcome) (records : List (Bor Record)) → outcomes ≡ judged.outcomes.items
      → lent_records records ≡ records_in (map (λ o. o.item) outcomes) → lent_records records ≡ records_of (placed_in judged)
  known_records outcomes records are known = known ∙ ap (λ os. records_in (map (λ o. o.item) os)) (are ∙ j.outcomes) ∙ all_records file ps

  -- the results that aren't copies
  pub found_records : (records found : List (Bor Record)) → lent_records records ≡ records_of (placed_in judged)
      → found ≡ unmarked (copies_of (records_of (placed_in judged))) records → lent_records found ≡ findings_only (records_of (placed_in judged))
  found_records records found are is =
      let ms = copies_of rs in
      let now = λ (r : Bor Record). r.now in
      ap (map now) is ∙ sym (unmarked_map now ms records) ∙ ap (unmarked ms) are

  -- as many as results
  pub spots_many : length (spots_from 0 (placed_in judged)) ≡ length (records_of (placed_in judged))
  spots_many = spots_count 0 ps ∙ sym (records_of_logs ps j.faultless j.sources)

  pub records_many : (records : List (Bor Record)) (spots : List Spot) → lent_records records ≡ records_of (placed_in judged)
      → spots ≡ spots_from 0 (placed_in judged) → length records ≡ length spots
  records_many records spots are is = sym (length-map records (λ r. r.now)) ∙ ap length are ∙ sym spots_many ∙ sym (ap length is)

  pub copies_many : (records : List (Bor Record)) (copies : List Bool) → lent_records records ≡ records_of (placed_in judged)
      → copies ≡ copies_of (records_of (placed_in judged)) → length records ≡ length copies
  copies_many records copies are is =
      sym (length-map records (λ r. r.now)) ∙ ap length are ∙ sym (marked_each rs) ∙ sym (ap length is)

  pub within : (runs : List OpenedRun) (spots : List Spot) → runs ≡ judged.runs.items → spots ≡ spots_from 0 (placed_in judged)
      → All (IsSpotOf (map placed_of runs)) spots
  within runs spots are is =
      subst (λ qs. All (IsSpotOf (map placed_of qs)) spots) (sym are) (subst (All (IsSpotOf ps)) (sym is) (spots_within ps))

  -- the drafts that are made again
  pub again_are : (runs : List OpenedRun) (spots : List Spot) (records : List (Bor Record)) (given lists : List (List ℕ)) (again : List (Option Draft))
      → again ≡ drafts_again file (lent_records records) given (map (found_at (map placed_of runs)) spots)
      → runs ≡ judged.runs.items → spots ≡ spots_from 0 (placed_in judged) → lent_records records ≡ records_of (placed_in judged) → given ≡ lists
      → again ≡ drafts_again file (records_of (placed_in judged)) lists (flat_map results_of (run_values (placed_in judged)))
  again_are runs spots records given lists again made are is known given_is =
      made ∙ ap (λ qs. drafts_again file qs given (map (found_at (map placed_of runs)) spots)) known
      ∙ ap (λ ls. drafts_again file rs ls (map (found_at (map placed_of runs)) spots)) given_is
      ∙ ap (λ qs. drafts_again file rs lists (map (found_at (map placed_of qs)) spots)) are
      ∙ ap (λ ss. drafts_again file rs lists (map (found_at ps) ss)) is
      ∙ ap (drafts_again file rs lists) (all_found ps)
