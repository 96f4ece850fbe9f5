-- What the workers of a work send is lawful, and a collector accepts it.
use Rattle.std.proofs.Common.{◌≡◌, ℕ, ◌<◌, ◌≤◌, cond, List, [], map, length, replicate, Some, sym, ap, ◌∙◌, subst, ⊎_elim, arith, zero-add}
use Rattle.std.specs.Prelude.{slice_get, option_map}
use Rattle.std.specs.List.{range_with_len}
use Rattle.std.proofs.lemmas.Bool.{cases_lt, lt-ltb, le-ltb}
use Rattle.std.proofs.lemmas.List.{length-map, length-replicate}
use Rattle.std.proofs.lemmas.List.FromFn.{length-map-range_with_len}
use Rattle.std.proofs.lemmas.Option.{slice_get-map}
use Rattle.sarif_collect.specs.declared.piece.Parcel.{Parcel}
use Rattle.sarif_dispatch.specs.Claims.{times, total}
use Rattle.sarif_collect.specs.Collecting.{run_after, all_after}
use Rattle.sarif_collect.specs.Held.{empty_run, closed_run}
use Rattle.sarif_collect.specs.Honest.{AreHonest, AreTaken}
use Rattle.sarif_collect.specs.Lawful.{IsLawful, IsLawfulRun, assembled}
use Rattle.sarif_collect.specs.Pieces.{on_run, pieces_of, carried, parcels_in, whole_run, lists_of}
use Rattle.sarif_dispatch.specs.Senders.{of_sender}
use Rattle.sarif_collect.proofs.AllRuns.{lawful_accepted, lawful_held}
use Rattle.sarif_collect.proofs.Arrivals.{from_one, mine, not_mine, the_one, none_of}
use Rattle.sarif_collect.proofs.Lawfulness.{lawful_pieces}
use Rattle.sarif_dispatch.proofs.Places.{at_below, at_replicate, at_range, same_places, into_mapped}
use Rattle.sarif_collect.proofs.RunByRun.{run_by_run, length-all_after, run_after-pieces}
use Rattle.sarif_collect.proofs.Wholes.{wholes_again}

module _ {T C : Type 0} (count : ℕ → ℕ) (item : ℕ → ℕ → T) (end : ℕ → C) (runs : ℕ) (shares : List (List ℕ))
    (arrived : List (ℕ × Parcel T C)) (honest : AreHonest count item end runs shares arrived) where
  -- nothing of the run arrived from a worker that does not have the run
  none_from : (run j : ℕ) → ((share : List ℕ) → slice_get shares j ≡ Some share → times run share ≡ 0) → on_run run (carried (of_sender j arrived)) ≡ []
  none_from run j none = ⊎_elim
      (λ (low : j < length shares). let s = at_below shares j low in ap (λ l. on_run run (carried l)) (honest.each j s.0 s.1)
      ∙ not_mine count item end run s.0 (none s.0 s.1))
      (λ (high : length shares ≤ j). ap (λ l. on_run run (carried l)) (honest.strangers j high))
      (cases_lt j (length shares))

  -- each run's pieces are those of the work
  of_run : (run : ℕ) → run < runs → on_run run (carried (parcels_in arrived)) ≡ pieces_of run (item run) (count run) (end run)
  of_run run lt =
      let one = the_one (times run) shares (honest.shared run ∙ ap (λ b. cond b 1 0) (lt-ltb run runs lt)) in
      from_one run one.0 arrived (λ j n. none_from run j (λ share at. one.4 j share n at))
      ∙ ap (λ l. on_run run (carried l)) (honest.each one.0 one.1 one.2) ∙ mine count item end run one.1 one.3

  -- and there are no others
  of_stranger : (run : ℕ) → runs ≤ run → on_run run (carried (parcels_in arrived)) ≡ []
  of_stranger run le =
      let none : total (times run) shares ≡ 0 = honest.shared run ∙ ap (λ b. cond b 1 0) (le-ltb run runs le) in
      from_one run 0 arrived (λ j n. none_from run j (λ share at. none_of (times run) shares none j share at))
      ∙ none_from run 0 (λ share at. none_of (times run) shares none 0 share at)

  lawful : IsLawful runs (carried (parcels_in arrived))
  lawful = record {
    strangers = of_stranger;
    each = λ run lt. subst (IsLawfulRun run) (sym (of_run run lt)) (lawful_pieces run (item run) (count run) (end run));
  }

  -- a collector then has each run closed, with its items and its tail
  pub held_whole : all_after (replicate runs empty_run) (carried (parcels_in arrived)) ≡ map closed_run (lists_of count item end runs)
  held_whole =
      let pieces = carried (parcels_in arrived) in
      let len : length (all_after (replicate runs empty_run) pieces) ≡ runs = length-all_after (replicate runs empty_run) pieces
      ∙ length-replicate runs empty_run in
      same_places (all_after (replicate runs empty_run) pieces) (map closed_run (lists_of count item end runs))
      (len ∙ sym (length-map (lists_of count item end runs) closed_run ∙ length-map-range_with_len (λ run. whole_run (count run) (item run) (end run)) 0 runs))
      (λ run lt. let low : run < runs = omega arith in
      run_by_run (replicate runs empty_run) pieces run empty_run (at_replicate runs run empty_run low)
      ∙ ap (λ l. Some (run_after empty_run l)) (of_run run low)
      ∙ ap (λ h. Some h) (run_after-pieces run (item run) (count run) (end run))
      ∙ sym (into_mapped closed_run (lists_of count item end runs) run (whole_run (count run) (item run) (end run))
      (slice_get-map (λ r. whole_run (count r) (item r) (end r)) (range_with_len 0 runs) run
      ∙ ap (option_map (λ r. whole_run (count r) (item r) (end r))) (at_range 0 runs run low ∙ ap (λ m. Some m) (zero-add run)))))

  pub taken : AreTaken count item end runs arrived
  taken = record {
    lawful = lawful;
    of_run = of_run;
    accepted = lawful_accepted runs (carried (parcels_in arrived)) lawful;
    lists = wholes_again (assembled runs (carried (parcels_in arrived))) (lists_of count item end runs)
        (sym (lawful_held runs (carried (parcels_in arrived)) lawful) ∙ held_whole);
  }
