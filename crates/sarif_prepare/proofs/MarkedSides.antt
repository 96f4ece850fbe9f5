-- The marks that are spread over the current results are those of the merged log.
use Rattle.std.proofs.Common.{◌≡◌, ◌⊎◌, inl, inr, ◌++◌, ℕ, List, [], Bool, Option, Some, None, map, length, refl, sym, ap, ◌∙◌}
use Rattle.std.proofs.lemmas.List.{append-nil, length-map, map-append}
use Rattle.std.proofs.lemmas.List.Concat.{flat_map-append}
use Rattle.std.specs.Prelude.{flat_map, option_map}
use Rattle.sarif_choice.specs.Choice.{is_chosen, unfit_of}
use Rattle.sarif_choice.specs.declared.choice.Choice.{Choice}
use Rattle.sarif_choice.specs.declared.choice.Unfit.{Unfit}
use Rattle.sarif_model.specs.MergeFault.{out_of_memory}
use Rattle.sarif_model.specs.declared.kinds.State.{State}
use Rattle.sarif_model.specs.declared.merge_fault.At.{At}
use Rattle.sarif_model.specs.declared.merge_fault.MergeFault.{MergeFault}
use Rattle.sarif_model.specs.declared.refusal.Refusal.{Refusal}
use Rattle.sarif_model.specs.declared.refusal.Refusal.TheVariants.{Fault, OutOfMemory}
use Rattle.sarif_options.specs.declared.policy.Policy.{Policy}
use Rattle.sarif_results.specs.declared.draft.Draft.{Draft}
use Rattle.sarif_upkeep.specs.Life.{no_hit}
use Rattle.sarif_entries.specs.File.{File}
use Rattle.sarif_findings.specs.Reported.{reported_in}
use Rattle.sarif_findings.specs.declared.finding.Finding.{Finding}
use Rattle.sarif_findings.specs.declared.reporting.Reporting.{Reporting}
use Rattle.sarif_log.specs.LogBy.{current_runs, leftover_runs, limited_records, listing_of, runs_by, states_of}
use Rattle.sarif_log.specs.Told.{told_by}
use Rattle.sarif_log.proofs.Sides.{states_long}
use Rattle.sarif_match.specs.Partners.{partners_in}
use Rattle.sarif_evidence.specs.declared.version.MatchingVersion.{MatchingVersion}
use Rattle.sarif_model.specs.Run.{results_of}
use Rattle.sarif_results.specs.Drafts.{applied_of, drafts_by}
use Rattle.sarif_runs.specs.Judging.{records_of, run_values}
use Rattle.sarif_runs.specs.Placed.{Placed}
use Rattle.sarif_runs.specs.Internal.Spots.{spots_from}
use Rattle.sarif_runs.proofs.AllSpots.{spots_count}
use Rattle.sarif_prepare.specs.Chosen.{at_of, hits_alone, marks_in}
use Rattle.sarif_prepare.specs.Internal.Marking.{marked_each, rejected, spread_told}
use Rattle.sarif_choice.specs.declared.choice.Choosing.{Choosing}
use Rattle.sarif_prepare.specs.Internal.Outside.{states_by, AreNarrowed}
use Rattle.sarif_prepare.specs.declared.outside.Narrowed.{Narrowed}
use Rattle.sarif_scope.specs.declared.gated.GatedChange.{GatedChange}
use Rattle.sarif_prepare.proofs.NarrowedSides.{marked_narrowed, runs_narrowed, shown_long}
use Rattle.sarif_prepare.specs.Internal.Telling.{own_results, pair_at, told_each}
use Rattle.sarif_prepare.specs.Internal.Together.{AreTogether, IsPaired}
use Rattle.sarif_prepare.specs.declared.baselines.Baselines.{Baselines}
use Rattle.sarif_prepare.specs.declared.halves.Half.{Half}
use Rattle.sarif_prepare.specs.declared.pairing.Paired.{Paired}
use Rattle.sarif_prepare.proofs.MarkedRuns.{marked_long, runs_marked, spread_marked}
use Rattle.sarif_prepare.proofs.ToldRuns.{pairs_of_all}
use Rattle.sarif_prepare.proofs.MatchedRecords.{limited_total, matched_records}
use Rattle.sarif_prepare.specs.Internal.Limiting.{unadmitted}
use Rattle.sarif_log.proofs.Limits.{limited_long}
use Rattle.sarif_prepare.proofs.ToldSides.{current_told}
use Rattle.sarif_prepare.proofs.WrittenSides.{current_long}

module _ (v : MatchingVersion) (reporting : Reporting) (choice : Choice) (file : File) (now before : List Placed) (c : Half) (b : Baselines) (p : Paired)
    (h : AreTogether file now before c b) (q : IsPaired v c b p) where
  pub current_marked : marked_each reporting choice (map (pair_at now) (spots_from 0 now)) c.drafts.items p.states.items
      ≡ marks_in None reporting choice (current_runs v file now before)
  current_marked =
      let cs = records_of now in
      let bs = records_of before in
      let states =
      q.states ∙ ap (λ rs. map Some (states_of v rs b.records.items)) (matched_records file now c h.is_current) ∙ ap (λ rs. map Some (states_of v cs rs)) h.are_baselines.records in
      ap (λ ps. marked_each reporting choice ps c.drafts.items p.states.items) (pairs_of_all now)
      ∙ ap (λ ds. marked_each reporting choice (flat_map own_results (run_values now)) ds p.states.items) h.is_current.drafts
      ∙ ap (marked_each reporting choice (flat_map own_results (run_values now))
      (drafts_by (listing_of file) (applied_of file) (limited_records file now) (flat_map results_of (run_values now)))) states
      ∙ runs_marked reporting choice (listing_of file) (applied_of file) (limited_records file now) (states_of v cs bs) (run_values now) h.current_are_runs
      (limited_total file now h.current_records) (states_long v bs (partners_in v cs bs) 0 cs ∙ sym (limited_long file cs))

  pub pairs_long : length (map (pair_at now) (spots_from 0 now)) ≡ length c.drafts.items
  pairs_long =
      length-map (spots_from 0 now) (pair_at now) ∙ spots_count 0 now ∙ sym h.current_records ∙ sym (current_long file now before c b h)

  pub states_many : length p.states.items ≡ length c.drafts.items
  states_many =
      let cs = map unadmitted c.records.items in
      let bs = b.records.items in
      ap length q.states ∙ length-map (states_of v cs bs) Some ∙ states_long v bs (partners_in v cs bs) 0 cs ∙ ap length (matched_records file now c h.is_current)
      ∙ sym (current_long file now before c b h)

  module _ (change : Option GatedChange) (policy : Policy) (narrowed : Option Narrowed) (k : AreNarrowed change policy c p narrowed) where
    pub shown_many : length (states_by narrowed p) ≡ length c.drafts.items
    shown_many = shown_long v file now before c b p h q change policy narrowed k states_many

    any_marked : marked_each reporting choice (map (pair_at now) (spots_from 0 now)) c.drafts.items (states_by narrowed p)
        ≡ marks_in change reporting choice (current_runs v file now before)
    any_marked = by change narrowed k where
      by : (g : Option GatedChange) (n : Option Narrowed) → AreNarrowed g policy c p n
          → marked_each reporting choice (map (pair_at now) (spots_from 0 now)) c.drafts.items (states_by n p)
          ≡ marks_in g reporting choice (current_runs v file now before)
      by None n is = ap (λ o. marked_each reporting choice (map (pair_at now) (spots_from 0 now)) c.drafts.items (states_by o p)) is ∙ current_marked
      by (Some g) None is = absurd is
      by (Some g) (Some n) is = marked_narrowed v file now before c b p h q g policy n is reporting choice

    pub marks_long : length (marks_in change reporting choice (current_runs v file now before)) ≡ length (records_of now)
    marks_long =
        ap length (sym any_marked)
        ∙ marked_long reporting choice (map (pair_at now) (spots_from 0 now)) c.drafts.items (states_by narrowed p) pairs_long shown_many
        ∙ current_long file now before c b h

    -- the findings begin with those of results of logs
    abbrev told_now : List Finding
    told_now = told_each reporting (map (pair_at now) (spots_from 0 now)) c.drafts.items (states_by narrowed p)

    told_front : (back : List Finding) × (told_by change (Some reporting) (runs_by v file now before) ≡ told_now ++ back)
    told_front = by change narrowed k where
      by : (g : Option GatedChange) (n : Option Narrowed) → AreNarrowed g policy c p n
          → (back : List Finding) × (told_by g (Some reporting) (runs_by v file now before)
          ≡ told_each reporting (map (pair_at now) (spots_from 0 now)) c.drafts.items (states_by n p) ++ back)
      by None n is =
          let back = flat_map (reported_in reporting) (leftover_runs v now before) in (
            back,
            flat_map-append (reported_in reporting) (current_runs v file now before) (leftover_runs v now before)
                ∙ ap (λ fs. fs ++ back) (sym (current_told v reporting file now before c b p h q))
                ∙ ap (λ o. told_each reporting (map (pair_at now) (spots_from 0 now)) c.drafts.items (states_by o p) ++ back) (sym is),
          )
      by (Some g) None is = absurd is
      by (Some g) (Some n) is = (
        [],
        sym (runs_narrowed v file now before c b p h q g policy n is reporting)
            ∙ sym (append-nil (told_each reporting (map (pair_at now) (spots_from 0 now)) c.drafts.items n.states.items)),
      )

    pub spread_is : (hits : List Finding) (marks : List Bool) → hits ≡ told_by change (Some reporting) (runs_by v file now before)
        → marks ≡ map (is_chosen choice) hits
        → spread_told reporting c.drafts.items (states_by narrowed p) marks 0 ≡ marks_in change reporting choice (current_runs v file now before)
    spread_is hits marks hits_are marks_are =
        let back = told_front.0 in
        let begins : marks ≡ map (is_chosen choice) told_now ++ map (is_chosen choice) back =
        marks_are ∙ ap (map (is_chosen choice)) (hits_are ∙ told_front.1) ∙ map-append (is_chosen choice) told_now back in
        spread_marked reporting choice (map (pair_at now) (spots_from 0 now)) c.drafts.items (states_by narrowed p) marks (map (is_chosen choice) back) 0
        pairs_long begins
        ∙ any_marked

-- ---- what is marked

module _ (policy : Policy) (choosing : Choosing) (reporting : Reporting) (roots : List (List ℕ)) (reporting_is : reporting ≡ hits_alone policy roots)
    (roots_are : roots ≡ choosing.roots) where
  alone : reporting ≡ hits_alone policy choosing.roots
  alone = reporting_is ∙ ap (hits_alone policy) roots_are

  pub mark_is : (v : MatchingVersion) (file : File) (now before : List Placed) (c : Half) (b : Baselines) (p : Paired)
      → AreTogether file now before c b → IsPaired v c b p
      → (change : Option GatedChange) (narrowed : Option Narrowed) → AreNarrowed change policy c p narrowed
      → (hits : List Finding) (marks given spread : List Bool) (drafts : List Draft) (states : List (Option State))
      → hits ≡ told_by change (Some reporting) (runs_by v file now before) → marks ≡ map (is_chosen choosing.choice) hits → given ≡ marks
      → drafts ≡ c.drafts.items → states ≡ states_by narrowed p → spread ≡ spread_told reporting drafts states given 0
      → spread ≡ marks_in change (hits_alone policy choosing.roots) choosing.choice (current_runs v file now before)
  mark_is v file now before c b p h q change narrowed k hits marks given spread drafts states hits_are marks_are given_is drafts_are states_are spread_are =
      spread_are ∙ ap (λ r. spread_told r drafts states given 0) alone
      ∙ ap (λ l. spread_told (hits_alone policy choosing.roots) l states given 0) drafts_are
      ∙ ap (λ l. spread_told (hits_alone policy choosing.roots) c.drafts.items l given 0) states_are
      ∙ spread_is v (hits_alone policy choosing.roots) choosing.choice file now before c b p h q change policy narrowed k hits given
      (hits_are ∙ ap (λ r. told_by change (Some r) (runs_by v file now before)) alone) (given_is ∙ marks_are)

-- the error that is reported
pub rejected_err : (choice : Choice) (hits : List Finding) (refusal : Refusal Unfit) (fault : MergeFault) → fault ≡ rejected refusal
    → ((unfit : Unfit) → refusal ≡ Fault unfit → unfit_of choice hits ≡ Some unfit)
    → (fault ≡ out_of_memory) ⊎ ((at : At) × (fault ≡ no_hit at) × (option_map at_of (unfit_of choice hits) ≡ Some at))
rejected_err choice hits (Fault unfit) fault is found = inr (at_of unfit, is, ap (option_map at_of) (found unfit refl))
rejected_err choice hits OutOfMemory fault is found = inl is
