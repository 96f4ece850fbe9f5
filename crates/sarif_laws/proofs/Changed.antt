-- The law of accepting with a change.
use Rattle.std.proofs.Common.{◌≡◌, ◌+◌, ◌<◌, ◌&&◌, ◌++◌, ℕ, zero, suc, Bool, true, false, not, List, [], ◌∷◌, length, map, take, drop, get_or, Option, Some, None, refl, sym, ap, ◌∙◌, arith, if◌then◌else◌}
use Rattle.std.specs.Prelude.{flat_map}
use Rattle.std.specs.List.{AllByRecursion}
use Rattle.std.proofs.lemmas.List.{get_or-append-add, get_or_append_left, length-map, map-append}
use Rattle.serde_json.specs.Data.{Data, null, boolean, number, string, array, object}
use Rattle.json_parts.specs.Indexed.{json_of}
use Rattle.json_parts.specs.Mark.{without_mark}
use Rattle.sarif_model.specs.declared.kinds.State.{State}
use Rattle.sarif_model.specs.declared.kinds.State.TheVariants.{Unchanged, Updated}
use Rattle.sarif_model.specs.declared.record.Record.{Record}
use Rattle.sarif_model.specs.Run.{result_at, results_of, results_total}
use Rattle.sarif_match.specs.Partners.{partners_in}
use Rattle.sarif_evidence.specs.declared.version.MatchingVersion.{MatchingVersion}
use Rattle.sarif_evidence.specs.declared.version.MatchingVersion.TheVariants.{Two, Three}
use Rattle.sarif_evidence.specs.Evidence.{has_evidence, state_in}
use Rattle.sarif_evidence.specs.Seen.{seen}
use Rattle.sarif_evidence.specs.State.{is_unchanged}
use Rattle.sarif_options.specs.declared.policy.Policy.{Policy}
use Rattle.sarif_options.specs.declared.upkeep.Renewal.{Renewal}
use Rattle.sarif_suppress.specs.Limited.{with_admitted}
use Rattle.sarif_log.proofs.Limits.{limited_long}
use Rattle.sarif_runs.specs.Judging.{run_values}
use Rattle.sarif_runs.specs.Placed.{Placed}
use Rattle.sarif_runs.specs.Internal.Spots.{spots_from}
use Rattle.sarif_runs.specs.declared.spots.Spot.{Spot}
use Rattle.sarif_runs.proofs.AllSpots.{spots_count}
use Rattle.sarif_results.specs.Drafts.{applied_of, IsObject, IsRun, Listing}
use Rattle.sarif_results.proofs.JudgedCounts.{records_of_logs}
use Rattle.sarif_accept.specs.Choosing.{is_chosen_at, Marks}
use Rattle.sarif_accept.specs.Until.{IsUntil}
use Rattle.sarif_scope.specs.Inside.{is_inside, is_outside_of}
use Rattle.sarif_scope.specs.declared.gated.GatedChange.{GatedChange}
use Rattle.sarif_outside.specs.Marks.{both, is_outside_at}
use Rattle.sarif_upkeep.specs.Hiding.{looked_at}
use Rattle.sarif_upkeep.specs.Renewed.{renewal_faults, rules_after}
use Rattle.sarif_upkeep.proofs.Inside.{faults_shown, file_shown}
use Rattle.sarif_log.specs.LogBy.{listing_of}
use Rattle.sarif_log.specs.MergedRuns.{annotated_items, merged_run, merged_runs, own_results as own_array}
use Rattle.sarif_log.proofs.Sides.{drafts_long, results_long, states_long}
use Rattle.sarif_prepare.specs.Hidden.{active_of, drafts_of, hidden_by}
use Rattle.sarif_prepare.specs.Internal.Telling.{own_results, pair_at}
use Rattle.sarif_prepare.proofs.EachWritten.{IsThere}
use Rattle.sarif_prepare.proofs.InsideWritten.{written_inside}
use Rattle.sarif_prepare.proofs.RunsAlike.{AreAlike}
use Rattle.sarif_prepare.proofs.ToldRuns.{alike, pairs_of_all}
use Rattle.sarif_inputs.specs.Faults.{faults_of}
use Rattle.sarif_inputs.specs.Inputs.{Inputs, input_runs, log_sources, reading_checks}
use Rattle.sarif_inputs.proofs.ReadFacts.{log_sides}
use Rattle.sarif_merge.specs.MergedLog.{change_given, current_of, file_given, limited_of}
use Rattle.sarif_merge.specs.OwnResult.{IsResult, admitted_at, baseline_of, number_among_all, partner_at, run_at, written_run}
use Rattle.sarif_merge.proofs.OwnResult.{faultless_runs, own_result}
use Rattle.sarif_merge.proofs.ReadObjects.{objects_in}
use Rattle.sarif_laws.specs.Changed.{hidden_inside, marks_inside, merge_inside, LeavesInside}
use Rattle.sarif_laws.specs.Choosing.{IsNewFileChoosing, LeavesOthers, merge_choosing}
use Rattle.sarif_laws.specs.NextMerge.{merged_result, merged_run_at, with_file}
use Rattle.sarif_laws.proofs.Accepted.{input_run}
use Rattle.sarif_laws.proofs.AcceptedChosen.{law_of_choosing}
use Rattle.sarif_laws.proofs.NothingNew.{get_object, run_objects}
use Rattle.sarif_laws.proofs.Places.{has_place}

-- ---- marks at their places

and_right : (a m : Bool) → (a && m) ≡ true → m ≡ true
and_right true m is = is
and_right false m is = let never : ⊥ = cc in absurd never

both_at : (asked ms : List Bool) (n : ℕ) → get_or (both asked ms) n false ≡ true → get_or ms n false ≡ true
both_at [] ms n is = let never : ⊥ = cc in absurd never
both_at (a ∷ asked) [] n is = let never : ⊥ = cc in absurd never
both_at (a ∷ asked) (m ∷ ms) zero is = and_right a m is
both_at (a ∷ asked) (m ∷ ms) (suc n) is = both_at asked ms n is

both_long : (asked bs : List Bool) → length asked ≡ length bs → length (both asked bs) ≡ length asked
both_long [] bs same = refl
both_long (a ∷ asked) [] same = absurd (omega (arith, same))
both_long (a ∷ asked) (b ∷ bs) same = let rest = both_long asked bs (omega (arith, same)) in omega (arith, rest)

-- `looked_at` marks what is chosen and not hidden
looked_there : (hs : List Bool) (marks : Marks) (n : ℕ) → n < length hs → get_or hs n false ≡ false → is_chosen_at marks n ≡ true
    → get_or (looked_at hs marks) n false ≡ true
looked_there [] marks n within seen mark = absurd (omega (arith, within))
looked_there (h ∷ hs) None zero within seen mark = ap not seen
looked_there (h ∷ hs) None (suc n) within seen mark = looked_there hs None n (omega (arith, within)) seen mark
looked_there (h ∷ hs) (Some []) n within seen mark = let never : ⊥ = cc in absurd never
looked_there (h ∷ hs) (Some (m ∷ ms)) zero within seen mark = ap (λ b. not b && m) seen ∙ mark
looked_there (h ∷ hs) (Some (m ∷ ms)) (suc n) within seen mark = looked_there hs (Some ms) n (omega (arith, within)) seen mark

module _ (change : GatedChange) where
  abbrev outside_in : Data × Data → Bool
  outside_in found = is_outside_of change found.0 found.1

  spots_outside : (now : List Placed) (spots : List Spot) → map (is_outside_at change now) spots ≡ map outside_in (map (pair_at now) spots)
  spots_outside now [] = refl
  spots_outside now (spot ∷ spots) = ap (λ l. is_outside_at change now spot ∷ l) (spots_outside now spots)

  in_results : (run : Data) (ds : List Data) (seq : ℕ) → seq < length ds
      → get_or (map outside_in (map (λ d. (run, d)) ds)) seq false ≡ is_outside_of change run (get_or ds seq null)
  in_results run [] seq within = absurd (omega (arith, within))
  in_results run (d ∷ ds) zero within = refl
  in_results run (d ∷ ds) (suc seq) within = in_results run ds seq (omega (arith, within))

  own_long : (run : Data) → length (map outside_in (own_results run)) ≡ length (results_of run)
  own_long run = length-map (own_results run) outside_in ∙ length-map (results_of run) (λ d. (run, d))

  outside_there : (runs : List Data) (k seq : ℕ) → k < length runs → seq < length (results_of (get_or runs k null))
      → get_or (map outside_in (flat_map own_results runs)) (results_total (take k runs) + seq) false
      ≡ is_outside_of change (get_or runs k null) (result_at (get_or runs k null) seq)
  outside_there [] k seq there within = absurd (omega (arith, there))
  outside_there (run ∷ runs) zero seq there within =
      let here = map outside_in (own_results run) in
      let rest = map outside_in (flat_map own_results runs) in
      let place : 0 + seq ≡ seq = omega arith in
      let inside : seq < length here = omega (arith, within, own_long run) in
      ap (λ i. get_or (map outside_in (own_results run ++ flat_map own_results runs)) i false) place
      ∙ ap (λ l. get_or l seq false) (map-append outside_in (own_results run) (flat_map own_results runs))
      ∙ get_or_append_left here rest false seq inside
      ∙ in_results run (results_of run) seq within
  outside_there (run ∷ runs) (suc k) seq there within =
      let here = map outside_in (own_results run) in
      let rest = map outside_in (flat_map own_results runs) in
      let before = results_total (take k runs) in
      let place : (length (results_of run) + before) + seq ≡ length here + (before + seq) = omega (arith, own_long run) in
      ap (λ i. get_or (map outside_in (own_results run ++ flat_map own_results runs)) i false) place
      ∙ ap (λ l. get_or l (length here + (before + seq)) false) (map-append outside_in (own_results run) (flat_map own_results runs))
      ∙ get_or-append-add here rest (before + seq) false
      ∙ outside_there runs k seq (omega (arith, there)) within

-- ---- a run as it is written

run_alike : (listed : Listing) (rs : List Record) (ss : List State) (run : Data) → IsRun run → AreAlike (merged_run listed rs ss run) run
run_alike listed rs ss null is = absurd is.0
run_alike listed rs ss (boolean b) is = absurd is.0
run_alike listed rs ss (number n) is = absurd is.0
run_alike listed rs ss (string s) is = absurd is.0
run_alike listed rs ss (array ds) is = absurd is.0
run_alike listed rs ss (object ms) is = alike (annotated_items listed rs ss (own_array ms)) ms

runs_alike : (listed : Listing) (rs : List Record) (ss : List State) (runs : List Data) (k : ℕ) → AllByRecursion IsRun runs → k < length runs
    → AreAlike (get_or (merged_runs listed rs ss runs) k null) (get_or runs k null)
runs_alike listed rs ss [] k are there = absurd (omega (arith, there))
runs_alike listed rs ss (run ∷ runs) zero are there =
    run_alike listed (take (length (results_of run)) rs) (take (length (results_of run)) ss) run are.0
runs_alike listed rs ss (run ∷ runs) (suc k) are there =
    runs_alike listed (drop (length (results_of run)) rs) (drop (length (results_of run)) ss) runs k are.1 (omega (arith, there))

one_there : (b : Bool) → IsThere (if b then Unchanged else Updated)
one_there true = λ e. cc
one_there false = λ e. cc

state_there : (v : MatchingVersion) (r : Record) (partner : Option Record) → IsThere (state_in v r partner)
state_there Two r None = λ e. cc
state_there Two r (Some other) = one_there (is_unchanged r other)
state_there Three r None = λ e. cc
state_there Three r (Some other) = one_there (is_unchanged r other && has_evidence (seen r) (seen other))

module _ (inputs : Inputs) (change : GatedChange) (none : faults_of inputs ≡ []) (k seq : ℕ) (there : IsResult inputs k seq) where
  in_runs : k < length (run_values (input_runs inputs))
  in_runs = omega (arith, there.0, length-map (input_runs inputs) (λ p. p.run))

  -- a result of an input run is inside as it is written if it isn't outside as it was read
  pub inside_there : is_inside change (merged_run_at inputs k) (merged_result inputs k seq) ≡ not (is_outside_of change (run_at inputs k) (result_at (run_at inputs k) seq))
  inside_there =
      let own = own_result inputs k seq none there in
      let r = own.0 in
      let place = number_among_all inputs k seq in
      let d = result_at (run_at inputs k) seq in
      let objects = objects_in (log_sources inputs) in
      let is_object : IsObject d = get_object (results_of (run_at inputs k)) seq there.1 (run_objects (run_values (input_runs inputs)) k in_runs objects) in
      ap (λ run. is_inside change run (result_at run seq)) (input_run inputs k there.0)
      ∙ ap (is_inside change (written_run inputs k)) own.2
      ∙ written_inside change (written_run inputs k) (run_at inputs k) (listing_of (file_given inputs)) (with_admitted r (admitted_at inputs place))
      (state_in inputs.checks.matching r (partner_at inputs place)) d
      (runs_alike (listing_of (file_given inputs)) _ _ (run_values (input_runs inputs)) k objects in_runs) is_object
      (state_there inputs.checks.matching r (partner_at inputs place))

module _ (inputs : Inputs) (change : GatedChange) (none : faults_of inputs ≡ []) where
  abbrev now : List Placed
  now = input_runs inputs

  as_many : length (current_of inputs) ≡ results_total (run_values now)
  as_many = records_of_logs now (faultless_runs inputs none) (log_sides (reading_checks inputs) 0 inputs.logs)

  limited_many : length (limited_of inputs) ≡ length (current_of inputs)
  limited_many = limited_long (file_given inputs) (current_of inputs)

  hidden_many : length (hidden_inside inputs change) ≡ length (limited_of inputs)
  hidden_many =
      let ds = drafts_of (file_given inputs) now in
      let active = length-map ds (λ draft. not draft.suppressed) in
      let drafts : length ds ≡ length (limited_of inputs) =
      drafts_long (listing_of (file_given inputs)) (applied_of (file_given inputs)) (limited_of inputs) (flat_map results_of (run_values now))
      (limited_many ∙ as_many ∙ sym (results_long (run_values now))) in
      let spots : length (map (is_outside_at change now) (spots_from 0 now)) ≡ results_total (run_values now) =
      length-map (spots_from 0 now) (is_outside_at change now) ∙ spots_count 0 now in
      both_long (active_of ds) (map (is_outside_at change now) (spots_from 0 now)) (active ∙ drafts ∙ limited_many ∙ as_many ∙ sym spots)
      ∙ active ∙ drafts

  -- a hidden result is outside
  hidden_outside : (k seq : ℕ) → IsResult inputs k seq → get_or (hidden_inside inputs change) (number_among_all inputs k seq) false ≡ true
      → is_outside_of change (run_at inputs k) (result_at (run_at inputs k) seq) ≡ true
  hidden_outside k seq there is =
      let place = number_among_all inputs k seq in
      let outside = both_at (active_of (drafts_of (file_given inputs) now)) (map (is_outside_at change now) (spots_from 0 now)) place is in
      sym (ap (λ l. get_or l place false) (spots_outside change now (spots_from 0 now) ∙ ap (map (outside_in change)) (pairs_of_all now))
      ∙ outside_there change (run_values now) k seq (in_runs inputs change none k seq there) there.1)
      ∙ outside

  -- so one that is inside isn't hidden
  seen_inside : (k seq : ℕ) → IsResult inputs k seq → is_inside change (merged_run_at inputs k) (merged_result inputs k seq) ≡ true
      → get_or (hidden_inside inputs change) (number_among_all inputs k seq) false ≡ false
  seen_inside k seq there inside = by_mark (get_or (hidden_inside inputs change) (number_among_all inputs k seq) false) refl
    where
      by_mark : (b : Bool) → get_or (hidden_inside inputs change) (number_among_all inputs k seq) false ≡ b → b ≡ false
      by_mark true is =
          sym inside ∙ inside_there inputs change none k seq there ∙ ap not (hidden_outside k seq there is)
      by_mark false is = refl

module _ (inputs : Inputs) (change : GatedChange) (policy : Policy) (marks : Marks) (renewal : Renewal) (text : List ℕ)
    (given : change_given inputs ≡ Some change) (none : faults_of inputs ≡ [])
    (small : renewal_faults (merge_inside inputs policy marks) renewal ≡ [])
    (accepts : renewal.accept ≡ true) (until : IsUntil inputs.today renewal.until)
    (is : json_of (without_mark text) ≡ Some (rules_after (merge_inside inputs policy marks) renewal)) where
  hidden_is : (merge_inside inputs policy marks).hidden ≡ Some (hidden_inside inputs change)
  hidden_is = ap (λ c. hidden_by c (file_given inputs) (input_runs inputs)) given

  states_many : length (merge_inside inputs policy marks).states ≡ length (limited_of inputs)
  states_many =
      states_long inputs.checks.matching (baseline_of inputs) (partners_in inputs.checks.matching (current_of inputs) (baseline_of inputs)) 0 (current_of inputs)
      ∙ sym (limited_many inputs change none)

  small_chosen : renewal_faults (merge_choosing inputs policy (marks_inside inputs change marks)) renewal ≡ []
  small_chosen =
      sym (faults_shown (merge_inside inputs policy marks) (hidden_inside inputs change) renewal hidden_is (hidden_many inputs change none) states_many)
      ∙ small

  is_chosen : IsNewFileChoosing inputs policy (marks_inside inputs change marks) renewal text
  is_chosen =
      is
      ∙ ap Some (file_shown (merge_inside inputs policy marks) (hidden_inside inputs change) renewal hidden_is (hidden_many inputs change none) states_many)

  left : LeavesOthers inputs policy (marks_inside inputs change marks) renewal text
  left = law_of_choosing inputs policy (marks_inside inputs change marks) renewal text none small_chosen until accepts is_chosen

  pub law_of_a_change : LeavesInside inputs change policy marks renewal text
  law_of_a_change = record {
    others = left;
    inside = λ k seq there.
        inside_there (with_file inputs text) change left.faultless k seq there ∙ sym (inside_there inputs change none k seq there);
    hits = λ k seq there mark inside.
        let place = number_among_all inputs k seq in
        let own = own_result inputs k seq none there in
        let at = has_place inputs k seq own.0 none there own.1 in
        let within : place < length (hidden_inside inputs change) =
        omega (arith, at.in_records, hidden_many inputs change none, limited_many inputs change none) in
        left.chosen k seq there
        (looked_there (hidden_inside inputs change) marks place within (seen_inside inputs change none k seq there inside) mark);
  }
