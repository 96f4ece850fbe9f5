-- The law of accepting chosen hits.
use Rattle.std.proofs.Common.{◌≡◌, ◌<◌, ◌&&◌, ◌||◌, not, ℕ, Bool, true, false, [], Ok, get_or, length, List, Some, slice_get, refl, sym, ap, ap₂, subst, ◌∙◌, arith}
use Rattle.std.proofs.lemmas.List.{length-map}
use Rattle.std.proofs.lemmas.Option.{get_or_from_slice_get, same_Some, slice_get-get_or, slice_get_within}
use Rattle.serde_json.specs.Data.{Data, null}
use Rattle.sarif_model.specs.declared.record.Record.{Record}
use Rattle.sarif_model.specs.declared.kinds.State.{State}
use Rattle.sarif_model.specs.Run.{result_at, results_of}
use Rattle.sarif_options.specs.declared.policy.Policy.{Policy}
use Rattle.sarif_options.specs.declared.upkeep.Renewal.{Renewal}
use Rattle.sarif_evidence.specs.Evidence.{state_in}
use Rattle.sarif_runs.specs.Judging.{run_values}
use Rattle.sarif_runs.specs.Record.{record_of}
use Rattle.sarif_results.specs.Drafts.{IsObject}
use Rattle.sarif_entries.specs.declared.entry.Entry.{Entry}
use Rattle.sarif_suppress.specs.Limited.{with_admitted}
use Rattle.sarif_inputs.specs.Faults.{faults_of}
use Rattle.sarif_inputs.specs.Inputs.{Inputs, input_runs, log_sources, reading_checks, record_options}
use Rattle.sarif_log.specs.MergedRuns.{written}
use Rattle.sarif_log.specs.LogBy.{listing_of}
use Rattle.sarif_merge.specs.Life.{merge_in}
use Rattle.sarif_merge.specs.MergedLog.{current_of, file_given, limited_of}
use Rattle.sarif_merge.specs.OwnResult.{IsResult, number_among_all, partner_at, run_at, admitted_at, written_by, written_run}
use Rattle.sarif_merge.proofs.OwnResult.{own_result}
use Rattle.sarif_merge.proofs.ReadObjects.{objects_in}
use Rattle.sarif_upkeep.specs.Renewed.{added_in, entries_added, how_of, renewal_faults}
use Rattle.sarif_accept.specs.Adding.{How, is_hit, may_hit, stays}
use Rattle.sarif_accept.specs.Choosing.{Marks, is_chosen_at, is_left, is_met}
use Rattle.sarif_accept.specs.Until.{IsDated, IsUntil}
use Rattle.sarif_accept_laws.proofs.After.{list_begins_adding}
use Rattle.sarif_accept_laws.proofs.AfterChosen.{added_meet, hits_left, still_adding}
use Rattle.sarif_laws.specs.Choosing.{IsKept, IsNewFileChoosing, LeavesOthers, merge_choosing, states_given}
use Rattle.sarif_laws.specs.Hits.{is_hit_in, stays_in}
use Rattle.sarif_laws.specs.NextMerge.{absent_written, merged_result, with_file}
use Rattle.sarif_laws.proofs.Accepted.{at_each, at_place, current_state, dated_until, input_run, later_result, same_results, same_runs, still_read}
use Rattle.sarif_laws.proofs.FileAfter.{entries_read_later, faultless_later, keeps_matches, later_file, same_today}
use Rattle.sarif_laws.proofs.Left.{hit_written, kept_by, kept_same, stays_written}
use Rattle.sarif_laws.proofs.Limited.{found_at}
use Rattle.sarif_laws.proofs.NothingNew.{get_object, run_objects}
use Rattle.sarif_laws.proofs.Places.{has_place}
use Rattle.sarif_laws.proofs.Read.{IsRead, record_read}

-- a hit that doesn't stay is left only if no added entry matches it
left_if_met : (hit stay met : Bool) → ((hit && not stay) ≡ true → met ≡ true) → (hit && (stay || not met)) ≡ (hit && stay)
left_if_met false stay met so = refl
left_if_met true true met so = refl
left_if_met true false met so = rw (so refl) refl

module _ (inputs : Inputs) (policy : Policy) (marks : Marks) (renewal : Renewal) (text : List ℕ) (none : faults_of inputs ≡ [])
    (small : renewal_faults (merge_choosing inputs policy marks) renewal ≡ [])
    (until : IsUntil inputs.today renewal.until) (accepts : renewal.accept ≡ true) (is : IsNewFileChoosing inputs policy marks renewal text) where
  dated : IsDated inputs.today renewal.until
  dated = dated_until inputs.today renewal.until until

  abbrev how : How
  how = how_of (merge_in inputs policy) renewal

  abbrev added : List Record
  added = added_in (merge_choosing inputs policy marks) renewal

  abbrev entries : List Entry
  entries = entries_added (merge_choosing inputs policy marks) renewal

  -- a result of an input run, whose record is this one
  module _ (k seq : ℕ) (there : IsResult inputs k seq) (r : Record)
      (own : record_of (record_options (reading_checks inputs)) (run_at inputs k) seq ≡ Ok r)
      (writes : result_at (written_run inputs k) seq ≡ written_by inputs r (number_among_all inputs k seq) (result_at (run_at inputs k) seq)) where
    abbrev place : ℕ
    place = number_among_all inputs k seq

    abbrev given : Data
    given = result_at (run_at inputs k) seq

    abbrev before : Record
    before = with_admitted r (admitted_at inputs place)

    abbrev state : State
    state = state_in inputs.checks.matching r (partner_at inputs place)

    abbrev later : Data
    later = result_at (written_run (with_file inputs text) k) seq

    found : slice_get (limited_of inputs) place ≡ Some before
    found = found_at (file_given inputs) (current_of inputs) place r (at_place inputs k seq r none there own)

    in_records : place < length (limited_of inputs)
    in_records = slice_get_within (limited_of inputs) place before found

    record_is : get_or (limited_of inputs) place before ≡ before
    record_is = get_or_from_slice_get (limited_of inputs) place before before found

    in_states : place < length (states_given inputs)
    in_states = (has_place inputs k seq r none there own).in_states

    state_is : get_or (states_given inputs) place state ≡ state
    state_is = (has_place inputs k seq r none there own).state_is

    state_found : slice_get (states_given inputs) place ≡ Some state
    state_found = slice_get-get_or (states_given inputs) place state in_states ∙ ap Some state_is

    is_object : IsObject given
    is_object =
        let in_runs : k < length (run_values (input_runs inputs)) = omega (arith, there.0, length-map (input_runs inputs) (λ p. p.run)) in
        get_object (results_of (run_at inputs k)) seq there.1 (run_objects (run_values (input_runs inputs)) k in_runs (objects_in (log_sources inputs)))

    read : IsRead given before
    read = still_read given r (admitted_at inputs place) (record_read (record_options (reading_checks inputs)) (run_at inputs k) seq r own)

    later_is_written : later ≡ written (listing_of (later_file inputs policy marks renewal)) before state given
    later_is_written = later_result inputs policy marks renewal text none small dated is k seq r there own

    kept_there : IsKept (result_at (written_run inputs k) seq) later
    kept_there =
        let kept = kept_by policy before state (file_given inputs) (later_file inputs policy marks renewal)
        (still_adding how (file_given inputs) (limited_of inputs) added before place in_records record_is)
        (λ list. list_begins_adding how (file_given inputs) (limited_of inputs) added before place list in_records record_is) given read in
        subst (λ b. IsKept b later) (sym writes) (subst (IsKept (written_by inputs r place given)) (sym later_is_written) kept)

    -- a result is a hit exactly if it is left
    hit_there : is_hit_in policy later ≡ is_left (may_hit policy) (file_given inputs) entries before state
    hit_there =
        ap (is_hit_in policy) later_is_written
        ∙ hit_written policy before state (later_file inputs policy marks renewal) given is_object read
        ∙ hits_left how (may_hit policy) (file_given inputs) (limited_of inputs) added before state place in_records record_is

    -- if it is chosen, it is a hit if it was one that stays
    chosen_there : is_chosen_at marks place ≡ true → is_hit_in policy later ≡ stays_in policy (result_at (written_run inputs k) seq)
    chosen_there mark =
        let file = file_given inputs in
        let until_file : IsUntil file.today renewal.until = subst (λ today. IsUntil today renewal.until) (sym (same_today inputs none)) until in
        hit_there
        ∙ left_if_met (is_hit (may_hit policy) file before state) (stays file before) (is_met file entries before)
        (added_meet how marks (may_hit policy) file (limited_of inputs) (states_given inputs) before state place in_records in_states record_is state_is
        mark accepts until_file)
        ∙ sym (ap (stays_in policy) writes
        ∙ stays_written policy before state file (current_state inputs.checks.matching r (partner_at inputs place)) given is_object read)

  kept_current : (k seq : ℕ) → IsResult inputs k seq
      → IsKept (result_at (written_run inputs k) seq) (result_at (written_run (with_file inputs text) k) seq)
  kept_current k seq there =
      let own = own_result inputs k seq none there in
      kept_there k seq there own.0 own.1 own.2

  in_log : (k seq : ℕ) → IsResult inputs k seq → merged_result (with_file inputs text) k seq ≡ result_at (written_run (with_file inputs text) k) seq
  in_log k seq there = ap (λ run. result_at run seq) (input_run (with_file inputs text) k there.0)

  left_there : (k seq : ℕ) (r : Record) (state : State) → IsResult inputs k seq
      → slice_get (limited_of inputs) (number_among_all inputs k seq) ≡ Some r
      → slice_get (states_given inputs) (number_among_all inputs k seq) ≡ Some state
      → is_hit_in policy (merged_result (with_file inputs text) k seq) ≡ is_left (may_hit policy) (file_given inputs) entries r state
  left_there k seq r state there at_record at_state =
      let own = own_result inputs k seq none there in
      ap (is_hit_in policy) (in_log k seq there) ∙ hit_there k seq there own.0 own.1 own.2
      ∙ ap₂ (is_left (may_hit policy) (file_given inputs) entries)
      (same_Some (before k seq there own.0 own.1 own.2) r (sym (found k seq there own.0 own.1 own.2) ∙ at_record))
      (same_Some _ state (sym (state_found k seq there own.0 own.1 own.2) ∙ at_state))

  chosen_left : (k seq : ℕ) → IsResult inputs k seq → is_chosen_at marks (number_among_all inputs k seq) ≡ true
      → is_hit_in policy (merged_result (with_file inputs text) k seq) ≡ stays_in policy (merged_result inputs k seq)
  chosen_left k seq there mark =
      let own = own_result inputs k seq none there in
      ap (is_hit_in policy) (in_log k seq there) ∙ chosen_there k seq there own.0 own.1 own.2 mark
      ∙ ap (λ run. stays_in policy (result_at run seq)) (sym (input_run inputs k there.0))

  pub law_of_choosing : LeavesOthers inputs policy marks renewal text
  law_of_choosing = record {
    faultless = faultless_later inputs policy marks renewal text none small dated is;
    runs = same_runs inputs text;
    counts = same_results inputs text;
    results = at_each inputs text IsKept (kept_same null) kept_current
        (λ k seq. kept_same (result_at (get_or (absent_written inputs) k null) seq));
    absent = refl;
    entries = entries_read_later inputs policy marks renewal text none small dated is;
    matches = keeps_matches inputs policy marks renewal text none small dated is;
    hits = left_there;
    chosen = chosen_left;
  }
