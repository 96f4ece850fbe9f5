-- The law of accepting.
use Rattle.std.proofs.Common.{◌≡◌, ◌+◌, ◌-◌, ◌<◌, ◌≤◌, ◌&&◌, ℕ, Bool, true, false, List, [], length, get_or, length-append, Option, Some, None, slice_get, slice_index_or, Ok, Result, codes, bytes_eq, refl, sym, ap, subst, ◌∙◌, arith, if◌then◌else◌}
use Rattle.std.specs.Prelude.{count_by, flat_map, nat_lt}
use Rattle.std.specs.List.{AllByRecursion}
use Rattle.std.proofs.lemmas.Bool.{ltb-true, ltb-false}
use Rattle.std.proofs.lemmas.List.{get_or_append_left, get_or-append_right, get_or_past}
use Rattle.std.proofs.lemmas.Option.{get_or_from_slice_get, slice_get-get_or, slice_get_within}
use Rattle.serde_json.specs.Data.{Data, null}
use Rattle.sarif_model.specs.declared.fault.Fault.{Fault}
use Rattle.sarif_model.specs.declared.record.Record.{Record}
use Rattle.sarif_model.specs.Run.{result_at, results_of}
use Rattle.sarif_model.specs.State.{state_name}
use Rattle.sarif_options.specs.declared.policy.Policy.{Policy}
use Rattle.sarif_options.specs.declared.upkeep.Renewal.{Renewal}
use Rattle.sarif_counts.specs.CountOf.{count_of}
use Rattle.sarif_counts.specs.Hits.{hits_of}
use Rattle.sarif_evidence.specs.declared.version.MatchingVersion.{MatchingVersion}
use Rattle.sarif_evidence.specs.declared.version.MatchingVersion.TheVariants.{Two, Three}
use Rattle.sarif_evidence.specs.Evidence.{has_evidence, state_in}
use Rattle.sarif_evidence.specs.Seen.{seen}
use Rattle.sarif_evidence.specs.State.{is_unchanged}
use Rattle.sarif_model.specs.declared.kinds.State.TheVariants.{Unchanged, Updated}
use Rattle.sarif_runs.specs.Judging.{records_of, run_values}
use Rattle.sarif_runs.specs.Record.{record_of}
use Rattle.sarif_entries.specs.Numbering.{renumbered}
use Rattle.sarif_suppress.specs.Limited.{all_admitted, with_admitted}
use Rattle.sarif_inputs.specs.Faults.{faults_of}
use Rattle.sarif_inputs.specs.Inputs.{Inputs, baseline_runs, input_runs, reading_checks, record_options}
use Rattle.sarif_log.specs.LogBy.{listing_of, states_of, taken_of}
use Rattle.sarif_log.specs.MergedRuns.{written}
use Rattle.sarif_merge.specs.Life.{merge_in}
use Rattle.sarif_merge.specs.MergedLog.{change_given, current_of, file_given, limited_of, runs_written, written_inputs}
use Rattle.sarif_merge.specs.OwnResult.{IsResult, baseline_of, number_among_all, partner_at, run_at, admitted_at, written_by, written_run}
use Rattle.sarif_merge.proofs.OwnResult.{own_result, results_same, runs_same}
use Rattle.sarif_prepare.specs.Kept.{merge_of}
use Rattle.sarif_upkeep.specs.Renewed.{added_in, how_of, renewal_faults, rules_after}
use Rattle.sarif_accept.specs.Adding.{may_hit}
use Rattle.sarif_accept.specs.Choosing.{Marks}
use Rattle.sarif_accept.specs.Until.{IsDated, IsUntil}
use Rattle.sarif_accept_laws.proofs.After.{hits_after, list_begins, still_suppressed}
use Rattle.sarif_laws.specs.Accepting.{IsLeft, LeavesWhatStays}
use Rattle.sarif_laws.specs.Choosing.{IsNewFileChoosing, merge_choosing}
use Rattle.sarif_laws.specs.Hits.{is_hit_in, stays_in}
use Rattle.sarif_laws.specs.NextMerge.{IsNewFileOf, absent_written, merged_result, merged_run_at, with_file}
use Rattle.sarif_laws.proofs.Absent.{StaysIfHit, absent_stay}
use Rattle.sarif_laws.proofs.Counted.{hits_counted, none_fails}
use Rattle.sarif_laws.proofs.FileAfter.{entries_read_later, faultless_later, input_file, keeps_matches, later_file, later_is, later_read, same_today}
use Rattle.sarif_laws.proofs.LaterResults.{alike_result, listed_later}
use Rattle.sarif_laws.proofs.Left.{left_by, left_same}
use Rattle.sarif_laws.proofs.Limited.{found_at}
use Rattle.sarif_laws.proofs.Lists.{all_at, same_counts}
use Rattle.sarif_laws.proofs.Places.{has_place}
use Rattle.sarif_laws.proofs.Read.{IsRead, record_read}

one_record : (a b : Record) → ◌≡◌ {A = Result Record Fault} (Ok a) (Ok b) → a ≡ b
one_record a b is = cc

one_of_two : (b : Bool) → bytes_eq (codes "absent") (state_name (if b then Unchanged else Updated)) ≡ false
one_of_two true = refl
one_of_two false = refl

-- a current result isn't absent
pub current_state : (v : MatchingVersion) (r : Record) (partner : Option Record) → bytes_eq (codes "absent") (state_name (state_in v r partner)) ≡ false
current_state Two r None = refl
current_state Two r (Some other) = one_of_two (is_unchanged r other)
current_state Three r None = refl
current_state Three r (Some other) = one_of_two (is_unchanged r other && has_evidence (seen r) (seen other))

-- what is read from a result doesn't depend on entries
pub still_read : (d : Data) (r : Record) (numbers : List ℕ) → IsRead d r → IsRead d (with_admitted r numbers)
still_read d r numbers read = record { guid = read.guid; held = read.held }

pub dated_until : (today until : Option ℕ) → IsUntil today until → IsDated today until
dated_until today None is = tt
dated_until today (Some last) is = (is.0, is.1, is.2)

-- ---- the runs of a merged log

-- an input run
pub input_run : (inputs : Inputs) (k : ℕ) → k < length (input_runs inputs) → merged_run_at inputs k ≡ written_run inputs k
input_run inputs k there = get_or_append_left (written_inputs inputs) (absent_written inputs) null k (omega (arith, there, runs_same inputs))

-- a run of absent results
pub absent_run : (inputs : Inputs) (k : ℕ) → length (input_runs inputs) ≤ k
    → merged_run_at inputs k ≡ get_or (absent_written inputs) (k - length (input_runs inputs)) null
absent_run inputs k past = get_or-append_right (written_inputs inputs) (absent_written inputs) (length (input_runs inputs)) k null (runs_same inputs) past

pub runs_long : (inputs : Inputs) → length (runs_written inputs) ≡ length (input_runs inputs) + length (absent_written inputs)
runs_long inputs = length-append (written_inputs inputs) (absent_written inputs) ∙ ap (λ n. n + length (absent_written inputs)) (runs_same inputs)

-- past the results of an input run
pub no_result : (inputs : Inputs) (k seq : ℕ) → k < length (input_runs inputs) → length (results_of (run_at inputs k)) ≤ seq
    → result_at (written_run inputs k) seq ≡ null
no_result inputs k seq there past = get_or_past (results_of (written_run inputs k)) seq null (omega (arith, past, results_same inputs k there))

module _ (inputs : Inputs) (text : List ℕ) where
  -- another suppression file changes neither how many runs there are, nor how many results they have
  pub same_runs : length (runs_written (with_file inputs text)) ≡ length (runs_written inputs)
  same_runs = runs_long (with_file inputs text) ∙ sym (runs_long inputs)

  pub same_results : (k : ℕ) → length (results_of (merged_run_at (with_file inputs text) k)) ≡ length (results_of (merged_run_at inputs k))
  same_results k = by_place (nat_lt k (length (input_runs inputs))) refl
    where
      by_place : (b : Bool) → nat_lt k (length (input_runs inputs)) ≡ b
          → length (results_of (merged_run_at (with_file inputs text) k)) ≡ length (results_of (merged_run_at inputs k))
      by_place true is =
          let there = ltb-true k (length (input_runs inputs)) is in
          ap (λ run. length (results_of run)) (input_run (with_file inputs text) k there) ∙ results_same (with_file inputs text) k there
          ∙ sym (results_same inputs k there) ∙ ap (λ run. length (results_of run)) (sym (input_run inputs k there))
      by_place false is =
          let past = ltb-false k (length (input_runs inputs)) is in
          ap (λ run. length (results_of run)) (absent_run (with_file inputs text) k past) ∙ ap (λ run. length (results_of run)) (sym (absent_run inputs k past))

-- what is true for each result of an input run at its place, for a missing value and for absent results is true at each
-- place of the two merged logs
module _ (inputs : Inputs) (text : List ℕ) (P : Data → Data → Type 0) (nothing : P null null)
    (current : (k seq : ℕ) → IsResult inputs k seq → P (result_at (written_run inputs k) seq) (result_at (written_run (with_file inputs text) k) seq))
    (absent : (k seq : ℕ) → P (result_at (get_or (absent_written inputs) k null) seq) (result_at (get_or (absent_written inputs) k null) seq)) where
  in_run : (k seq : ℕ) → k < length (input_runs inputs)
      → P (result_at (written_run inputs k) seq) (result_at (written_run (with_file inputs text) k) seq)
  in_run k seq there = by_place (nat_lt seq (length (results_of (run_at inputs k)))) refl
    where
      by_place : (b : Bool) → nat_lt seq (length (results_of (run_at inputs k))) ≡ b
          → P (result_at (written_run inputs k) seq) (result_at (written_run (with_file inputs text) k) seq)
      by_place true inside = current k seq (there, ltb-true seq (length (results_of (run_at inputs k))) inside)
      by_place false outside =
          let past = ltb-false seq (length (results_of (run_at inputs k))) outside in
          subst (λ before. P before (result_at (written_run (with_file inputs text) k) seq)) (sym (no_result inputs k seq there past))
          (subst (P null) (sym (no_result (with_file inputs text) k seq there past)) nothing)

  pub at_each : (k seq : ℕ) → P (merged_result inputs k seq) (merged_result (with_file inputs text) k seq)
  at_each k seq = by_place (nat_lt k (length (input_runs inputs))) refl
    where
      by_runs : (a b : Data) → merged_run_at inputs k ≡ a → merged_run_at (with_file inputs text) k ≡ b
          → P (result_at a seq) (result_at b seq)
          → P (merged_result inputs k seq) (merged_result (with_file inputs text) k seq)
      by_runs a b first second holds =
          subst (λ x. P (result_at x seq) (merged_result (with_file inputs text) k seq)) (sym first)
          (subst (λ y. P (result_at a seq) (result_at y seq)) (sym second) holds)

      by_place : (b : Bool) → nat_lt k (length (input_runs inputs)) ≡ b
          → P (merged_result inputs k seq) (merged_result (with_file inputs text) k seq)
      by_place true inside =
          let there = ltb-true k (length (input_runs inputs)) inside in
          by_runs (written_run inputs k) (written_run (with_file inputs text) k) (input_run inputs k there)
          (input_run (with_file inputs text) k there) (in_run k seq there)
      by_place false outside =
          let past = ltb-false k (length (input_runs inputs)) outside in
          let run = get_or (absent_written inputs) (k - length (input_runs inputs)) null in
          by_runs run run (absent_run inputs k past) (absent_run (with_file inputs text) k past) (absent (k - length (input_runs inputs)) seq)

-- ---- a result in the next merge

-- a result at its place among all
pub at_place : (inputs : Inputs) (k seq : ℕ) (r : Record) → faults_of inputs ≡ [] → IsResult inputs k seq
    → record_of (record_options (reading_checks inputs)) (run_at inputs k) seq ≡ Ok r
    → slice_get (current_of inputs) (number_among_all inputs k seq) ≡ Some r
at_place inputs k seq r none there read =
    let place = number_among_all inputs k seq in
    let at = has_place inputs k seq r none there read in
    slice_get-get_or (current_of inputs) place r at.in_records ∙ ap Some at.record_is

module _ (inputs : Inputs) (policy : Policy) (marks : Marks) (renewal : Renewal) (text : List ℕ) (none : faults_of inputs ≡ [])
    (small : renewal_faults (merge_choosing inputs policy marks) renewal ≡ [])
    (dated : IsDated inputs.today renewal.until) (is : IsNewFileChoosing inputs policy marks renewal text) where
  -- the same result in the next merge is written as if entries had the numbers that they had
  pub later_result : (k seq : ℕ) (r : Record) → IsResult inputs k seq → record_of (record_options (reading_checks inputs)) (run_at inputs k) seq ≡ Ok r
      → result_at (written_run (with_file inputs text) k) seq
      ≡ written (listing_of (later_file inputs policy marks renewal)) (with_admitted r (admitted_at inputs (number_among_all inputs k seq)))
      (state_in inputs.checks.matching r (partner_at inputs (number_among_all inputs k seq))) (result_at (run_at inputs k) seq)
  later_result k seq r there read =
      let own = own_result (with_file inputs text) k seq (faultless_later inputs policy marks renewal text none small dated is) there in
      let place = number_among_all inputs k seq in
      let d = result_at (run_at inputs k) seq in
      let rs = current_of inputs in
      let file = file_given inputs in
      let later = later_file inputs policy marks renewal in
      let state = state_in inputs.checks.matching r (partner_at inputs place) in
      let before = admitted_at inputs place in
      let after = slice_index_or (all_admitted (renumbered later) rs) place [] in
      let at = at_place inputs k seq r none there read in
      own.2
      ∙ ap (λ x. written (listing_of (file_given (with_file inputs text))) (with_admitted x (admitted_at (with_file inputs text) place))
      (state_in inputs.checks.matching x (partner_at inputs place)) d) (one_record own.0 r (sym own.1 ∙ read))
      ∙ ap (λ f. written (listing_of f) (with_admitted r (slice_index_or (all_admitted f rs) place [])) state d)
      (later_is inputs policy marks renewal text none small dated is)
      ∙ alike_result (listing_of (renumbered later)) (listing_of later) (with_admitted r after) (with_admitted r before) state d
      (record {
        level = refl;
        listed = listed_later inputs.suppressions text inputs.today file (how_of (merge_in inputs policy) renewal) (limited_of inputs)
            (added_in (merge_choosing inputs policy marks) renewal) rs
            (input_file inputs none) (later_read inputs policy marks renewal text none small dated is) place r before after at
            (found_at file rs place r at) (found_at (renumbered later) rs place r at);
      })

-- without a diff the gate checks all results
pub whole_merge : (inputs : Inputs) (policy : Policy) → change_given inputs ≡ None → merge_in inputs policy ≡ merge_choosing inputs policy None
whole_merge inputs policy whole =
    ap (λ change. merge_of inputs.checks (file_given inputs) inputs.suppressions change policy (input_runs inputs) (baseline_runs inputs)) whole

module _ (inputs : Inputs) (policy : Policy) (renewal : Renewal) (text : List ℕ) (whole : change_given inputs ≡ None) (none : faults_of inputs ≡ [])
    (small_given : renewal_faults (merge_in inputs policy) renewal ≡ [])
    (accepts : renewal.accept ≡ true) (until : IsUntil inputs.today renewal.until) (is_given : IsNewFileOf inputs policy renewal text) where
  small : renewal_faults (merge_choosing inputs policy None) renewal ≡ []
  small = ap (λ m. renewal_faults m renewal) (sym (whole_merge inputs policy whole)) ∙ small_given

  is : IsNewFileChoosing inputs policy None renewal text
  is = is_given ∙ ap (λ m. Some (rules_after m renewal)) (whole_merge inputs policy whole)

  dated : IsDated inputs.today renewal.until
  dated = dated_until inputs.today renewal.until until

  left_current : (k seq : ℕ) → IsResult inputs k seq
      → IsLeft policy (result_at (written_run inputs k) seq) (result_at (written_run (with_file inputs text) k) seq)
  left_current k seq there =
      let own = own_result inputs k seq none there in
      let r = own.0 in
      let file = file_given inputs in
      let rs = limited_of inputs in
      let states = states_of inputs.checks.matching (current_of inputs) (baseline_of inputs) in
      let place = number_among_all inputs k seq in
      let before : Record = with_admitted r (admitted_at inputs place) in
      let state = state_in inputs.checks.matching r (partner_at inputs place) in
      let at = has_place inputs k seq r none there own.1 in
      let found : slice_get rs place ≡ Some before = found_at file (current_of inputs) place r (at_place inputs k seq r none there own.1) in
      let in_records = slice_get_within rs place before found in
      let record_is = get_or_from_slice_get rs place before before found in
      let how = how_of (merge_in inputs policy) renewal in
      let until_file : IsUntil file.today renewal.until = subst (λ today. IsUntil today renewal.until) (sym (same_today inputs none)) until in
      let left =
      left_by policy before state file (later_file inputs policy None renewal)
      (hits_after how (may_hit policy) file rs states before state place in_records at.in_states record_is at.state_is accepts until_file)
      (still_suppressed how (may_hit policy) file rs states before place in_records record_is)
      (λ given. list_begins how (may_hit policy) file rs states before place given in_records record_is)
      (current_state inputs.checks.matching r (partner_at inputs place)) (result_at (run_at inputs k) seq)
      (still_read (result_at (run_at inputs k) seq) r (admitted_at inputs place)
      (record_read (record_options (reading_checks inputs)) (run_at inputs k) seq r own.1)) in
      subst (λ b. IsLeft policy b (result_at (written_run (with_file inputs text) k) seq)) (sym own.2)
      (subst (IsLeft policy (written_by inputs r place (result_at (run_at inputs k) seq)))
      (sym (later_result inputs policy None renewal text none small dated is k seq r there own.1)) left)

  left_absent : (k seq : ℕ) → IsLeft policy (result_at (get_or (absent_written inputs) k null) seq) (result_at (get_or (absent_written inputs) k null) seq)
  left_absent k seq =
      let all =
      absent_stay policy (records_of (baseline_runs inputs)) (taken_of inputs.checks.matching (current_of inputs) (baseline_of inputs))
      (run_values (baseline_runs inputs)) in
      let run = all_at (λ x. AllByRecursion (StaysIfHit policy) (results_of x)) (absent_written inputs) k null all tt in
      left_same policy (result_at (get_or (absent_written inputs) k null) seq)
      (all_at (StaysIfHit policy) (results_of (get_or (absent_written inputs) k null)) seq null run refl)

  left_at : (k seq : ℕ) → IsLeft policy (merged_result inputs k seq) (merged_result (with_file inputs text) k seq)
  left_at = at_each inputs text (IsLeft policy) (left_same policy null refl) left_current left_absent

  later_hits : hits_of (count_of (runs_written (with_file inputs text))) policy ≡ count_by (stays_in policy) (flat_map results_of (runs_written inputs))
  later_hits =
      hits_counted policy (runs_written (with_file inputs text))
      ∙ same_counts (is_hit_in policy) (stays_in policy) (runs_written (with_file inputs text)) (runs_written inputs) (same_runs inputs text)
      (same_results inputs text) (λ k seq. (left_at k seq).hit)

  pub law_of_accepting : LeavesWhatStays inputs policy renewal text
  law_of_accepting = record {
    faultless = faultless_later inputs policy None renewal text none small dated is;
    runs = same_runs inputs text;
    counts = same_results inputs text;
    results = left_at;
    absent = refl;
    entries = entries_read_later inputs policy None renewal text none small dated is;
    matches = keeps_matches inputs policy None renewal text none small dated is;
    hits = later_hits;
    verdict = λ nothing. none_fails policy (hits_of (count_of (runs_written (with_file inputs text))) policy) (later_hits ∙ nothing);
  }
