-- The law of pruning.
use Rattle.std.proofs.Common.{◌≡◌, ◌+◌, ◌<◌, ◌++◌, ℕ, suc, Bool, true, false, not, cond, List, [], ◌∷◌, length, take, drop, get_or, Option, None, Ok, slice_get, slice_index_or, refl, sym, ap, ap₂, subst, ◌∙◌, arith, append-nil, true≢false}
use Rattle.std.specs.Prelude.{Some, count_by, filter}
use Rattle.std.specs.List.{AllZip}
use Rattle.std.proofs.lemmas.List.Sums.{sum_by-cons}
use Rattle.std.proofs.lemmas.Option.{get_or_from_slice_get, same_Some, slice_get_read, slice_get_within}
use Rattle.serde_json.specs.Data.{Data, null, boolean, number, string, array, object, Items}
use Rattle.serde_json.specs.View.{items_of}
use Rattle.sarif_model.specs.declared.kinds.State.{State}
use Rattle.sarif_model.specs.declared.record.Record.{Record}
use Rattle.sarif_model.specs.Members.{elements}
use Rattle.sarif_model.specs.Run.{results_of}
use Rattle.sarif_options.specs.declared.policy.Policy.{Policy}
use Rattle.sarif_options.specs.declared.upkeep.Renewal.{Renewal}
use Rattle.sarif_counts.specs.CountOf.{count_of}
use Rattle.sarif_scope.specs.Counted.{verdict_by}
use Rattle.sarif_runs.specs.Judging.{run_values}
use Rattle.sarif_results.specs.Drafts.{Listing}
use Rattle.sarif_entries.specs.declared.condition.ConditionKind.TheVariants as kinds
use Rattle.sarif_entries.specs.Condition.{text_in}
use Rattle.sarif_entries.specs.declared.entry.Entry.{Entry}
use Rattle.sarif_entries.specs.File.{File, file_of}
use Rattle.sarif_entries.specs.Matching.{is_expired, matches}
use Rattle.sarif_entries.specs.Numbering.{numbered_from, renumbered, with_number}
use Rattle.sarif_suppress.specs.Limited.{all_admitted, limited, with_admitted}
use Rattle.sarif_suppress.specs.Suppressing.{is_unused}
use Rattle.sarif_suppress.specs.Written.{suppressions_of}
use Rattle.sarif_inputs.specs.Faults.{faults_of}
use Rattle.sarif_inputs.specs.Inputs.{Inputs, input_runs}
use Rattle.sarif_log.proofs.Limits.{limited_long}
use Rattle.sarif_log.specs.LogBy.{listing_of, states_of}
use Rattle.sarif_log.specs.MergedRuns.{annotated_items, bare, merged_run, merged_runs, own_results, with_results, written_all}
use Rattle.sarif_merge.specs.Life.{merge_in}
use Rattle.sarif_merge.specs.MergedLog.{current_of, file_given, limited_of, runs_written, written_inputs}
use Rattle.sarif_merge.specs.OwnResult.{baseline_of}
use Rattle.sarif_heard.specs.Heard.{heard}
use Rattle.sarif_upkeep.specs.Renewed.{how_of, kept_in, renewal_faults, rules_after, text_faults, values_added}
use Rattle.sarif_accept.specs.Adding.{How, added_for, may_hit}
use Rattle.sarif_accept.specs.Keeping.{is_kept}
use Rattle.sarif_accept.specs.NewFile.{entries_after, file_object, new_file}
use Rattle.sarif_accept_laws.proofs.After.{same_list, unused_stays}
use Rattle.sarif_laws.specs.Choosing.{merge_choosing}
use Rattle.sarif_laws.specs.NextMerge.{IsNewFileOf, absent_written, with_file}
use Rattle.sarif_laws.specs.Pruning.{ChangesNoResult}
use Rattle.sarif_laws.proofs.FileAfter.{faultless_later, input_file, keeps_matches, later_file, later_is, later_read, same_today}
use Rattle.sarif_laws.proofs.LaterResults.{IsAlike, alike_result, listed_later, numbered_at, same_matches}
use Rattle.sarif_laws.proofs.Limited.{found_at, from_at}
use Rattle.sarif_laws.proofs.Zipped.{any_zip, filter_at, zip_drop, zip_placed, zip_take}

-- ---- runs by listings and records that agree

module _ (one other : Listing) where
  alike_all : (rs qs : List Record) (states : List State) (ds : List Data) → AllZip (IsAlike one other) rs qs
      → written_all one rs states ds ≡ written_all other qs states ds
  alike_all [] [] states ds alike = refl
  alike_all [] (q ∷ qs) states ds alike = absurd alike
  alike_all (r ∷ rs) [] states ds alike = absurd alike
  alike_all (r ∷ rs) (q ∷ qs) [] ds alike = refl
  alike_all (r ∷ rs) (q ∷ qs) (state ∷ states) [] alike = refl
  alike_all (r ∷ rs) (q ∷ qs) (state ∷ states) (d ∷ ds) alike =
      ap₂ (λ x xs. x ∷ xs) (alike_result one other r q state d alike.0) (alike_all rs qs states ds alike.1)

  alike_items : (rs qs : List Record) (states : List State) (found : Option Items) → AllZip (IsAlike one other) rs qs
      → annotated_items one rs states found ≡ annotated_items other qs states found
  alike_items rs qs states None alike = refl
  alike_items rs qs states (Some ds) alike = ap (λ es. Some (items_of es)) (alike_all rs qs states (elements ds) alike)

  alike_run : (rs qs : List Record) (states : List State) (run : Data) → AllZip (IsAlike one other) rs qs
      → merged_run one rs states run ≡ merged_run other qs states run
  alike_run rs qs states null alike = refl
  alike_run rs qs states (boolean b) alike = refl
  alike_run rs qs states (number n) alike = refl
  alike_run rs qs states (string s) alike = refl
  alike_run rs qs states (array ds) alike = refl
  alike_run rs qs states (object ms) alike = ap (λ found. object (with_results found (bare ms))) (alike_items rs qs states (own_results ms) alike)

  pub alike_runs : (rs qs : List Record) (states : List State) (runs : List Data) → AllZip (IsAlike one other) rs qs
      → merged_runs one rs states runs ≡ merged_runs other qs states runs
  alike_runs rs qs states [] alike = refl
  alike_runs rs qs states (run ∷ runs) alike =
      let n = length (results_of run) in
      ap₂ (λ x xs. x ∷ xs) (alike_run (take n rs) (take n qs) (take n states) run (zip_take (IsAlike one other) n rs qs alike))
      (alike_runs (drop n rs) (drop n qs) (drop n states) runs (zip_drop (IsAlike one other) n rs qs alike))

-- ---- unused entries

none_counted : (test : Entry → Bool) (es : List Entry) → ((e : Entry) (i : ℕ) → i < length es → get_or es i e ≡ e → test e ≡ false) → count_by test es ≡ 0
none_counted test [] none = refl
none_counted test (e ∷ es) none =
    sum_by-cons (λ x. cond (test x) 1 0) e es
    ∙ ap (λ b. cond b 1 0 + count_by test es) (none e 0 (omega arith) refl)
    ∙ ap (λ n. 0 + n) (none_counted test es (λ x i within is. none x (suc i) (omega (arith, within)) is))

-- ---- the law

-- the same without an expiry date, which only entries that are added have
abbrev undated : Renewal → Renewal
undated renewal = record renewal { until = None }

module _ (inputs : Inputs) (policy : Policy) (renewal : Renewal) (none : renewal.accept ≡ false) where
  none_added : values_added (merge_in inputs policy) renewal ≡ values_added (merge_choosing inputs policy None) (undated renewal)
  none_added = rw none refl

  same_file : rules_after (merge_in inputs policy) renewal ≡ rules_after (merge_choosing inputs policy None) (undated renewal)
  same_file = ap (new_file (file_object inputs.suppressions) (kept_in (merge_in inputs policy) renewal)) none_added

  same_small : renewal_faults (merge_in inputs policy) renewal ≡ renewal_faults (merge_choosing inputs policy None) (undated renewal)
  same_small =
      ap₂ text_faults
      (ap (λ values. length (entries_after (file_object inputs.suppressions) (kept_in (merge_in inputs policy) renewal) values)) none_added)
      same_file

module _ (inputs : Inputs) (policy : Policy) (renewal : Renewal) (text : List ℕ) (sound : faults_of inputs ≡ [])
    (small : renewal_faults (merge_in inputs policy) renewal ≡ [])
    (prunes : renewal.prune ≡ true) (none : renewal.accept ≡ false) (is : IsNewFileOf inputs policy renewal text) where
  abbrev how : How
  how = how_of (merge_in inputs policy) (undated renewal)

  later_none : faults_of (with_file inputs text) ≡ []
  later_none =
      faultless_later inputs policy None (undated renewal) text sound (sym (same_small inputs policy renewal none) ∙ small) tt
      (is ∙ ap Some (same_file inputs policy renewal none))

  later_file_is : file_given (with_file inputs text) ≡ renumbered (later_file inputs policy None (undated renewal))
  later_file_is =
      later_is inputs policy None (undated renewal) text sound (sym (same_small inputs policy renewal none) ∙ small) tt
      (is ∙ ap Some (same_file inputs policy renewal none))

  abbrev rs : List Record
  rs = current_of inputs

  abbrev states : List State
  states = states_of inputs.checks.matching (current_of inputs) (baseline_of inputs)

  abbrev file : File
  file = file_given inputs

  -- with the numbers that the entries had
  abbrev later : File
  later = later_file inputs policy None (undated renewal)

  abbrev added : List Record
  added = added_for (how_of (merge_in inputs policy) (undated renewal)) (may_hit policy) file (limited_of inputs) states

  later_is_read : file_of text inputs.today ≡ Ok (renumbered later)
  later_is_read =
      later_read inputs policy None (undated renewal) text sound (sym (same_small inputs policy renewal none) ∙ small) tt
      (is ∙ ap Some (same_file inputs policy renewal none))

  as_many : length (limited (renumbered later) rs) ≡ length (limited file rs)
  as_many = limited_long (renumbered later) rs ∙ sym (limited_long file rs)

  -- each result has the same suppressions
  alike_at : (i : ℕ) (after before : Record) → slice_get (limited (renumbered later) rs) i ≡ Some after → slice_get (limited file rs) i ≡ Some before
      → IsAlike (listing_of (renumbered later)) (listing_of file) after before
  alike_at i after before is_after is_before =
      let from = from_at file rs i before is_before in
      let r = from.0 in
      let was = slice_index_or (all_admitted file rs) i [] in
      let now = slice_index_or (all_admitted (renumbered later) rs) i [] in
      let at_old = found_at file rs i r from.1 in
      let at_new = found_at (renumbered later) rs i r from.1 in
      let before_is : before ≡ with_admitted r was = same_Some before (with_admitted r was) (sym is_before ∙ at_old) in
      let after_is : after ≡ with_admitted r now = same_Some after (with_admitted r now) (sym is_after ∙ at_new) in
      let in_all = slice_get_within (limited file rs) i (with_admitted r was) at_old in
      let there = get_or_from_slice_get (limited file rs) i (with_admitted r was) (with_admitted r was) at_old in
      record {
        level = ap (λ (q : Record). q.level) after_is ∙ ap (λ (q : Record). q.level) (sym before_is);
        listed = λ own. ap (λ q. suppressions_of own (renumbered later) q) after_is
            ∙ listed_later inputs.suppressions text inputs.today file how (limited_of inputs) added rs (input_file inputs sound) later_is_read i r was now
            from.1 at_old at_new own
            ∙ same_list how (may_hit policy) file (limited_of inputs) states (with_admitted r was) i own in_all there none
            ∙ ap (λ q. suppressions_of own file q) (sym before_is);
      }

  same_inputs : written_inputs (with_file inputs text) ≡ written_inputs inputs
  same_inputs =
      ap (λ f. merged_runs (listing_of f) (limited f rs) states (run_values (input_runs inputs))) later_file_is
      ∙ alike_runs (listing_of (renumbered later)) (listing_of file) (limited (renumbered later) rs) (limited file rs) states
      (run_values (input_runs inputs))
      (zip_placed (IsAlike (listing_of (renumbered later)) (listing_of file)) (limited (renumbered later) rs) (limited file rs) as_many alike_at)

  same_log : runs_written (with_file inputs text) ≡ runs_written inputs
  same_log = ap (λ runs. runs ++ absent_written inputs) same_inputs

  abbrev keep : Entry → Bool
  keep e = is_kept true (heard (run_values (input_runs inputs))) file (limited_of inputs) e

  -- its entries are those that are kept
  later_kept : later.entries ≡ filter keep file.entries
  later_kept = rw (none, prunes) (append-nil _)

  later_entries : (file_given (with_file inputs text)).entries ≡ numbered_from 0 (filter keep file.entries)
  later_entries = ap (λ (f : File). f.entries) later_file_is ∙ ap (numbered_from 0) later_kept

  -- an entry of it is one that is kept, with another number, and matches the same results
  kept_as : (e : Entry) (i : ℕ) → slice_get (file_given (with_file inputs text)).entries i ≡ Some e
      → (x : Entry) × (e ≡ with_number i x) × (keep x ≡ true)
      × (is_unused (file_given (with_file inputs text)) (limited_of (with_file inputs text)) e ≡ is_unused file (limited_of inputs) x)
  kept_as e i at =
      let numbered = numbered_at 0 i (filter keep file.entries) e (ap (λ es. slice_get es i) (sym later_entries) ∙ at) in
      let x = numbered.0 in
      let among = filter_at keep file.entries i x numbered.1 in
      let now : slice_get (renumbered later).entries i ≡ Some e = ap (λ (f : File). slice_get f.entries i) (sym later_file_is) ∙ at in
      let here : 0 + i ≡ i = omega arith in
      let is_it : e ≡ with_number i x = numbered.2 ∙ ap (λ n. with_number n x) here in
      let matched : AllZip (λ a b. matches file.today e a ≡ matches file.today x b) (limited (renumbered later) rs) (limited file rs) =
      zip_placed (λ a b. matches file.today e a ≡ matches file.today x b) (limited (renumbered later) rs) (limited file rs) as_many
      (λ j after before is_after is_before. same_matches inputs.suppressions text inputs.today file how (limited_of inputs) added rs
      (input_file inputs sound) later_is_read j i among.0 (from_at file rs j before is_before).0 before after e x among.2 now is_it
      (from_at file rs j before is_before).1 is_before is_after) in (
        x,
        is_it,
        among.1,
        ap (λ f. is_unused f (limited f rs) e) later_file_is
            ∙ ap not (any_zip (λ r. matches file.today e r) (λ r. matches file.today x r) (limited (renumbered later) rs) (limited file rs) matched),
      )

  unused_now : (e : Entry) (i : ℕ) → i < length (file_given (with_file inputs text)).entries → get_or (file_given (with_file inputs text)).entries i e ≡ e
      → is_unused (file_given (with_file inputs text)) (limited_of (with_file inputs text)) e ≡ true
      → (is_expired inputs.today e ≡ false) × (heard (run_values (input_runs inputs)) (text_in kinds.Tool e.conditions) ≡ false)
  unused_now e i within at unused =
      let es = (file_given (with_file inputs text)).entries in
      let found = kept_as e i (slice_get_read es (length es) i e refl within (sym at)) in
      let x = found.0 in
      let so = unused_stays (heard (run_values (input_runs inputs))) file (limited_of inputs) x found.2 (sym found.3 ∙ unused) in (
        ap (is_expired inputs.today) found.1 ∙ subst (λ today. is_expired today x ≡ false) (same_today inputs sound) so.0,
        ap (λ (q : Entry). heard (run_values (input_runs inputs)) (text_in kinds.Tool q.conditions)) found.1 ∙ so.1,
      )

  used_by : (b : Bool) (e : Entry) (i : ℕ) → i < length (file_given (with_file inputs text)).entries
      → get_or (file_given (with_file inputs text)).entries i e ≡ e
      → heard (run_values (input_runs inputs)) (text_in kinds.Tool e.conditions) ≡ true
      → is_unused (file_given (with_file inputs text)) (limited_of (with_file inputs text)) e ≡ b → b ≡ false
  used_by true e i within at heard_is unused = absurd (true≢false (sym heard_is ∙ (unused_now e i within at unused).1))
  used_by false e i within at heard_is unused = refl

  pub law_of_pruning : ChangesNoResult inputs text
  law_of_pruning = record {
    faultless = later_none;
    runs = same_log;
    counts = ap count_of same_log;
    verdict = λ change any. ap (verdict_by change any) same_log;
    entries = later_entries;
    matches = keeps_matches inputs policy None (undated renewal) text sound (sym (same_small inputs policy renewal none) ∙ small) tt
        (is ∙ ap Some (same_file inputs policy renewal none));
    unused = λ e unused. unused_now e unused.0.0 unused.0.1 unused.0.2 unused.1;
    none_unused = λ all. none_counted (is_unused (file_given (with_file inputs text)) (limited_of (with_file inputs text))) (file_given (with_file inputs text)).entries
        (λ e i within at. used_by (is_unused (file_given (with_file inputs text)) (limited_of (with_file inputs text)) e) e i within at (all e (i, within, at)) refl);
  }
