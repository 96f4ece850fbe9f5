-- The new suppression file of inputs without errors is read as the file that was meant.
use Rattle.std.proofs.Common.{◌≡◌, ℕ, ◌≤◌, ◌++◌, Bool, true, false, ◌&&◌, not, List, [], ◌∷◌, map, Some, None, slice_get, Result, Ok, Err, refl, sym, ap, ◌∙◌, if◌then◌else◌}
use Rattle.std.specs.Prelude.{nat_lt}
use Rattle.std.specs.List.{AllByRecursion, list_any}
use Rattle.std.proofs.lemmas.Bool.{ltb-false}
use Rattle.sarif_evidence.specs.Seen.{as_matched}
use Rattle.sarif_evidence.specs.declared.version.MatchingVersion.{MatchingVersion}
use Rattle.sarif_evidence.specs.declared.version.MatchingVersion.TheVariants.{Two, Three}
use Rattle.sarif_model.specs.declared.kinds.State.{State}
use Rattle.sarif_model.specs.declared.merge_fault.MergeFault.{MergeFault}
use Rattle.sarif_model.specs.declared.record.Record.{Record}
use Rattle.sarif_model.specs.Limits.{most_entries}
use Rattle.sarif_options.specs.declared.policy.Policy.{Policy}
use Rattle.sarif_options.specs.declared.upkeep.Renewal.{Renewal}
use Rattle.sarif_entries.specs.declared.fault.FileFault.{FileFault}
use Rattle.sarif_entries.specs.File.{File, file_of}
use Rattle.sarif_entries.specs.Numbering.{renumbered, with_number}
use Rattle.sarif_suppress.specs.Limited.{limited}
use Rattle.sarif_log.specs.LogBy.{states_of}
use Rattle.sarif_inputs.specs.Faults.{faults_of, file_faults}
use Rattle.sarif_entries.specs.Given.{file_or_none}
use Rattle.sarif_inputs.specs.Inputs.{Inputs, input_runs}
use Rattle.sarif_inputs_laws.proofs.Parts.{all_faults, apart_faults}
use Rattle.sarif_merge.specs.Life.{merge_in}
use Rattle.sarif_merge.specs.MergedLog.{current_of, file_given, file_in, limited_of}
use Rattle.sarif_merge.specs.OwnResult.{baseline_of}
use Rattle.sarif_upkeep.specs.Renewed.{added_in, entries_count, how_of, renewal_faults}
use Rattle.sarif_accept.specs.Adding.{MayBeHit, accepted_among, is_hit, is_said, may_hit, once_each, stays}
use Rattle.sarif_accept.specs.Choosing.{Marks, accepted_by, chosen_by, file_adding}
use Rattle.sarif_accept.specs.Keeping.{chosen}
use Rattle.sarif_accept.specs.Until.{HasGuid, IsDated}
use Rattle.sarif_accept_laws.proofs.GivenFile.{today_given}
use Rattle.sarif_accept_laws.proofs.NewFileRead.{new_file_adding}
use Rattle.sarif_laws.specs.Choosing.{IsNewFileChoosing, entries_later, merge_choosing}
use Rattle.sarif_laws.specs.NextMerge.{KeepsMatches, with_file}
use Rattle.sarif_laws.proofs.LaterResults.{same_matches}
use Rattle.sarif_laws.proofs.Limited.{all_limited, from_at}
use Rattle.sarif_laws.proofs.Read.{guids_fit}

-- ---- the file of the inputs

file_is : (read : Result File FileFault) → file_faults read ≡ [] → read ≡ Ok (file_in read)
file_is (Ok file) none = refl
file_is (Err fault) none = let never : ⊥ = cc in absurd never

-- the file is read without an error
pub input_file : (inputs : Inputs) → faults_of inputs ≡ [] → file_or_none inputs.suppressions inputs.today ≡ Ok (file_given inputs)
input_file inputs none = file_is (file_or_none inputs.suppressions inputs.today) (apart_faults inputs none).file

-- the file was read for the date of the inputs
pub same_today : (inputs : Inputs) → faults_of inputs ≡ [] → (file_given inputs).today ≡ inputs.today
same_today inputs none = today_given inputs.suppressions inputs.today (file_given inputs) (input_file inputs none)

-- ---- the results for which entries are added

accepted_fit : (counts : MayBeHit) (file : File) (rs : List Record) (states : List State) → AllByRecursion HasGuid rs
    → AllByRecursion HasGuid (accepted_among counts file rs states)
accepted_fit counts file [] states fit = tt
accepted_fit counts file (r ∷ rs) [] fit = tt
accepted_fit counts file (r ∷ rs) (state ∷ states) fit =
    let rest = accepted_fit counts file rs states fit.1 in
    elim (is_hit counts file r state && not (stays file r)) as
    (λ b. AllByRecursion HasGuid (if b then r ∷ accepted_among counts file rs states else accepted_among counts file rs states))
    [ true ↦ (fit.0, rest) | false ↦ rest ]

chosen_fit : (marks : List Bool) (rs : List Record) → AllByRecursion HasGuid rs → AllByRecursion HasGuid (chosen marks rs)
chosen_fit [] rs fit = tt
chosen_fit (mark ∷ marks) [] fit = tt
chosen_fit (true ∷ marks) (r ∷ rs) fit = (fit.0, chosen_fit marks rs fit.1)
chosen_fit (false ∷ marks) (r ∷ rs) fit = chosen_fit marks rs fit.1

by_marks_fit : (marks : Marks) (rs : List Record) → AllByRecursion HasGuid rs → AllByRecursion HasGuid (chosen_by marks rs)
by_marks_fit None rs fit = fit
by_marks_fit (Some marks) rs fit = chosen_fit marks rs fit

once_fit : (before rs : List Record) → AllByRecursion HasGuid rs → AllByRecursion HasGuid (once_each before rs)
once_fit before [] fit = tt
once_fit before (r ∷ rs) fit =
    elim (list_any (is_said r) before) as (λ b. AllByRecursion HasGuid (if b then once_each before rs else r ∷ once_each (before ++ r ∷ []) rs))
    [ true ↦ once_fit before rs fit.1 | false ↦ (fit.0, once_fit (before ++ r ∷ []) rs fit.1) ]

one_shown : (version : MatchingVersion) (r : Record) → HasGuid r → HasGuid (as_matched version r)
one_shown Two r fit = fit
one_shown Three r fit = fit

shown_fit : (version : MatchingVersion) (rs : List Record) → AllByRecursion HasGuid rs → AllByRecursion HasGuid (map (as_matched version) rs)
shown_fit version [] fit = tt
shown_fit version (r ∷ rs) fit = (one_shown version r fit.0, shown_fit version rs fit.1)

added_fit : (accepts : Bool) (version : MatchingVersion) (rs : List Record) → AllByRecursion HasGuid rs
    → AllByRecursion HasGuid (if accepts then once_each [] (map (as_matched version) rs) else [])
added_fit true version rs fit = once_fit [] (map (as_matched version) rs) (shown_fit version rs fit)
added_fit false version rs fit = tt

-- ---- the new file

few_by : (n : ℕ) (fault : MergeFault) (rest : List MergeFault) → (if nat_lt most_entries n then fault ∷ [] else rest) ≡ [] → n ≤ most_entries
few_by n fault rest none = by_test (nat_lt most_entries n) refl none
  where
    by_test : (b : Bool) → nat_lt most_entries n ≡ b → (if b then fault ∷ [] else rest) ≡ [] → n ≤ most_entries
    by_test true is none = let never : ⊥ = cc in absurd never
    by_test false is none = ltb-false most_entries n is

-- the suppression file of the next merge, as it is meant; its entries have the numbers that they had
abbrev pub later_file : Inputs → Policy → Marks → Renewal → File
later_file inputs policy marks renewal =
    file_adding (how_of (merge_in inputs policy) renewal) (file_given inputs) (limited_of inputs)
    (added_in (merge_choosing inputs policy marks) renewal)

module _ (inputs : Inputs) (policy : Policy) (marks : Marks) (renewal : Renewal) (text : List ℕ) (none : faults_of inputs ≡ [])
    (small : renewal_faults (merge_choosing inputs policy marks) renewal ≡ [])
    (dated : IsDated inputs.today renewal.until) (is : IsNewFileChoosing inputs policy marks renewal text) where
  added_have_guids : AllByRecursion HasGuid (added_in (merge_choosing inputs policy marks) renewal)
  added_have_guids =
      let rs = limited_of inputs in
      let states = states_of inputs.checks.matching (current_of inputs) (baseline_of inputs) in
      added_fit renewal.accept inputs.checks.matching (accepted_by marks (may_hit policy) (file_given inputs) rs states)
      (accepted_fit (may_hit policy) (file_given inputs) (chosen_by marks rs) (chosen_by marks states)
      (by_marks_fit marks rs
      (all_limited HasGuid (λ r numbers fit. fit) (file_given inputs) (current_of inputs) (guids_fit (input_runs inputs)))))

  pub later_read : file_of text inputs.today ≡ Ok (renumbered (later_file inputs policy marks renewal))
  later_read =
      new_file_adding (how_of (merge_in inputs policy) renewal) inputs.suppressions inputs.today (file_given inputs) (limited_of inputs)
      (added_in (merge_choosing inputs policy marks) renewal) text
      (input_file inputs none) added_have_guids
      dated (few_by (entries_count (merge_choosing inputs policy marks) renewal) _ _ small) is

  pub later_is : file_given (with_file inputs text) ≡ renumbered (later_file inputs policy marks renewal)
  later_is = ap file_in later_read

  -- its entries are those that are kept, and then those that are added
  pub entries_read_later : (file_given (with_file inputs text)).entries ≡ entries_later inputs policy marks renewal
  entries_read_later = ap (λ (f : File). f.entries) later_is

  -- an entry that is kept matches the same results
  pub keeps_matches : KeepsMatches inputs text
  keeps_matches i n m e before after at_old at_new is_before is_after =
      let file = file_given inputs in
      let rs = current_of inputs in
      let how = how_of (merge_in inputs policy) renewal in
      let from = from_at file rs i before is_before in
      same_matches inputs.suppressions text inputs.today file how (limited_of inputs) (added_in (merge_choosing inputs policy marks) renewal) rs
      (input_file inputs none) later_read i m n from.0 before after (with_number m e) e at_old
      (ap (λ (f : File). slice_get f.entries m) (sym later_is) ∙ at_new) refl from.1 is_before
      (ap (λ f. slice_get (limited f rs) i) (sym later_is) ∙ is_after)

  pub faultless_later : faults_of (with_file inputs text) ≡ []
  faultless_later =
      let fine = apart_faults inputs none in
      all_faults (with_file inputs text) (record {
        logs = fine.logs;
        baselines = fine.baselines;
        sources = fine.sources;
        file = ap file_faults later_read;
        policy = fine.policy;
        change = fine.change;
        log_runs = fine.log_runs;
        older_runs = fine.older_runs;
      })
