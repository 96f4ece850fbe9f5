-- What accepting chosen hits leaves of the results in the next merge.
use Rattle.std.specs.Prelude.{◌≡◌, ℕ, ◌++◌, true, false, List, [], Some, None, filter, length, slice_get}
use Rattle.serde_json.specs.Data.{Data}
use Rattle.json_parts.specs.Indexed.{json_of}
use Rattle.json_parts.specs.Mark.{without_mark}
use Rattle.sarif_model.specs.declared.kinds.State.{State}
use Rattle.sarif_model.specs.declared.record.Record.{Record}
use Rattle.sarif_model.specs.Run.{results_of}
use Rattle.sarif_options.specs.declared.policy.Policy.{Policy}
use Rattle.sarif_options.specs.declared.upkeep.Renewal.{Renewal}
use Rattle.sarif_findings.specs.Reported.{is_active, level_in, state_in}
use Rattle.sarif_accept.specs.Adding.{may_hit}
use Rattle.sarif_accept.specs.Choosing.{Marks, is_chosen_at, is_left}
use Rattle.sarif_accept.specs.Keeping.{is_kept}
use Rattle.sarif_entries.specs.declared.entry.Entry.{Entry}
use Rattle.sarif_entries.specs.Numbering.{numbered_from}
use Rattle.sarif_runs.specs.Judging.{run_values}
use Rattle.sarif_heard.specs.Heard.{heard}
use Rattle.sarif_upkeep.specs.Merge.{Merge}
use Rattle.sarif_upkeep.specs.Renewed.{entries_added, rules_after}
use Rattle.sarif_log.specs.LogBy.{states_of}
use Rattle.sarif_inputs.specs.Faults.{faults_of}
use Rattle.sarif_inputs.specs.Inputs.{Inputs, input_runs}
use Rattle.sarif_merge.specs.Life.{merge_in}
use Rattle.sarif_merge.specs.MergedLog.{current_of, file_given, limited_of, runs_written}
use Rattle.sarif_merge.specs.OwnResult.{IsResult, baseline_of, number_among_all}
use Rattle.sarif_laws.specs.Hits.{is_hit_in, stays_in, suppressions_listed}
use Rattle.sarif_laws.specs.NextMerge.{KeepsMatches, absent_written, merged_result, merged_run_at, with_file}

-- the merge with these chosen hits, if not all hits are, whose gate checks all results
abbrev pub with_marks : Merge → Marks → Merge
with_marks m marks = record m { hidden = None; chosen = marks }

-- the merge of these inputs under this policy with these chosen hits, if not all are, whose gate checks all results
abbrev pub merge_choosing : Inputs → Policy → Marks → Merge
merge_choosing inputs policy marks = with_marks (merge_in inputs policy) marks

-- the text is read as the new suppression file of that merge
abbrev pub IsNewFileChoosing : Inputs → Policy → Marks → Renewal → List ℕ → Type 0
IsNewFileChoosing inputs policy marks renewal text =
    json_of (without_mark text) ≡ Some (rules_after (merge_choosing inputs policy marks) renewal)

-- a result of the merged log, before accepting and after it: it is suppressed if it was, it has its level and its state,
-- and its list of suppressions begins with what it was
pub record IsKept (before after : Data) : Type 0 where
  pub suppressed : is_active before ≡ false → is_active after ≡ false
  pub level : level_in after ≡ level_in before
  pub state : state_in after ≡ state_in before
  pub suppressions : (rest : List Data)
      × (suppressions_listed after ≡ suppressions_listed before ++ rest)

-- the states of the current results
abbrev pub states_given : Inputs → List State
states_given inputs = states_of inputs.checks.matching (current_of inputs) (baseline_of inputs)

-- the entries of a new suppression file of that merge: those that are kept, and then those that accept the chosen hits,
-- with the numbers of their positions
abbrev pub entries_later : Inputs → Policy → Marks → Renewal → List Entry
entries_later inputs policy marks renewal =
    let keep = is_kept renewal.prune (heard (run_values (input_runs inputs))) (file_given inputs)
    (limited_of inputs) in
    numbered_from 0 (filter keep (file_given inputs).entries
    ++ entries_added (merge_choosing inputs policy marks) renewal)

-- with this suppression file the merge of the same inputs has no errors; it has the same runs with as many results, and
-- each result is kept at its place; absent results are written as before; entries that are kept match the same results
pub record LeavesOthers (inputs : Inputs) (policy : Policy) (marks : Marks) (renewal : Renewal)
    (text : List ℕ) : Type 0 where
  pub faultless : faults_of (with_file inputs text) ≡ []
  pub runs : length (runs_written (with_file inputs text)) ≡ length (runs_written inputs)
  pub counts : (k : ℕ) → length (results_of (merged_run_at (with_file inputs text) k))
      ≡ length (results_of (merged_run_at inputs k))
  pub results : (k seq : ℕ) → IsKept (merged_result inputs k seq)
      (merged_result (with_file inputs text) k seq)
  pub absent : absent_written (with_file inputs text) ≡ absent_written inputs
  pub entries : (file_given (with_file inputs text)).entries
      ≡ entries_later inputs policy marks renewal
  pub matches : KeepsMatches inputs text
  -- a current result is a hit exactly if it was one that stays, or that no added entry matches
  pub hits : (k seq : ℕ) (r : Record) (state : State) → IsResult inputs k seq
      → slice_get (limited_of inputs) (number_among_all inputs k seq) ≡ Some r
      → slice_get (states_given inputs) (number_among_all inputs k seq) ≡ Some state
      → is_hit_in policy (merged_result (with_file inputs text) k seq)
      ≡ is_left (may_hit policy) (file_given inputs)
      (entries_added (merge_choosing inputs policy marks) renewal) r state
  -- so a chosen result is a hit exactly if it was one that stays
  pub chosen : (k seq : ℕ) → IsResult inputs k seq
      → is_chosen_at marks (number_among_all inputs k seq) ≡ true
      → is_hit_in policy (merged_result (with_file inputs text) k seq)
      ≡ stays_in policy (merged_result inputs k seq)
