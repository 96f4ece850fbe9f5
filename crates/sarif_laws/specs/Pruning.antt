-- What pruning the suppression file leaves in the next merge.
use Rattle.std.specs.Prelude.{◌≡◌, ℕ, true, false, List, [], Option, Contains, filter}
use Rattle.sarif_options.specs.declared.policy.Policy.{Policy}
use Rattle.sarif_counts.specs.CountOf.{count_of}
use Rattle.sarif_scope.specs.Counted.{verdict_by}
use Rattle.sarif_scope.specs.declared.gated.GatedChange.{GatedChange}
use Rattle.sarif_inputs.specs.Faults.{faults_of}
use Rattle.sarif_inputs.specs.Inputs.{Inputs, input_runs}
use Rattle.sarif_merge.specs.MergedLog.{file_given, limited_of, runs_written, unused_in}
use Rattle.sarif_runs.specs.Judging.{run_values}
use Rattle.sarif_entries.specs.declared.condition.ConditionKind.TheVariants as kinds
use Rattle.sarif_entries.specs.Condition.{text_in}
use Rattle.sarif_entries.specs.declared.entry.Entry.{Entry}
use Rattle.sarif_entries.specs.Matching.{is_expired}
use Rattle.sarif_entries.specs.Numbering.{numbered_from}
use Rattle.sarif_suppress.specs.Suppressing.{is_unused}
use Rattle.sarif_accept.specs.Keeping.{is_kept}
use Rattle.sarif_heard.specs.Heard.{heard}
use Rattle.sarif_laws.specs.NextMerge.{KeepsMatches, with_file}

-- the entry is one of the file of these inputs, and matches no current result
abbrev pub IsUnusedIn : Inputs → Entry → Type 0
IsUnusedIn inputs e =
    Contains (file_given inputs).entries e
    × (is_unused (file_given inputs) (limited_of inputs) e ≡ true)

-- with this suppression file the merge of the same inputs has no errors, and the same runs, counts and verdict; its
-- entries are exactly those that pruning keeps, in order, with the numbers of their new positions, and they match the
-- same results; an entry that is unused in it isn't expired, and its tool wasn't heard
pub record ChangesNoResult (inputs : Inputs) (text : List ℕ) : Type 0 where
  pub faultless : faults_of (with_file inputs text) ≡ []
  pub runs : runs_written (with_file inputs text) ≡ runs_written inputs
  pub counts : count_of (runs_written (with_file inputs text)) ≡ count_of (runs_written inputs)
  -- with each change, and without one
  pub verdict : (change : Option GatedChange) (policy : Policy)
      → verdict_by change policy (runs_written (with_file inputs text))
      ≡ verdict_by change policy (runs_written inputs)
  pub entries : (file_given (with_file inputs text)).entries
      ≡ numbered_from 0 (filter (is_kept true (heard (run_values (input_runs inputs)))
      (file_given inputs) (limited_of inputs)) (file_given inputs).entries)
  pub matches : KeepsMatches inputs text
  pub unused : (e : Entry) → IsUnusedIn (with_file inputs text) e
      → (is_expired inputs.today e ≡ false)
      × (heard (run_values (input_runs inputs)) (text_in kinds.Tool e.conditions) ≡ false)
  -- so no entry is unused if the tool of each was heard
  pub none_unused : ((e : Entry) → Contains (file_given (with_file inputs text)).entries e
      → heard (run_values (input_runs inputs)) (text_in kinds.Tool e.conditions) ≡ true)
      → unused_in (with_file inputs text) ≡ 0
