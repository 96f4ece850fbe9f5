-- What accepting leaves in the next merge, if the gate checks only a change.
use Rattle.std.specs.Prelude.{◌≡◌, ℕ, Bool, true, List, Some}
use Rattle.sarif_options.specs.declared.policy.Policy.{Policy}
use Rattle.sarif_options.specs.declared.upkeep.Renewal.{Renewal}
use Rattle.sarif_accept.specs.Choosing.{Marks, is_chosen_at}
use Rattle.sarif_inputs.specs.Inputs.{Inputs, input_runs}
use Rattle.sarif_merge.specs.Life.{merge_in}
use Rattle.sarif_merge.specs.MergedLog.{file_given}
use Rattle.sarif_merge.specs.OwnResult.{IsResult, number_among_all}
use Rattle.sarif_outside.specs.Marks.{outside_marks}
use Rattle.sarif_prepare.specs.Hidden.{active_of, drafts_of}
use Rattle.sarif_scope.specs.Inside.{is_inside}
use Rattle.sarif_scope.specs.declared.gated.GatedChange.{GatedChange}
use Rattle.sarif_upkeep.specs.Hiding.{looked_at}
use Rattle.sarif_upkeep.specs.Merge.{Merge}
use Rattle.sarif_laws.specs.Choosing.{LeavesOthers}
use Rattle.sarif_laws.specs.Hits.{is_hit_in, stays_in}
use Rattle.sarif_laws.specs.NextMerge.{merged_result, merged_run_at, with_file}

-- the merge of these inputs under this policy with these chosen hits, if not all hits are; its gate checks the change
abbrev pub merge_inside : Inputs → Policy → Marks → Merge
merge_inside inputs policy marks = record (merge_in inputs policy) { chosen = marks }

-- which of its results are hidden from the gate: those that are active and outside of the change
abbrev pub hidden_inside : Inputs → GatedChange → List Bool
hidden_inside inputs change =
    outside_marks change (input_runs inputs)
    (active_of (drafts_of (file_given inputs) (input_runs inputs)))

-- which of its results are chosen and not hidden from the gate
abbrev pub marks_inside : Inputs → GatedChange → Marks → Marks
marks_inside inputs change marks = Some (looked_at (hidden_inside inputs change) marks)

-- with this suppression file the merge of the same inputs leaves what it leaves if the chosen hits that aren't hidden
-- are chosen; a current result is inside of the change exactly if it was; and a chosen one that is inside is a hit
-- exactly if it was one that stays
pub record LeavesInside (inputs : Inputs) (change : GatedChange) (policy : Policy) (marks : Marks)
    (renewal : Renewal) (text : List ℕ) : Type 0 where
  pub others : LeavesOthers inputs policy (marks_inside inputs change marks) renewal text
  pub inside : (k seq : ℕ) → IsResult inputs k seq
      → is_inside change (merged_run_at (with_file inputs text) k)
      (merged_result (with_file inputs text) k seq)
      ≡ is_inside change (merged_run_at inputs k) (merged_result inputs k seq)
  pub hits : (k seq : ℕ) → IsResult inputs k seq
      → is_chosen_at marks (number_among_all inputs k seq) ≡ true
      → is_inside change (merged_run_at inputs k) (merged_result inputs k seq) ≡ true
      → is_hit_in policy (merged_result (with_file inputs text) k seq)
      ≡ stays_in policy (merged_result inputs k seq)
