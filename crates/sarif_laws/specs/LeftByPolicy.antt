-- What accepting leaves in the next merge, if the conditions of a policy decide which results are hits.
use Rattle.std.specs.Prelude.{◌≡◌, ℕ, Bool, false, ◌&&◌, List, [], Option, Some, get_or, map, unwrap_or}
use Rattle.sarif_options.specs.declared.policy.Policy.{Policy}
use Rattle.sarif_options.specs.declared.upkeep.Renewal.{Renewal}
use Rattle.sarif_accept.specs.Choosing.{Marks}
use Rattle.sarif_choice.specs.declared.choice.Choosing.{Choosing}
use Rattle.sarif_conditions.specs.Decided.{is_hit}
use Rattle.sarif_deciding.specs.Results.{current_results}
use Rattle.sarif_findings.specs.Reported.{is_active}
use Rattle.sarif_inputs.specs.Inputs.{Inputs}
use Rattle.sarif_merge.specs.Life.{merge_counted}
use Rattle.sarif_merge.specs.OwnResult.{IsResult, number_among_all}
use Rattle.sarif_policy.specs.declared.condition.GateCondition.{GateCondition}
use Rattle.sarif_prepare.specs.Told.{any_policy}
use Rattle.sarif_upkeep.specs.Hiding.{looked_at}
use Rattle.sarif_upkeep.specs.Merge.{Merge}
use Rattle.sarif_laws.specs.Choosing.{LeavesOthers}
use Rattle.sarif_laws.specs.Decided.{matched_given}
use Rattle.sarif_laws.specs.NextMerge.{merged_result, with_file}

-- which results of a merge are chosen and not hidden from its gate
abbrev pub marks_shown : Merge → Marks
marks_shown m = Some (looked_at (unwrap_or m.hidden []) m.chosen)

-- whether this current result, by its number among all, is a hit of these conditions
abbrev pub is_hit_given : List GateCondition → Inputs → ℕ → Bool
is_hit_given cs inputs n =
    get_or (map (is_hit cs) (current_results cs (matched_given inputs))) n false

-- with this suppression file the merge of the same inputs leaves what it leaves if the hits of the conditions that are
-- chosen are accepted, and no other active result; and a current result is a hit of the conditions exactly if it was one
-- and is active
pub record LeavesByPolicy (inputs : Inputs) (policy : Policy) (choice : Option Choosing)
    (cs : List GateCondition) (renewal : Renewal) (text : List ℕ) : Type 0 where
  pub others : LeavesOthers inputs any_policy (marks_shown (merge_counted inputs policy choice))
      renewal text
  pub hits : (k seq : ℕ) → IsResult inputs k seq
      → is_hit_given cs (with_file inputs text) (number_among_all inputs k seq)
      ≡ (is_hit_given cs inputs (number_among_all inputs k seq)
      && is_active (merged_result (with_file inputs text) k seq))
