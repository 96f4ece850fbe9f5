-- The marks of chosen hits, from the drafts of results.
use Rattle.std.specs.Prelude.{ℕ, ◌+◌, Bool, false, not, ◌&&◌, List, [], ◌∷◌, get_or, Option, Some, None, if◌then◌else◌}
use Rattle.std.specs.Option.{option_map_or}
use Rattle.serde_json.specs.Data.{Data}
use Rattle.sarif_choice.specs.Choice.{is_chosen}
use Rattle.sarif_choice.specs.declared.choice.Choice.{Choice}
use Rattle.sarif_choice.specs.declared.choice.Unfit.{Unfit}
use Rattle.sarif_entries.specs.File.{File}
use Rattle.sarif_findings.specs.Reported.{are_shown}
use Rattle.sarif_findings.specs.declared.reporting.Reporting.{Reporting}
use Rattle.sarif_model.specs.MergeFault.{out_of_memory}
use Rattle.sarif_model.specs.declared.kinds.State.{State}
use Rattle.sarif_model.specs.declared.merge_fault.MergeFault.{MergeFault}
use Rattle.sarif_model.specs.declared.refusal.Refusal.{Refusal}
use Rattle.sarif_model.specs.declared.refusal.Refusal.TheVariants as refusal
use Rattle.sarif_prepare.specs.Chosen.{at_of, chosen_merge}
use Rattle.sarif_prepare.specs.Told.{of_all}
use Rattle.sarif_prepare.specs.declared.asked.Asked.{Asked}
use Rattle.sarif_prepare.specs.declared.ruled.RuledSides.{RuledSides}
use Rattle.sarif_choice.specs.declared.choice.Choosing.{Choosing}
use Rattle.sarif_prepare.specs.Internal.Telling.{told_as}
use Rattle.sarif_results.specs.declared.draft.Draft.{Draft}
use Rattle.sarif_policy.specs.declared.condition.GateCondition.{GateCondition}
use Rattle.sarif_runs.specs.Placed.{Placed}
use Rattle.sarif_scope.specs.declared.gated.GatedChange.{GatedChange}
use Rattle.sarif_upkeep.specs.Life.{no_hit}
use Rattle.sarif_upkeep.specs.Merge.{Merge}

-- whether a result is shown, by its draft and its state
abbrev pub is_told : Reporting → Draft → Option State → Bool
is_told reporting draft None = false
is_told reporting draft (Some state) =
    are_shown reporting state draft.level && not draft.suppressed

-- the marks, from the one with number n on, of the results that are shown, and false for the others
abbrev pub spread_told : Reporting → List Draft → List (Option State) → List Bool → ℕ
    → List Bool
spread_told reporting [] states marks n = []
spread_told reporting (draft ∷ drafts) [] marks n = []
spread_told reporting (draft ∷ drafts) (state ∷ states) marks n =
    if is_told reporting draft state
    then get_or marks n false ∷ spread_told reporting drafts states marks (n + 1)
    else false ∷ spread_told reporting drafts states marks n

-- the marks of the hits among the results of logs, and false for the others; if conditions decide, their hits
abbrev pub spread_by : Option RuledSides → Reporting → List Draft → List (Option State) → List Bool
    → List Bool
spread_by None reporting drafts states marks = spread_told reporting drafts states marks 0
spread_by (Some ruled) reporting drafts states marks =
    spread_told (of_all reporting) drafts ruled.states.items marks 0

-- whether each of these results, with its run, is shown and chosen
abbrev pub marked_each : Reporting → Choice → List (Data × Data) → List Draft
    → List (Option State) → List Bool
marked_each reporting choice [] drafts states = []
marked_each reporting choice (found ∷ more) [] states = []
marked_each reporting choice (found ∷ more) (draft ∷ drafts) [] = []
marked_each reporting choice (found ∷ more) (draft ∷ drafts) (state ∷ states) =
    option_map_or (is_chosen choice) (told_as reporting found.0 found.1 draft state) false
    ∷ marked_each reporting choice more drafts states

-- the error of a merge whose choice is rejected
abbrev pub rejected : Refusal Unfit → MergeFault
rejected (refusal.Fault unfit) = no_hit (at_of unfit)
rejected refusal.OutOfMemory = out_of_memory

-- the merge of these runs with this choice, and with the conditions and the change if there are some
abbrev pub merge_with : Option (List GateCondition) → File → Option GatedChange → Asked → Choosing
    → List Placed → List Placed → Merge
merge_with conditions file change asked choosing current_runs baseline_runs =
    chosen_merge conditions asked.options.now.checks file None change asked.options.now.policy
    (Some choosing) current_runs baseline_runs
