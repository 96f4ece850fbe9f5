-- For the contracts between workers and the writing of the log. A draft is a written result without its baseline
-- state, which is known only after matching.
use Rattle.std.specs.Prelude.{◌≡◌, ℕ, ◌+◌, is_some, option_map, Bool, true, false, ◌&&◌, List, [], ◌∷◌, ◌++◌, take, drop, length, Option, Some, None, codes, unwrap_or, ⊤}
use Rattle.std.specs.List.{flat_map, list_any}
use Rattle.serde_json.specs.Data.{Data, string, object, Members}
use Rattle.serde_json.specs.View.{members_view}
use Rattle.serde_json.specs.Written.{comma_if, compact_text, members_have_float}
use Rattle.json_parts.specs.Internal.Around.{surrounding, filled}
use Rattle.sarif_counts.specs.Counts.{same_state}
use Rattle.sarif_counts.specs.Hits.{Count, count_if}
use Rattle.sarif_counts.specs.Tally.{same_level, same_side}
use Rattle.sarif_model.specs.declared.kinds.State.{State}
use Rattle.sarif_model.specs.declared.kinds.State.TheVariants.{Absent}
use Rattle.sarif_model.specs.Members.{elements}
use Rattle.sarif_model.specs.State.{state_name}
use Rattle.sarif_results.specs.declared.draft.Draft.{Draft}
use Rattle.sarif_log.specs.declared.run_parts.RunParts.{RunParts}
use Rattle.sarif_model.specs.Run.{results_array, results_of, present}
use Rattle.sarif_log.specs.MergedRuns.{bare}
use Rattle.sarif_results.specs.Drafts.{members_in}

-- the state of a baseline result that no current one took
abbrev pub unless_taken : Bool → Option State
unless_taken true = None
unless_taken false = Some Absent

-- ---- strings

-- strings with commas between them
abbrev pub joined : Bool → List (List ℕ) → List ℕ
joined later [] = []
joined later (t ∷ ts) = comma_if later ++ (t ++ joined true ts)

-- the text of a result with this state
abbrev pub text_with : State → Draft → List ℕ
text_with state draft = filled draft.text (compact_text (string (state_name state)))

-- the text of a result in front of others, where it has a state and so is written
abbrev pub with_text : Option State → Draft → List (List ℕ) → List (List ℕ)
with_text None draft ts = ts
with_text (Some state) draft ts = text_with state draft ∷ ts

-- the JSON of the results that are written, one string for each
abbrev pub texts_of : List Draft → List (Option State) → List (List ℕ)
texts_of [] states = []
texts_of (draft ∷ drafts) [] = []
texts_of (draft ∷ drafts) (state ∷ states) = with_text state draft (texts_of drafts states)

-- the JSON of a run, with the JSON of its results if it is written with results
abbrev pub run_text : Members → Option (List (List ℕ)) → List ℕ
run_text ms None = compact_text (object ms)
run_text ms (Some ts) =
    filled (surrounding (codes "results") ms) (91 ∷ (joined false ts ++ 93 ∷ []))

-- ---- counts

-- what a result counts, where it is written
abbrev pub counts_as : Option State → Draft → Count
counts_as None draft s l b = 0
counts_as (Some state) draft s l b =
    count_if (same_state s state && (same_level l draft.level && same_side b draft.suppressed)) 1

abbrev pub tallied : List Draft → List (Option State) → Count
tallied [] states s l b = 0
tallied (draft ∷ drafts) [] s l b = 0
tallied (draft ∷ drafts) (state ∷ states) s l b =
    counts_as state draft s l b + tallied drafts states s l b

-- ---- runs

-- how many results a run has
abbrev pub count_in_parts : RunParts → ℕ
count_in_parts parts = unwrap_or parts.results 0

abbrev pub counts_in_parts : List RunParts → ℕ
counts_in_parts [] = 0
counts_in_parts (parts ∷ more) = count_in_parts parts + counts_in_parts more

-- a run's text, with these of its results
abbrev pub parts_text : RunParts → List Draft → List (Option State) → List ℕ
parts_text parts drafts states =
    run_text (members_view parts.members.entries)
    (option_map (λ _. texts_of drafts states) parts.results)

-- the JSON of runs in order, one string for each; the drafts and states are those of all their results
abbrev pub runs_texts : List RunParts → List Draft → List (Option State) → List (List ℕ)
runs_texts [] drafts states = []
runs_texts (parts ∷ more) drafts states =
    let n = count_in_parts parts in
    parts_text parts (take n drafts) (take n states)
    ∷ runs_texts more (drop n drafts) (drop n states)

abbrev pub text_if : Bool → List ℕ → List (List ℕ) → List (List ℕ)
text_if true t ts = t ∷ ts
text_if false t ts = ts

-- the JSON of only the runs that have a written result, one string for each
abbrev pub left_texts : List RunParts → List Draft → List (Option State) → List (List ℕ)
left_texts [] drafts states = []
left_texts (parts ∷ more) drafts states =
    let n = count_in_parts parts in
    text_if (list_any is_some (take n states))
    (parts_text parts (take n drafts) (take n states))
    (left_texts more (drop n drafts) (drop n states))

-- none of these runs holds a number with a fraction
abbrev pub IsWholeRun : RunParts → Type 0
IsWholeRun parts = members_have_float (members_view parts.members.entries) ≡ false

-- ---- runs of a log, and their parts

-- how many results a run of a log has, where it has an array of them
abbrev pub own_count : Data → Option ℕ
own_count run = option_map (λ ds. length (elements ds)) (results_array run)

-- how many of its results are there, for a run of a baseline
abbrev pub present_count : Data → Option ℕ
present_count run = Some (length (present (results_of run)))

-- parts are those of these runs, with these numbers of results
abbrev pub ArePartsOf : (Data → Option ℕ) → List RunParts → List Data → Type 0
ArePartsOf count [] [] = ⊤
ArePartsOf count [] (run ∷ runs) = ⊥
ArePartsOf count (parts ∷ more) [] = ⊥
ArePartsOf count (parts ∷ more) (run ∷ runs) =
    (members_view parts.members.entries ≡ bare (members_in run))
    × (parts.results ≡ count run)
    × ArePartsOf count more runs

-- the results of these runs that aren't marked as absent
abbrev pub present_results : List Data → List Data
present_results runs = flat_map (λ run. present (results_of run)) runs
