-- The results of a merge as the conditions of its policy see them: the current ones and then those that are absent.
use Rattle.std.specs.Prelude.{Bool, true, false, not, ◌&&◌, List, [], ◌∷◌, ◌++◌, Option, Some, None, map, if◌then◌else◌}
use Rattle.std.specs.List.{list_any}
use Rattle.sarif_change.specs.declared.spots.Scope.{Scope}
use Rattle.sarif_change.specs.declared.spots.Scope.TheVariants.{Lines, Files}
use Rattle.sarif_conditions.specs.Judged.{Judged}
use Rattle.sarif_entries.specs.File.{File}
use Rattle.sarif_entries.specs.Matching.{hold}
use Rattle.sarif_heard.specs.Heard.{heard}
use Rattle.sarif_model.specs.declared.kinds.State.{State}
use Rattle.sarif_model.specs.declared.kinds.State.TheVariants.{Absent}
use Rattle.sarif_model.specs.declared.record.Record.{Record}
use Rattle.sarif_outside.specs.Marks.{in_scope, outside_marks}
use Rattle.sarif_policy.specs.declared.condition.GateCondition.{GateCondition}
use Rattle.sarif_policy.specs.declared.rating.Rating.{Rating}
use Rattle.sarif_policy.specs.declared.rating.Rating.TheVariants.{Missing}
use Rattle.sarif_ratings.specs.Ratings.{rating_at, rating_in}
use Rattle.sarif_read.specs.Unmarked.{unmarked}
use Rattle.sarif_results.specs.declared.draft.Draft.{Draft}
use Rattle.sarif_runs.specs.Internal.Spots.{spots_from}
use Rattle.sarif_runs.specs.Judging.{run_values}
use Rattle.sarif_runs.specs.Placed.{Placed}
use Rattle.sarif_scope.specs.declared.gated.GatedChange.{GatedChange}
use Rattle.sarif_deciding.specs.Asked.{asks_scope, ratchets, rates}
use Rattle.sarif_deciding.specs.Matched.{Matched}
use Rattle.sarif_deciding.specs.Present.{all_present}

-- ---- lists side by side

-- what conditions see of a result besides its record, its state and its draft
pub record Seen : Type 0 where
  pub rating : Rating
  pub in_lines : Bool
  pub in_files : Bool
  pub is_gone : Bool

abbrev pub seen_all : List Rating → List Bool → List Bool → List Bool → List Seen
seen_all [] lines files gone = []
seen_all (rating ∷ ratings) [] files gone = []
seen_all (rating ∷ ratings) (line ∷ lines) [] gone = []
seen_all (rating ∷ ratings) (line ∷ lines) (file ∷ files) [] = []
seen_all (rating ∷ ratings) (line ∷ lines) (file ∷ files) (one ∷ gone) =
    record { rating = rating; in_lines = line; in_files = file; is_gone = one }
    ∷ seen_all ratings lines files gone

abbrev pub judged_by : Record → State → Draft → Seen → Judged
judged_by r state draft seen = record {
  found = r;
  state = state;
  level = draft.level;
  suppressed = draft.suppressed;
  rating = seen.rating;
  in_lines = seen.in_lines;
  in_files = seen.in_files;
  is_gone = seen.is_gone;
}

abbrev pub judged_all : List Record → List State → List Draft → List Seen → List Judged
judged_all [] states drafts seen = []
judged_all (r ∷ rs) [] drafts seen = []
judged_all (r ∷ rs) (state ∷ states) [] seen = []
judged_all (r ∷ rs) (state ∷ states) (draft ∷ drafts) [] = []
judged_all (r ∷ rs) (state ∷ states) (draft ∷ drafts) (one ∷ seen) =
    judged_by r state draft one ∷ judged_all rs states drafts seen

-- this value once for each of these results
abbrev pub for_each : {X : Type 0} → X → List Draft → List X
for_each x drafts = map (λ _. x) drafts

-- ---- current results

-- whether each of these results is active
abbrev pub active_of : List Draft → List Bool
active_of drafts = map (λ draft. not draft.suppressed) drafts

-- which results of these runs are inside the change in this scope; without a change all of them are
abbrev pub inside_by : Scope → Option GatedChange → List Placed → List Draft → List Bool
inside_by scope None runs drafts = for_each true drafts
inside_by scope (Some change) runs drafts =
    map not (outside_marks (in_scope scope change) runs (active_of drafts))

-- which results are inside the change in this scope if a condition requires it; otherwise all are treated as inside
abbrev pub inside_in : Scope → List GateCondition → Matched → List Bool
inside_in scope cs m =
    if asks_scope scope cs then inside_by scope m.change m.runs m.drafts
    else for_each true m.drafts

-- the ratings of the results if a condition requires them
abbrev pub current_ratings : List GateCondition → Matched → List Rating
current_ratings cs m =
    if rates cs then map (rating_at m.runs) (spots_from 0 m.runs) else for_each Missing m.drafts

abbrev pub current_seen : List GateCondition → Matched → List Seen
current_seen cs m =
    seen_all (current_ratings cs m) (inside_in Lines cs m) (inside_in Files cs m)
    (for_each false m.drafts)

abbrev pub current_results : List GateCondition → Matched → List Judged
current_results cs m = judged_all m.records m.states m.drafts (current_seen cs m)

-- ---- absent results

-- the ratings of the results if a condition requires them
abbrev pub absent_ratings : List GateCondition → Matched → List Rating
absent_ratings cs m =
    if rates cs
    then unmarked m.taken (map (λ found. rating_in found.0 found.1) (all_present m.before))
    else for_each Missing m.left

-- the tool of a result was heard in these input runs, and the result meets the conditions of no entry of the file,
-- neither of one that is expired nor of one with `max`
abbrev pub is_gone_by : File → List Placed → Record → Bool
is_gone_by file runs r =
    heard (run_values runs) (Some r.tool) && not (list_any (λ e. hold e.conditions r) file.entries)

-- which absent results went away, if a condition requires it
abbrev pub gone_in : List GateCondition → Matched → List Bool
gone_in cs m =
    if ratchets cs then map (is_gone_by m.file m.runs) (unmarked m.taken m.known)
    else for_each false m.left

-- no absent result is inside the change
abbrev pub absent_seen : List GateCondition → Matched → List Seen
absent_seen cs m =
    seen_all (absent_ratings cs m) (for_each false m.left) (for_each false m.left) (gone_in cs m)

abbrev pub absent_results : List GateCondition → Matched → List Judged
absent_results cs m =
    judged_all (unmarked m.taken m.known) (for_each Absent m.left) m.left (absent_seen cs m)

-- ---- all results

abbrev pub results_in : List GateCondition → Matched → List Judged
results_in cs m = current_results cs m ++ absent_results cs m
