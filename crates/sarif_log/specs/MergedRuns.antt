-- The runs of a merged log: each input run with its results annotated, then each baseline run that has a result
-- which no current result is paired with (SARIF 2.1.0, "run object").
use Rattle.std.specs.Prelude.{Bool, true, false, not, List, [], ◌∷◌, take, drop, length, Option, Some, None, codes, option_and_then}
use Rattle.serde_json.specs.Data.{Data, array, Items, Members, put}
use Rattle.serde_json.specs.Find.{as_array, get_member}
use Rattle.serde_json.specs.View.{items_of}
use Rattle.json_parts.specs.Without.{without}
use Rattle.sarif_model.specs.declared.kinds.State.{State}
use Rattle.sarif_model.specs.declared.kinds.State.TheVariants.{Absent}
use Rattle.sarif_model.specs.declared.record.Record.{Record}
use Rattle.sarif_model.specs.Members.{elements}
use Rattle.sarif_model.specs.Run.{results_of, present}
use Rattle.sarif_results.specs.Annotated.{on_members, own_suppressions, annotated_members}
use Rattle.sarif_results.specs.Drafts.{Listing}

-- a run's members with these results, if the run has results, and without its baseline's GUID
abbrev pub with_results : Option Items → Members → Members
with_results None ms = ms
with_results (Some ds) ms = put (codes "results") (array ds) ms

-- a run without its results
abbrev pub bare : Members → Members
bare ms = without (codes "baselineGuid") (without (codes "results") ms)

abbrev pub own_results : Members → Option Items
own_results ms = option_and_then as_array (get_member (codes "results") ms)

-- a result as it is written, by its record and its baseline state
abbrev pub written : Listing → Record → State → Data → Data
written listed r state =
    on_members (λ ms. annotated_members r.level state
    (items_of (listed r (elements (own_suppressions ms)))) ms)

-- ---- input runs

-- each result by its record and its state, in order
abbrev pub written_all : Listing → List Record → List State → List Data → List Data
written_all listed [] states ds = ds
written_all listed (r ∷ rs) [] ds = ds
written_all listed (r ∷ rs) (state ∷ states) [] = []
written_all listed (r ∷ rs) (state ∷ states) (d ∷ ds) =
    written listed r state d ∷ written_all listed rs states ds

abbrev pub annotated_items : Listing → List Record → List State → Option Items → Option Items
annotated_items listed rs states None = None
annotated_items listed rs states (Some ds) =
    Some (items_of (written_all listed rs states (elements ds)))

abbrev pub merged_run : Listing → List Record → List State → Data → Data
merged_run listed rs states =
    on_members (λ ms. with_results (annotated_items listed rs states (own_results ms)) (bare ms))

-- the runs in order; the records and states are those of all their results, in the order of runs and results
abbrev pub merged_runs : Listing → List Record → List State → List Data → List Data
merged_runs listed rs states [] = []
merged_runs listed rs states (run ∷ runs) =
    let count = length (results_of run) in
    merged_run listed (take count rs) (take count states) run
    ∷ merged_runs listed (drop count rs) (drop count states) runs

abbrev pub keep_if : Bool → Data → List Data → List Data
keep_if true d ds = d ∷ ds
keep_if false d ds = ds

-- the results that no current result matches, annotated as absent, with their own suppressions
abbrev pub unmatched : List Record → List Bool → List Data → List Data
unmatched [] taken ds = []
unmatched (r ∷ rs) [] ds = []
unmatched (r ∷ rs) (t ∷ taken) [] = []
unmatched (r ∷ rs) (t ∷ taken) (d ∷ ds) =
    keep_if (not t) (written (λ _ own. own) r Absent d) (unmatched rs taken ds)

abbrev pub with_absent : List Data → Data → Data
with_absent ds = on_members (λ ms. with_results (Some (items_of ds)) (bare ms))

-- a baseline run with these results, if there are any
abbrev pub if_any : List Data → Data → List Data → List Data
if_any [] run runs = runs
if_any (d ∷ ds) run runs = with_absent (d ∷ ds) run ∷ runs

-- the runs in order; the records and marks are those of all their results that aren't absent already
abbrev pub absent_runs : List Record → List Bool → List Data → List Data
absent_runs rs taken [] = []
absent_runs rs taken (run ∷ runs) =
    let ds = present (results_of run) in
    if_any (unmatched (take (length ds) rs) (take (length ds) taken) ds) run
    (absent_runs (drop (length ds) rs) (drop (length ds) taken) runs)
