-- The findings of results before their log is written.
use Rattle.std.specs.Prelude.{not, ◌&&◌, List, [], ◌∷◌, map, Option, Some, None, if◌then◌else◌}
use Rattle.std.specs.List.{cons_option}
use Rattle.serde_json.specs.Data.{Data}
use Rattle.sarif_model.specs.declared.kinds.State.{State}
use Rattle.sarif_model.specs.Run.{result_at, results_of}
use Rattle.sarif_runs.specs.declared.spots.Spot.{Spot}
use Rattle.sarif_prepare.specs.Internal.Leftover.{found_at}
use Rattle.sarif_runs.specs.Internal.Opened.{placed_of}
use Rattle.sarif_runs.specs.Placed.{Placed}
use Rattle.sarif_runs.specs.Internal.Spots.{placed_at}
use Rattle.sarif_findings.specs.declared.finding.Finding.{Finding}
use Rattle.sarif_findings.specs.declared.reporting.Reporting.{Reporting}
use Rattle.sarif_findings.specs.Reported.{are_shown, finding_of}
use Rattle.sarif_results.specs.declared.draft.Draft.{Draft}
use Rattle.sarif_model.specs.Run.{present}
use Rattle.sarif_prepare.specs.declared.told.ReportedResult.{ReportedResult}
use Rattle.sarif_prepare.specs.declared.told.ReportedRun.{ReportedRun}

-- the finding of a result of this run, by its draft and its state, if it is written and shown
abbrev pub told_as : Reporting → Data → Data → Draft → Option State → Option Finding
told_as reporting run result draft None = None
told_as reporting run result draft (Some state) =
    if are_shown reporting state draft.level && not draft.suppressed
    then Some (finding_of reporting run result draft.level state) else None

-- the findings of results, each with its run, that are written and shown
abbrev pub told_each : Reporting → List (Data × Data) → List Draft → List (Option State)
    → List Finding
told_each reporting [] drafts states = []
told_each reporting (found ∷ more) [] states = []
told_each reporting (found ∷ more) (draft ∷ drafts) [] = []
told_each reporting (found ∷ more) (draft ∷ drafts) (state ∷ states) =
    cons_option (told_as reporting found.0 found.1 draft state)
    (told_each reporting more drafts states)

-- results of a run, each with it
abbrev pub with_run : Data → List Data → List (Data × Data)
with_run run results = map (λ result. (run, result)) results

-- all results of a run
abbrev pub own_results : Data → List (Data × Data)
own_results run = with_run run (results_of run)

-- the results that are not already absent
abbrev pub present_in : Data → List (Data × Data)
present_in run = with_run run (present (results_of run))

-- the result at a place, with its run
abbrev pub pair_at : List Placed → Spot → Data × Data
pair_at runs spot = ((placed_at runs spot.run).run, found_at runs spot)

-- the run, as the definitions see it
abbrev pub placed_told : ReportedRun → Placed
placed_told run = placed_of run.opened.now

-- the finding of a reported result
abbrev pub told_by : Reporting → ReportedResult → Finding
told_by reporting told =
    finding_of reporting (placed_told told.run.now).run
    (result_at (placed_told told.run.now).run told.seq) told.level told.state
