-- The findings of results that are shown, each with what it does to the gate.
use Rattle.std.specs.Prelude.{Bool, true, false, List, ◌++◌, Option, Some, None, drop, length, map, take}
use Rattle.std.specs.List.{filter_map}
use Rattle.sarif_counts.specs.declared.gate_verdict.Impact.{Impact}
use Rattle.sarif_findings.specs.declared.finding.Finding.{Finding}
use Rattle.sarif_findings.specs.declared.reporting.Reporting.{Reporting}
use Rattle.sarif_log.specs.Internal.Copied.{masked}
use Rattle.sarif_model.specs.declared.kinds.State.TheVariants.{Absent}
use Rattle.sarif_prepare.specs.Internal.Leftover.{not_taken}
use Rattle.sarif_prepare.specs.Internal.Limiting.{put_each}
use Rattle.sarif_prepare.specs.Internal.Telling.{pair_at, told_each}
use Rattle.sarif_prepare.specs.declared.pairing.Sides.{Sides}
use Rattle.sarif_runs.specs.Internal.Opened.{placed_of}
use Rattle.sarif_runs.specs.Internal.Spots.{spots_from}

-- a result isn't shown
abbrev pub is_hidden : Option Impact → Bool
is_hidden None = true
is_hidden (Some impact) = false

-- what the results that are shown do to the gate
abbrev pub all_shown : List (Option Impact) → List Impact
all_shown shown = filter_map (λ impact. impact) shown

abbrev pub put_impact : Finding → Impact → Finding
put_impact found impact = record found { impact = impact }

abbrev pub put_impacts : List Finding → List Impact → List Finding
put_impacts found impacts = put_each put_impact found impacts

-- the findings of the results of logs that are shown
abbrev pub told_here : Sides → List (Option Impact) → Reporting → List Finding
told_here sides shown reporting =
    told_each reporting (map (pair_at (map placed_of sides.current.now.runs.items))
    (spots_from 0 (map placed_of sides.current.now.runs.items))) sides.current.now.drafts.items
    (masked (map is_hidden shown) sides.paired.now.states.items)

-- the findings of the results that are left of baselines and are shown
abbrev pub told_there : Sides → List (Option Impact) → Reporting → List Finding
told_there sides shown reporting =
    told_each reporting (map (pair_at (map placed_of sides.baselines.now.runs.items))
    (not_taken sides.paired.now.taken.items sides.baselines.now.spots.items))
    sides.paired.now.left.items
    (masked (map is_hidden shown) (map (λ _. Some Absent) sides.paired.now.left.items))

-- the findings of all results that are shown, each with what it does to the gate; those of logs come first
abbrev pub told_parts : Sides → List (Option Impact) → Reporting → List Finding
told_parts sides shown reporting =
    let n = length sides.current.now.drafts.items in
    put_impacts (told_here sides (take n shown) reporting) (all_shown (take n shown))
    ++ put_impacts (told_there sides (drop n shown) reporting) (all_shown (drop n shown))
