-- The findings of the results of a merged log, if they are requested.
use Rattle.std.specs.Prelude.{List, [], flat_map, Option, Some, None}
use Rattle.serde_json.specs.Data.{Data}
use Rattle.sarif_findings.specs.declared.finding.Finding.{Finding}
use Rattle.sarif_findings.specs.declared.reporting.Reporting.{Reporting}
use Rattle.sarif_findings.specs.Reported.{finding_if, reported_in}
use Rattle.sarif_scope.specs.Inside.{results_inside}
use Rattle.sarif_scope.specs.declared.gated.GatedChange.{GatedChange}
use Rattle.std.specs.List.{filter_map}

-- if no report is requested, there are no findings
abbrev pub if_asked : Option Reporting → (Reporting → List Finding) → List Finding
if_asked None told = []
if_asked (Some reporting) told = told reporting

-- the findings of the shown results of a run that are inside of a change
abbrev pub reported_inside : GatedChange → Reporting → Data → List Finding
reported_inside change reporting run =
    filter_map (finding_if reporting run) (results_inside change run)

-- the findings of these runs of a merged log
abbrev pub told_of : Option Reporting → List Data → List Finding
told_of asked runs = if_asked asked (λ reporting. flat_map (reported_in reporting) runs)

-- the findings of these runs, with a change or without one
abbrev pub told_by : Option GatedChange → Option Reporting → List Data → List Finding
told_by None asked runs = told_of asked runs
told_by (Some change) asked runs =
    if_asked asked (λ reporting. flat_map (reported_inside change reporting) runs)
