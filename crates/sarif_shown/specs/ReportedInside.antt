-- The shown results of a merged log: with a change, those inside of it.
use Rattle.std.specs.Prelude.{List, Option, Some, None, codes, flat_map}
use Rattle.std.specs.List.{filter_map}
use Rattle.serde_json.specs.Data.{Data}
use Rattle.sarif_findings.specs.declared.finding.Finding.{Finding}
use Rattle.sarif_findings.specs.declared.reporting.Reporting.{Reporting}
use Rattle.sarif_findings.specs.Lookup.{elements_in}
use Rattle.sarif_findings.specs.Reported.{finding_if, reported_of}
use Rattle.sarif_scope.specs.Inside.{results_inside}
use Rattle.sarif_scope.specs.declared.gated.GatedChange.{GatedChange}

-- the findings of the shown results of a run that are inside of a change
abbrev pub reported_inside : GatedChange → Reporting → Data → List Finding
reported_inside change reporting run =
    filter_map (finding_if reporting run) (results_inside change run)

-- the findings of the shown results of a log, with a change or without one
abbrev pub reported_by : Option GatedChange → Reporting → Data → List Finding
reported_by None reporting log = reported_of reporting log
reported_by (Some change) reporting log =
    flat_map (reported_inside change reporting) (elements_in (codes "runs") log)
