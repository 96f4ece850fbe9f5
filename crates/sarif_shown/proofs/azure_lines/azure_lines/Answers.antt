use Rattle.sarif_shown.specs.AzureReport.{azure_line}
use Rattle.sarif_shown.proofs.LinesMore.{texts_step}
use Rattle.sarif_shown.proofs.azure_lines.azure_lines.Goals as goal

pub loop-finding-preserved : goal.loop-finding-preserved
loop-finding-preserved c =
    texts_step azure_line c.args.findings.now c.loop-finding.finding-index c.finding-item.result _ _ _ c.loop-finding-test.true c.finding-item.is
    c.in_ok-push_line.ensures c.loop-finding.invariant
