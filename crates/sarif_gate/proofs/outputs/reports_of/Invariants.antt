use Rattle.std.proofs.Common.{◌≡◌, map, take}
use Rattle.sarif_program.specs.Reports.{report_failures}
use Rattle.sarif_gate.specs.Named.{report_channel, report_named}
use Rattle.sarif_gate.proofs.outputs.reports_of.Given as goal

abbrev pub invariant-loop-name : goal.invariant-loop-name
invariant-loop-name l =
    (map report_channel l.outputs.items ≡ map report_named (take l.name-index l.names)) × (report_failures l.outputs.items ≡ 0)
