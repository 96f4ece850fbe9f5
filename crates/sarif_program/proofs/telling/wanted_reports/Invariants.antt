use Rattle.std.proofs.Common.{◌≡◌, take}
use Rattle.sarif_program.specs.Reports.{wanted_reports}
use Rattle.sarif_program.proofs.telling.wanted_reports.Given as goal

abbrev pub invariant-loop-wanted : goal.invariant-loop-wanted
invariant-loop-wanted g l = l.reports.items ≡ wanted_reports (take l.wanted-index l.writers)
