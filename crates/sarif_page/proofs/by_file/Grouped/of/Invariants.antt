use Rattle.std.proofs.Common.{take}
use Rattle.sarif_page.specs.Internal.ByFile.{IsGrouped, findings_in}
use Rattle.sarif_page.proofs.by_file.Grouped.of.Given as goal

abbrev pub invariant-loop-finding : goal.invariant-loop-finding
invariant-loop-finding l = IsGrouped l.most (findings_in (take l.finding-index l.findings)) l.grouped
