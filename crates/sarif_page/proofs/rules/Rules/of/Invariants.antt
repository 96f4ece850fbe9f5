use Rattle.std.proofs.Common.{take}
use Rattle.std.specs.List.{filter}
use Rattle.sarif_page.specs.HtmlRules.{has_rule}
use Rattle.sarif_page.specs.Internal.ByFile.{findings_in}
use Rattle.sarif_page.specs.Internal.Rules.{IsTally}
use Rattle.sarif_page.proofs.rules.Rules.of.Given as goal

abbrev pub invariant-loop-finding : goal.invariant-loop-finding
invariant-loop-finding l = IsTally (filter has_rule (findings_in (take l.finding-index l.findings))) l.rules
