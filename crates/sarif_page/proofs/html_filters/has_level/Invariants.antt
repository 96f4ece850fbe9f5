use Rattle.std.proofs.Common.{◌≡◌, drop}
use Rattle.std.specs.List.{list_any}
use Rattle.sarif_counts.specs.Tally.{same_level}
use Rattle.sarif_page.specs.Internal.ByFile.{findings_in}
use Rattle.sarif_page.proofs.html_filters.has_level.Given as goal

abbrev pub invariant-loop-finding : goal.invariant-loop-finding
invariant-loop-finding l =
    list_any (λ f. same_level l.level f.level) (findings_in (drop l.finding-index l.findings))
    ≡ list_any (λ f. same_level l.level f.level) (findings_in l.findings)
