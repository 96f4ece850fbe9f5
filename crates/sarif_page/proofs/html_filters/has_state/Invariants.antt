use Rattle.std.proofs.Common.{◌≡◌, drop}
use Rattle.std.specs.List.{list_any}
use Rattle.sarif_counts.specs.Counts.{same_state}
use Rattle.sarif_page.specs.Internal.ByFile.{findings_in}
use Rattle.sarif_page.proofs.html_filters.has_state.Given as goal

abbrev pub invariant-loop-finding : goal.invariant-loop-finding
invariant-loop-finding l =
    list_any (λ f. same_state l.state f.state) (findings_in (drop l.finding-index l.findings))
    ≡ list_any (λ f. same_state l.state f.state) (findings_in l.findings)
