use Rattle.std.proofs.Common.{◌≡◌, ◌++◌, drop, map, string_bytes}
use Rattle.sarif_shown.specs.AzureReport.{azure_lines_of}
use Rattle.sarif_shown.proofs.azure_lines.azure_lines.Given as goal

abbrev pub invariant-loop-finding : goal.invariant-loop-finding
invariant-loop-finding l =
    string_bytes l.text ++ azure_lines_of (map (λ f. f.now) (drop l.finding-index l.findings)) ≡ azure_lines_of (map (λ f. f.now) l.findings)
