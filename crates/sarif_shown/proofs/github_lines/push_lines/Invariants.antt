use Rattle.std.proofs.Common.{◌≡◌, ◌++◌, drop, flat_map, map, string_bytes}
use Rattle.sarif_shown.specs.GithubReport.{github_line}
use Rattle.sarif_shown.proofs.github_lines.push_lines.Given as goal

abbrev pub invariant-loop-finding : goal.invariant-loop-finding
invariant-loop-finding l =
    string_bytes l.text ++ flat_map github_line (map (λ f. f.now) (drop l.finding-index l.listed))
    ≡ string_bytes l.fn.text ++ flat_map github_line (map (λ f. f.now) l.listed)
