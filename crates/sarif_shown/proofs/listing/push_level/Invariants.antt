use Rattle.std.proofs.Common.{◌≡◌, ◌++◌, drop, map}
use Rattle.sarif_shown.specs.Listed.{doing, of_level}
use Rattle.sarif_shown.proofs.listing.push_level.Given as goal

abbrev pub invariant-loop-finding : goal.invariant-loop-finding
invariant-loop-finding l =
    map (λ f. f.now) l.listed.items ++ of_level l.level (doing l.impact (drop l.finding-index l.findings))
    ≡ map (λ f. f.now) l.fn.listed.items ++ of_level l.level (doing l.impact l.findings)
