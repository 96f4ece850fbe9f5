use Rattle.std.proofs.Common.{◌≡◌, ℕ, List, ◌++◌, map, length, chars}
use Rattle.serde_json.specs.View.{view}
use Rattle.sarif_findings.specs.Links.{unlinked}
use Rattle.sarif_findings.specs.Placeholders.{filled_from}
use Rattle.sarif_findings.specs.Internal.ShownSoFar.{shown_with}
use Rattle.sarif_findings.specs.Internal.Unlinked.{left}
use Rattle.sarif_findings.proofs.placeholders.push_filled.Given as goal

abbrev pub decreases-loop-c : goal.decreases-loop-c
decreases-loop-c l = length l.rest.rest.now

abbrev pub invariant-loop-c : goal.invariant-loop-c
invariant-loop-c l =
    (more : List ℕ) → shown_with l.fn.so_far (filled_from (map view l.fn.args) 0 (unlinked (map view l.fn.args) (chars l.fn.text)) ++ more)
    ≡ shown_with l.so_far (filled_from (map view l.fn.args) l.skip (left l.rest) ++ more)
