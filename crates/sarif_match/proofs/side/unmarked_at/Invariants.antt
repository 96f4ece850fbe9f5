use Rattle.std.proofs.Common.{◌≡◌, take}
use Rattle.sarif_match.specs.Internal.Named.{with_parts, unmarked}
use Rattle.sarif_match.specs.Partners.{keyed_from}
use Rattle.sarif_match.proofs.side.unmarked_at.Given as goal

abbrev pub invariant-loop-number : goal.invariant-loop-number
invariant-loop-number l =
    with_parts l.left.items ≡ unmarked l.marks (keyed_from l.tier 0 (take l.number l.findings))
