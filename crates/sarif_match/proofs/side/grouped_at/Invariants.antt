use Rattle.std.proofs.Common.{◌≡◌, take}
use Rattle.sarif_match.specs.Internal.Named.{keyed_at, with_parts, unmarked}
use Rattle.sarif_match.proofs.side.grouped_at.Given as goal

abbrev pub invariant-loop-number : goal.invariant-loop-number
invariant-loop-number l =
    with_parts l.left.items ≡ unmarked l.marks (keyed_at l.tier l.findings (take l.number-index l.group))
