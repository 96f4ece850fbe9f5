use Rattle.std.proofs.Common.{◌≡◌, ◌++◌, length}
use Rattle.sarif_change.specs.Internal.Keys.{joined}
use Rattle.sarif_change.specs.Parts.{pieces_of, parts_after_up}
use Rattle.sarif_change.proofs.parts.key_of_turned.Given as goal

abbrev pub invariant-loop-rest : goal.invariant-loop-rest
invariant-loop-rest l = l.key.items ++ joined (parts_after_up (pieces_of l.rest)) ≡ joined (parts_after_up (pieces_of l.turned))

abbrev pub decreases-loop-rest : goal.decreases-loop-rest
decreases-loop-rest l = length l.rest
