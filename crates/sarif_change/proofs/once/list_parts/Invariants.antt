use Rattle.std.proofs.Common.{◌≡◌, ◌++◌, length, map}
use Rattle.sarif_change.specs.Parts.{pieces_of}
use Rattle.sarif_change.proofs.once.list_parts.Given as goal

abbrev pub invariant-loop-rest : goal.invariant-loop-rest
invariant-loop-rest l = map (λ part. part.now) l.parts.items ++ pieces_of l.rest ≡ pieces_of l.key

abbrev pub decreases-loop-rest : goal.decreases-loop-rest
decreases-loop-rest l = length l.rest
