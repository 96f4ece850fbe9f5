use Rattle.std.proofs.Common.{◌≡◌, take, map}
use Rattle.sarif_change.specs.Parts.{plain}
use Rattle.sarif_change.proofs.parts.plain_copy.Given as goal

abbrev pub invariant-loop-byte : goal.invariant-loop-byte
invariant-loop-byte l = l.copy.items ≡ map plain (take l.byte-index l.path)
