use Rattle.std.proofs.Common.{◌≡◌, bytes_eq, drop}
use Rattle.sarif_evidence.specs.Seen.{packed}
use Rattle.sarif_evidence.proofs.evidence.are_same_packed.Given as goal

abbrev pub invariant-loop-byte : goal.invariant-loop-byte
invariant-loop-byte l =
    bytes_eq (packed (drop l.byte-index l.text)) (packed l.rest) ≡ bytes_eq (packed l.text) (packed l.other)
