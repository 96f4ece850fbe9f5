use Rattle.std.proofs.Common.{◌≡◌, drop}
use Rattle.sarif_evidence.specs.Seen.{packed}
use Rattle.sarif_evidence.proofs.evidence.is_white_alone.Given as goal

abbrev pub invariant-loop-byte : goal.invariant-loop-byte
invariant-loop-byte l =
    packed (drop l.byte-index l.bytes) ≡ packed l.bytes
