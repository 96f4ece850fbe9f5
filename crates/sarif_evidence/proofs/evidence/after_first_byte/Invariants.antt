use Rattle.std.proofs.Common.{◌≡◌, drop}
use Rattle.sarif_evidence.specs.Seen.{packed}
use Rattle.sarif_evidence.proofs.evidence.after_first_byte.Given as goal

abbrev pub invariant-loop-number : goal.invariant-loop-number
invariant-loop-number l =
    packed (drop l.number l.bytes) ≡ packed l.bytes
