use Rattle.std.proofs.Common.{◌≡◌, drop}
use Rattle.sarif_evidence.specs.Seen.{filled}
use Rattle.sarif_evidence.proofs.evidence.has_filled.Given as goal

abbrev pub invariant-loop-member : goal.invariant-loop-member
invariant-loop-member l =
    filled (drop l.member-index l.members) ≡ filled l.members
