use Rattle.std.proofs.Common.{◌≡◌, drop}
use Rattle.sarif_evidence.specs.Seen.{filled}
use Rattle.sarif_evidence.proofs.evidence.after_first_member.Given as goal

abbrev pub invariant-loop-number : goal.invariant-loop-number
invariant-loop-number l =
    filled (drop l.number l.members) ≡ filled l.members
