use Rattle.std.proofs.Common.{◌≡◌, drop}
use Rattle.sarif_evidence.specs.Seen.{filled}
use Rattle.sarif_evidence.specs.Evidence.{share_member}
use Rattle.sarif_evidence.proofs.sharing.share_any.Given as goal

abbrev pub invariant-loop-member : goal.invariant-loop-member
invariant-loop-member l =
    share_member (filled (drop l.member-index l.members)) (filled l.others) ≡ share_member (filled l.members) (filled l.others)
