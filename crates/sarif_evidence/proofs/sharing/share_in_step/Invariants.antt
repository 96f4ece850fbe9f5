use Rattle.std.proofs.Common.{◌≡◌, None, true, drop}
use Rattle.sarif_evidence.specs.Evidence.{share_member}
use Rattle.sarif_evidence.specs.Internal.Rising.{rises_from}
use Rattle.sarif_evidence.specs.Seen.{filled}
use Rattle.sarif_evidence.proofs.sharing.share_in_step.Given as goal

abbrev pub invariant-loop-member : goal.invariant-loop-member
invariant-loop-member l = record {
  told : share_member (filled (drop l.member-index l.members)) (filled l.rest) ≡ share_member (filled l.members) (filled l.others);
  rises : rises_from None l.rest ≡ true;
}
