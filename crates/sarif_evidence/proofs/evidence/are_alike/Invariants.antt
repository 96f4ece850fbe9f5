use Rattle.std.proofs.Common.{◌≡◌, drop}
use Rattle.sarif_evidence.specs.EqualParts.{pairs_eq}
use Rattle.sarif_evidence.specs.Seen.{filled}
use Rattle.sarif_evidence.proofs.evidence.are_alike.Given as goal

abbrev pub invariant-loop-member : goal.invariant-loop-member
invariant-loop-member l =
    pairs_eq (filled (drop l.member-index l.members)) (filled l.rest) ≡ pairs_eq (filled l.members) (filled l.others)
