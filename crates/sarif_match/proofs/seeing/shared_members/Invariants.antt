use Rattle.std.proofs.Common.{◌≡◌, take}
use Rattle.sarif_match.proofs.seeing.shared_members.Given as goal

abbrev pub invariant-loop-member : goal.invariant-loop-member
invariant-loop-member l = l.shared ≡ take l.member-index l.members
