use Rattle.std.proofs.Common.{◌≡◌, ◌&&◌, bytes_eq, drop}
use Rattle.std.specs.List.{list_any}
use Rattle.sarif_evidence.specs.Seen.{filled}
use Rattle.sarif_evidence.proofs.sharing.has_member.Given as goal

abbrev pub invariant-loop-other : goal.invariant-loop-other
invariant-loop-other l =
    list_any (λ other. bytes_eq other.0 l.member.0 && bytes_eq other.1 l.member.1) (filled (drop l.other-index l.members))
    ≡ list_any (λ other. bytes_eq other.0 l.member.0 && bytes_eq other.1 l.member.1) (filled l.members)
