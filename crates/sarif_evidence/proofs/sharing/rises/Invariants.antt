use Rattle.std.proofs.Common.{◌≡◌, None, drop}
use Rattle.std.specs.Option.{option_copied}
use Rattle.sarif_evidence.specs.Internal.Rising.{rises_from}
use Rattle.sarif_evidence.proofs.sharing.rises.Given as goal

abbrev pub invariant-loop-member : goal.invariant-loop-member
invariant-loop-member l =
    rises_from (option_copied l.before) (drop l.member-index l.members) ≡ rises_from None l.members
