use Rattle.std.proofs.Common.{◌≡◌, drop}
use Rattle.sarif_evidence.specs.Internal.Rising.{from_name}
use Rattle.sarif_evidence.proofs.sharing.from_name.Given as goal

abbrev pub invariant-loop-number : goal.invariant-loop-number
invariant-loop-number l = from_name l.name (drop l.number l.members) ≡ from_name l.name l.members
