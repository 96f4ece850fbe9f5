use Rattle.std.proofs.Common.{◌≡◌, drop, false}
use Rattle.sarif_links.specs.Address.{has_two_signs}
use Rattle.sarif_links.proofs.address.has_two_signs.Given as goal

abbrev pub invariant-loop-byte : goal.invariant-loop-byte
invariant-loop-byte l = has_two_signs l.after_hash (drop l.byte-index l.bytes) ≡ has_two_signs false l.bytes
