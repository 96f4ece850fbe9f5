use Rattle.std.proofs.Common.{◌≡◌, drop, true}
use Rattle.sarif_links.specs.Address.{goes_on}
use Rattle.sarif_links.proofs.address.goes_on.Given as goal

abbrev pub invariant-loop-byte : goal.invariant-loop-byte
invariant-loop-byte l = goes_on l.in_host (drop l.byte-index l.bytes) ≡ goes_on true l.bytes
