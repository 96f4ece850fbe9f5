use Rattle.std.proofs.Common.{◌≡◌, take}
use Rattle.sarif_filing.specs.Internal.Prefixes.{hash_of}
use Rattle.sarif_filing.proofs.prefixes.hash_of.Given as goal

-- the hash of what was gone through
abbrev pub invariant-loop-byte : goal.invariant-loop-byte
invariant-loop-byte l = l.hash ≡ hash_of l.base (take l.byte-index l.text)
