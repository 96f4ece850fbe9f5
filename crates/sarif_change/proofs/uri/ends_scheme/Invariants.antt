use Rattle.std.proofs.Common.{◌≡◌, drop}
use Rattle.sarif_change.specs.Uri.{ends_scheme}
use Rattle.sarif_change.proofs.uri.ends_scheme.Given as goal

abbrev pub invariant-loop-byte : goal.invariant-loop-byte
invariant-loop-byte l = ends_scheme (drop l.byte-index l.bytes) ≡ ends_scheme l.bytes
