use Rattle.std.proofs.Common.{◌≡◌, drop}
use Rattle.std.specs.List.{list_any}
use Rattle.sarif_shown.specs.Internal.EscapedBytes.{escapes}
use Rattle.sarif_shown.proofs.escaping.Escaping.replaces_one.Given as goal

abbrev pub invariant-loop-byte : goal.invariant-loop-byte
invariant-loop-byte l =
    list_any (escapes l.fn.self) (drop l.byte-index l.bytes) ≡ list_any (escapes l.fn.self) l.bytes
