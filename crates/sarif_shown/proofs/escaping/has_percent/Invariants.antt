use Rattle.std.proofs.Common.{◌≡◌, ◌||◌, drop}
use Rattle.std.specs.List.{list_any}
use Rattle.sarif_shown.specs.Internal.EscapedBytes.{escapes}
use Rattle.sarif_shown.specs.declared.escaping.Escaping.TheVariants.{Message}
use Rattle.sarif_shown.proofs.escaping.has_percent.Given as goal

abbrev pub invariant-loop-byte : goal.invariant-loop-byte
invariant-loop-byte l =
    (l.any || list_any (escapes Message) (drop l.byte-index l.bytes)) ≡ list_any (escapes Message) l.bytes
