use Rattle.std.proofs.Common.{◌≡◌, ◌||◌, drop}
use Rattle.std.specs.List.{list_any}
use Rattle.sarif_shown.specs.Internal.EscapedBytes.{escapes}
use Rattle.sarif_shown.specs.declared.escaping.Escaping.TheVariants.{Page}
use Rattle.sarif_shown.proofs.escaping.is_any_replaced_in_page.Given as goal

abbrev pub invariant-loop-byte : goal.invariant-loop-byte
invariant-loop-byte l =
    (l.any || list_any (escapes Page) (drop l.byte-index l.bytes)) ≡ list_any (escapes Page) l.bytes
