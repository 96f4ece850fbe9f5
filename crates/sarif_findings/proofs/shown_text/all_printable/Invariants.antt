use Rattle.std.proofs.Common.{◌≡◌, ◌&&◌, drop}
use Rattle.std.specs.List.{list_all}
use Rattle.sarif_findings.specs.Internal.ShownSoFar.{is_printable}
use Rattle.sarif_findings.proofs.shown_text.all_printable.Given as goal

abbrev pub invariant-loop-byte : goal.invariant-loop-byte
invariant-loop-byte l =
    (l.all && list_all is_printable (drop l.byte-index l.bytes)) ≡ list_all is_printable l.bytes
