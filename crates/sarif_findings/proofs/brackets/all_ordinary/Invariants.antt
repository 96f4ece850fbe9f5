use Rattle.std.proofs.Common.{◌≡◌, ◌&&◌, drop}
use Rattle.std.specs.List.{list_all}
use Rattle.sarif_findings.specs.Internal.Brackets.{is_ordinary}
use Rattle.sarif_findings.proofs.brackets.all_ordinary.Given as goal

abbrev pub invariant-loop-byte : goal.invariant-loop-byte
invariant-loop-byte l =
    (l.all && list_all is_ordinary (drop l.byte-index l.bytes)) ≡ list_all is_ordinary l.bytes
