use Rattle.std.proofs.Common.{◌≡◌, drop}
use Rattle.sarif_findings.specs.Finding as said
use Rattle.sarif_shown.proofs.place.begins_with_colon.Given as goal

abbrev pub invariant-loop-byte : goal.invariant-loop-byte
invariant-loop-byte l =
    said.begins_with_colon (drop l.byte-index l.byte-items) ≡ said.begins_with_colon l.fn.path
