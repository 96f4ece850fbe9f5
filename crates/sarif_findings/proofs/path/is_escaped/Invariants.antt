use Rattle.std.proofs.Common.{◌≡◌, drop}
use Rattle.sarif_findings.specs.PathOf as said
use Rattle.sarif_findings.proofs.path.is_escaped.Given as goal

abbrev pub invariant-loop-i : goal.invariant-loop-i
invariant-loop-i l = said.is_escaped (drop l.i l.uri) ≡ said.is_escaped l.uri
