use Rattle.std.proofs.Common.{◌≡◌, ◌++◌, drop}
use Rattle.sarif_change.specs.Uri.{decoded, decoded_from}
use Rattle.sarif_change.proofs.uri.decode.Given as goal

abbrev pub invariant-loop-at : goal.invariant-loop-at
invariant-loop-at l = l.bytes.items ++ decoded_from l.skipped (drop l.at l.uri) ≡ decoded l.uri
