use Rattle.std.proofs.Common.{◌≡◌, drop}
use Rattle.sarif_match.specs.Key.{value_of}
use Rattle.sarif_match.proofs.finer_keys.fingerprint_here_key.Given as goal

abbrev pub invariant-loop-member : goal.invariant-loop-member
invariant-loop-member l =
    value_of l.name (drop l.member-index l.finding.full) ≡ value_of l.name l.finding.full
