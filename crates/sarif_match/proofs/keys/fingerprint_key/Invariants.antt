use Rattle.std.proofs.Common.{◌≡◌, drop}
use Rattle.sarif_match.specs.Key.{value_of}
use Rattle.sarif_match.proofs.keys.fingerprint_key.Given as goal

abbrev pub invariant-loop-own : goal.invariant-loop-own
invariant-loop-own l =
    value_of l.name (drop l.own-index l.finding.full) ≡ value_of l.name l.finding.full
