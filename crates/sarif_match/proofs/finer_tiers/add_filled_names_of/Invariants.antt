use Rattle.std.proofs.Common.{◌≡◌, map, drop}
use Rattle.std.specs.BTreeSet.{keys}
use Rattle.sarif_evidence.specs.Seen.{filled}
use Rattle.sarif_match.specs.Tiers.{with_names}
use Rattle.sarif_match.proofs.finer_tiers.add_filled_names_of.Given as goal

abbrev pub invariant-loop-fingerprint : goal.invariant-loop-fingerprint
invariant-loop-fingerprint l =
    with_names (map (λ name. name.now) (keys l.names)) (map (λ pair. pair.0) (filled (drop l.fingerprint-index l.fingerprints)))
    ≡ with_names (map (λ name. name.now) (keys l.fn.names)) (map (λ pair. pair.0) (filled l.fingerprints))
