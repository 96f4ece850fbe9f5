use Rattle.std.proofs.Common.{◌≡◌, map, drop}
use Rattle.std.specs.BTreeSet.{keys}
use Rattle.sarif_evidence.specs.Seen.{seen}
use Rattle.sarif_match.specs.Tiers.{with_names, names_of}
use Rattle.sarif_match.proofs.finer_tiers.add_filled_names.Given as goal

abbrev pub invariant-loop-finding : goal.invariant-loop-finding
invariant-loop-finding l =
    with_names (map (λ name. name.now) (keys l.names)) (names_of (map seen (drop l.finding-index l.findings)))
    ≡ with_names (map (λ name. name.now) (keys l.fn.names)) (names_of (map seen l.findings))
