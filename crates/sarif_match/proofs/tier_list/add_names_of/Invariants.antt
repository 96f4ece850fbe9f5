use Rattle.std.proofs.Common.{◌≡◌, map, drop}
use Rattle.std.specs.BTreeSet.{keys}
use Rattle.sarif_match.specs.Tiers.{with_names}
use Rattle.sarif_match.proofs.tier_list.add_names_of.Given as goal

abbrev pub invariant-loop-name : goal.invariant-loop-name
invariant-loop-name l =
    with_names (map (λ name. name.now) (keys l.names)) (map (λ pair. pair.0) (drop l.name-index l.fingerprints))
    ≡ with_names (map (λ name. name.now) (keys l.fn.names)) (map (λ pair. pair.0) l.fingerprints)
