use Rattle.std.proofs.Common.{◌≡◌, ◌++◌, map, take}
use Rattle.sarif_match.specs.declared.tier.Tier.TheVariants.{Fingerprint}
use Rattle.sarif_match.proofs.tier_list.push_fingerprints.Given as goal

abbrev pub invariant-loop-name : goal.invariant-loop-name
invariant-loop-name l =
    l.tiers.items ≡ l.fn.tiers.items ++ map (λ name. Fingerprint name.now) (take l.name-index l.name-items)
