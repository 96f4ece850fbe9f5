use Rattle.std.proofs.Common.{◌≡◌, ◌++◌, map, take}
use Rattle.sarif_match.specs.declared.tier.Tier.TheVariants.{FingerprintHere}
use Rattle.sarif_match.proofs.finer_tiers.push_fingerprints_here.Given as goal

abbrev pub invariant-loop-name : goal.invariant-loop-name
invariant-loop-name l =
    l.tiers.items ≡ l.fn.tiers.items ++ map (λ name. FingerprintHere name.now) (take l.name-index l.name-items)
