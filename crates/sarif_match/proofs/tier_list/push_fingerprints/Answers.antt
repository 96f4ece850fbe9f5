use Rattle.std.proofs.Common.{◌++◌, List, map, Bor, ℕ, ap, ◌∙◌, arith}
use Rattle.std.specs.BTreeSet.{keys}
use Rattle.std.proofs.lemmas.List.{take_all}
use Rattle.sarif_match.specs.declared.tier.Tier.{Tier}
use Rattle.sarif_match.specs.declared.tier.Tier.TheVariants.{Fingerprint}
use Rattle.sarif_match.proofs.NameLemmas.{fingerprints-reverse}
use Rattle.sarif_match.proofs.tier_list.push_fingerprints.Goals as goal

pub returns : goal.returns
returns c =
    let all = take_all c.loop-name.name-index c.deref-name-items.result.now (omega arith) ∙ c.deref-name-items.ensures.value ∙ c.in_ok-descending.ensures in
    c.loop-name.invariant ∙ ap
    (λ (names : List (Bor (List ℕ))). c.args.tiers.now.items ++ map (λ (name : Bor (List ℕ)). Fingerprint name.now) names) all
    ∙ ap (λ (tiers : List Tier). c.args.tiers.now.items ++ tiers) (fingerprints-reverse (keys c.args.names.now))
