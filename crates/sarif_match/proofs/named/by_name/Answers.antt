use Rattle.std.proofs.Common.{◌+◌, ◌≤◌, ℕ, List, length, take, subst, sym, arith}
use Rattle.std.proofs.lemmas.List.{length-take-le}
use Rattle.sarif_match.specs.declared.tier.Tier.TheVariants.{Fingerprint}
use Rattle.sarif_match.specs.KeyParts.{KeyParts}
use Rattle.sarif_match.specs.Internal.Named.{AreNumberedBelow}
use Rattle.sarif_match.proofs.NamedLemmas.{AreNumberedBelow-keyed_from, groups_step}
use Rattle.sarif_match.proofs.named.by_name.Goals as goal

pub add_finding-requires : goal.add_finding-requires
add_finding-requires g c = λ q.
    let i = c.loop-number.number in
    let within : 0 + length (take i c.args.findings.now) ≤ i = omega (arith, length-take-le i c.args.findings.now (omega arith)) in
    subst (λ (keyed : List (ℕ × KeyParts)). AreNumberedBelow i keyed) (sym (c.loop-number.invariant q))
    (AreNumberedBelow-keyed_from (Fingerprint q) 0 i (take i c.args.findings.now) within)

pub loop-number-preserved : goal.loop-number-preserved
loop-number-preserved g c = λ q.
    groups_step (Fingerprint q) c.args.findings.now c.loop-number.number c.index-findings-number.result _ _ c.index-findings-number.is
    c.loop-number-test.true (c.in_ok-add_finding.ensures q) (c.loop-number.invariant q)
