use Rattle.std.proofs.Common.{◌≡◌, ℕ, List, IfOk, sym, subst}
use Rattle.sarif_match.specs.declared.tier.Tier.{Tier}
use Rattle.sarif_match.specs.Internal.Named.{with_parts, group_at, keyed_at, unmarked}
use Rattle.sarif_match.specs.KeyParts.{KeyParts}
use Rattle.sarif_match.specs.Partners.{keyed_from}
use Rattle.sarif_match.proofs.NamedLemmas.{IfOk-with_parts, grouped_here}
use Rattle.sarif_match.proofs.side.IndexedSide.left_over.Goals as goal

pub returns-in-Fingerprint : goal.returns-in-Fingerprint
returns-in-Fingerprint g c =
    subst
    (λ (tier : Tier). IfOk c.unmarked_named.result
    (λ left. with_parts left.items ≡ unmarked c.args.marks.now (keyed_from tier 0 c.args.self.now.findings.now))) (sym c.in-Fingerprint.is)
    (IfOk-with_parts c.unmarked_named.result c.args.marks.now _ _ (c.requires.indexed c.in-Fingerprint.name) c.unmarked_named.ensures)

pub returns-in-FingerprintHere : goal.returns-in-FingerprintHere
returns-in-FingerprintHere g c =
    let findings = c.args.self.now.findings.now in
    let name = c.in-FingerprintHere.name in
    let group = group_at c.args.self.now.named name in
    let same : keyed_at c.args.tier.now findings group ≡ keyed_from c.args.tier.now 0 findings =
    subst (λ (tier : Tier). keyed_at tier findings group ≡ keyed_from tier 0 findings) (sym c.in-FingerprintHere.is)
    (grouped_here name findings group (c.requires.indexed name)) in
    subst (λ (keyed : List (ℕ × KeyParts)). IfOk c.named_at.result (λ left. with_parts left.items ≡ unmarked c.args.marks.now keyed)) same c.named_at.ensures
