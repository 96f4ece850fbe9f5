use Rattle.std.proofs.Common.{◌≡◌, List, ℕ, take}
use Rattle.sarif_match.specs.declared.tier.Tier.TheVariants.{Fingerprint}
use Rattle.sarif_match.specs.Internal.Named.{with_parts, group_at}
use Rattle.sarif_match.specs.Partners.{keyed_from}
use Rattle.sarif_match.proofs.named.by_name.Given as goal

abbrev pub invariant-loop-number : goal.invariant-loop-number
invariant-loop-number g l =
    (name : List ℕ) → with_parts (group_at l.named name) ≡ keyed_from (Fingerprint name) 0 (take l.number l.findings)
