use Rattle.std.proofs.Common.{◌≡◌, List, ℕ, [], ◌++◌, take}
use Rattle.std.specs.Option.{option_map}
use Rattle.sarif_match.specs.Key.{value_of}
use Rattle.sarif_match.specs.KeyParts.{fingerprint_parts}
use Rattle.sarif_match.specs.Internal.Named.{with_parts, group_at}
use Rattle.sarif_match.specs.Partners.{with_key}
use Rattle.sarif_match.proofs.named.add_finding.Given as goal

abbrev pub invariant-loop-name : goal.invariant-loop-name
invariant-loop-name g l =
    (q : List ℕ) → with_parts (group_at l.named q) ≡ with_parts (group_at l.fn.named q)
    ++ with_key l.number (option_map (λ value. fingerprint_parts l.finding.tool q value) (value_of q (take l.name-index l.name-items))) []
