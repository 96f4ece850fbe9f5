-- The meaning of the index of a side.
use Rattle.std.specs.Prelude.{◌≡◌, ◌<◌, ◌^◌, ℕ, List, length}
use Rattle.sarif_match.specs.declared.side.IndexedSide.{IndexedSide}
use Rattle.sarif_match.specs.declared.tier.Tier.TheVariants.{Fingerprint}
use Rattle.sarif_match.specs.Internal.Named.{with_parts, group_at}
use Rattle.sarif_match.specs.Partners.{keyed_from}

-- for each name the index has exactly the results with a key at that name's tier
pub record IsIndexed {S H : Type 0} (side : IndexedSide S H) : Type 0 where
  pub indexed : (name : List ℕ)
      → with_parts (group_at side.named name) ≡ keyed_from (Fingerprint name) 0 side.findings.now
  pub small : length side.findings.now < 2 ^ 32
