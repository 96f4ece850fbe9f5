use Rattle.std.proofs.Common.{◌≡◌, fold, length, drop}
use Rattle.sarif_match.specs.Partners.{after_tier, partners_after}
use Rattle.sarif_match.specs.Internal.Progress.{IsSound}
use Rattle.sarif_match.proofs.matching.match_tiers.Given as goal

abbrev pub invariant-loop-tier : goal.invariant-loop-tier
invariant-loop-tier g l = record {
  sound : IsSound (length l.current) (length l.baseline) l.progress;
  told : fold (after_tier l.current l.baseline) l.progress.partners.items (drop l.tier-index l.tiers) ≡ partners_after l.current l.baseline l.tiers;
}
