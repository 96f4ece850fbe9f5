-- What matching says about a current result, without a policy.
use Rattle.std.specs.Prelude.{Bool, false, not, Option, Some, None}
use Rattle.sarif_model.specs.declared.record.Record.{Record}
use Rattle.sarif_evidence.specs.declared.version.MatchingVersion.{MatchingVersion}
use Rattle.sarif_evidence.specs.declared.version.MatchingVersion.TheVariants.{Two, Three}
use Rattle.sarif_evidence.specs.Evidence.{has_evidence, state_in}
use Rattle.sarif_evidence.specs.Seen.{seen}
use Rattle.sarif_known.specs.declared.standing.Standing.{Standing}

-- whether a current result has this match, but nothing shows that the two are the same; in version 2 each match shows it
abbrev pub is_doubtful : MatchingVersion → Record → Option Record → Bool
is_doubtful Two current partner = false
is_doubtful Three current None = false
is_doubtful Three current (Some partner) = not (has_evidence (seen current) (seen partner))

-- its state with this match, and whether that is doubtful
abbrev pub standing_of : MatchingVersion → Record → Option Record → Standing
standing_of version current partner =
    record {
      state = state_in version current partner;
      doubtful = is_doubtful version current partner;
      would_hit = None;
    }
