use Rattle.std.proofs.Common.{◌≡◌, map, take}
use Rattle.sarif_evidence.specs.Seen.{as_matched}
use Rattle.sarif_evidence.specs.declared.version.MatchingVersion.TheVariants.{Two}
use Rattle.sarif_upkeep.proofs.showing.have_no_snippets.Given as goal

-- those so far have none
abbrev pub invariant-loop-record : goal.invariant-loop-record
invariant-loop-record l =
    map (λ r. as_matched Two r.now) (take l.record-index l.accepted) ≡ map (λ r. r.now) (take l.record-index l.accepted)
