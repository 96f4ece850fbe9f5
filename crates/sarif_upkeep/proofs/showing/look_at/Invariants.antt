use Rattle.std.proofs.Common.{◌≡◌, map, take}
use Rattle.sarif_evidence.specs.Seen.{as_matched}
use Rattle.sarif_upkeep.proofs.showing.look_at.Given as goal

-- what the version reads from the results so far
abbrev pub invariant-loop-record : goal.invariant-loop-record
invariant-loop-record l = l.shown.items ≡ map (λ r. as_matched l.version r.now) (take l.record-index l.accepted)
