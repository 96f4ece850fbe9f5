use Rattle.std.proofs.Common.{◌≡◌, ◌+◌, map, drop}
use Rattle.sarif_model.specs.Limits.{most_bytes}
use Rattle.sarif_accept.specs.Internal.Weighing.{weights_of}
use Rattle.sarif_accept.proofs.weighing.are_too_long.Given as goal

-- what was left is so much more than what the results so far weigh
abbrev pub invariant-loop-record : goal.invariant-loop-record
invariant-loop-record l =
    most_bytes + weights_of l.renewal (map (λ r. r.now) (drop l.record-index l.added)) ≡ l.left + weights_of l.renewal (map (λ r. r.now) l.added)
