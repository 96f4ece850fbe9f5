use Rattle.std.proofs.Common.{◌≡◌, map, drop}
use Rattle.sarif_read.specs.Internal.Listed.{value_at}
use Rattle.sarif_model.specs.Members.{read_each}
use Rattle.sarif_model.specs.Suppression.{status_of}
use Rattle.sarif_model.proofs.ReadEach.{before}
use Rattle.sarif_members.proofs.own_members.indexed.suppressions.statuses_of.Given as goal

abbrev pub invariant-loop-suppression : goal.invariant-loop-suppression
invariant-loop-suppression l =
    before l.held (read_each status_of (map value_at (drop l.suppression-index l.suppressions)))
    ≡ read_each status_of (map value_at l.suppressions)
