use Rattle.std.proofs.Common.{◌≡◌, ◌≤◌}
use Rattle.std.specs.Bool.{OnTrue}
use Rattle.sarif_collect.specs.Collecting.{all_after}
use Rattle.sarif_dispatch.specs.Ends.{IsDeskOf, taken_by}
use Rattle.sarif_collect.specs.Pieces.{carried, ends_in, parcels_in}
use Rattle.sarif_gather.proofs.gathering.receiving.receive.Given as goal

abbrev pub invariant-loop : goal.invariant-loop
invariant-loop g l =
    (goal.iterator-loop g).can_next l.iterator' × (goal.iterator-loop g).is_finite l.iterator' × IsDeskOf l.mailbox l.desk
    × (l.ended ≤ l.started) × (ends_in (parcels_in (taken_by l.desk)) ≡ l.ended)
    × OnTrue l.is_whole (l.collector ≡ all_after l.fn.collector (carried (parcels_in (taken_by l.desk))))
