use Rattle.std.proofs.Common.{◌≡◌, ◌≤◌, drop, length}
use Rattle.serde_json.specs.View.{members_view}
use Rattle.sarif_accept.specs.Entry.{asked_of, members_from, rows_of}
use Rattle.sarif_accept.proofs.asked.members_of.Given as goal

-- the members of the last kinds, from the one that is left
abbrev pub invariant-loop-left : goal.invariant-loop-left
invariant-loop-left l = record {
  within : l.left ≤ length l.kinds;
  members : members_view l.members.entries ≡ members_from (rows_of (asked_of l.record) (drop l.left l.kinds));
}

abbrev pub decreases-loop-left : goal.decreases-loop-left
decreases-loop-left l = l.left
