use Rattle.std.proofs.Common.{◌≡◌, ◌+◌, ◌≤◌, drop}
use Rattle.serde_json.specs.View.{items_view, members_view}
use Rattle.sarif_model.specs.Limits.{most_bytes}
use Rattle.sarif_accept.specs.Internal.Weighing.{item_lines, member_lines}
use Rattle.sarif_accept.proofs.indentation.+indentation.Given as goal

-- what was left is so much more than the lines so far
abbrev pub invariant-left_after_items-loop-item : goal.invariant-left_after_items-loop-item
invariant-left_after_items-loop-item l =
    (l.rest ≤ most_bytes) × (l.left + item_lines l.width (items_view (drop l.item-index l.item-items)) ≡ l.rest + item_lines l.width (items_view l.item-items))

abbrev pub invariant-left_after_members-loop-member : goal.invariant-left_after_members-loop-member
invariant-left_after_members-loop-member l =
    (l.rest ≤ most_bytes) × (l.left + member_lines l.width (members_view l.member-iterator) ≡ l.rest + member_lines l.width (members_view l.members.entries))
