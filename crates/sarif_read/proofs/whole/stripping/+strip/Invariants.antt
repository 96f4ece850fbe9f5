use Rattle.std.proofs.Common.{◌≡◌, ◌+◌, ◌*◌, take, map}
use Rattle.serde_json.specs.Data.{depth, items_depth, members_depth}
use Rattle.serde_json.specs.View.{view, items_view, members_view}
use Rattle.sarif_read.specs.Stripping.{stripped}
use Rattle.sarif_read.proofs.whole.stripping.+strip.Given as goal

abbrev pub decreases-strip_in_place : goal.decreases-strip_in_place
decreases-strip_in_place l = 3 * depth (view l.value.now)

abbrev pub decreases-strip_items : goal.decreases-strip_items
decreases-strip_items l = 3 * items_depth (items_view l.items.now.items) + 1

abbrev pub decreases-strip_members : goal.decreases-strip_members
decreases-strip_members l = 3 * members_depth (members_view l.members.now.entries) + 2

abbrev pub decreases-strip_members-retain : goal.decreases-strip_members-retain
decreases-strip_members-retain l = 3 * depth (view l.member.now) + 1

abbrev pub invariant-strip_items-loop-item : goal.invariant-strip_items-loop-item
invariant-strip_items-loop-item l =
    goal.unvisited-strip_items-loop-item l × (map view (take l.item-index l.item-items) ≡ map (λ v. stripped (view v)) (take l.item-index l.initial.item-items))
