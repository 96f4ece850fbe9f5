use Rattle.std.proofs.Common.{◌≡◌, ℕ, suc, ◌+◌, ◌*◌, option_map, length}
use Rattle.serde_json.specs.Data.{Items, Members, array, object}
use Rattle.serde_json.specs.View.{members_view}
use Rattle.json_parts.specs.Indexed.{data_of}
use Rattle.json_parts.specs.Internal.Ordered.{AreMembersOrdered}
use Rattle.json_parts.specs.Stripping.{stripped_items}
use Rattle.json_parts.specs.Internal.Walking.{depth_of, put_all, ElementsAre, MembersAre, kept_members}
use Rattle.json_parts.proofs.Kept.{items_before}
use Rattle.json_parts.proofs.making.+making.Given as goal

abbrev pub decreases-make_value : goal.decreases-make_value
decreases-make_value l = 2 * depth_of l.node.now + 1

abbrev pub decreases-make_array : goal.decreases-make_array
decreases-make_array l = 2 * depth_of l.node.now

abbrev pub decreases-make_object : goal.decreases-make_object
decreases-make_object l = 2 * depth_of l.node.now

abbrev pub invariant-make_array-items : goal.invariant-make_array-items
invariant-make_array-items l =
    (n : ℕ) × (rest : Items) × ElementsAre n l.elements rest × (depth_of l.node ≡ suc n)
    × ((ds : Items) × (data_of l.node ≡ array ds) × (stripped_items ds ≡ items_before l.made.items (stripped_items rest)))

abbrev pub decreases-make_array-items : goal.decreases-make_array-items
decreases-make_array-items l = length l.elements

abbrev pub invariant-make_object-members : goal.invariant-make_object-members
invariant-make_object-members l =
    (n : ℕ) × (rest : Members) × MembersAre n l.members rest × (depth_of l.node ≡ suc n)
    × ((done : Members) × AreMembersOrdered done × (data_of l.node ≡ object (put_all rest done))
    × (members_view l.made.entries ≡ kept_members (option_map (λ s. s.now) l.left_out) done))

abbrev pub decreases-make_object-members : goal.decreases-make_object-members
decreases-make_object-members l = length l.members
