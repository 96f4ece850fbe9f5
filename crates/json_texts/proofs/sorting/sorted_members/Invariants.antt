use Rattle.std.proofs.Common.{◌≡◌, ◌≤◌, ℕ, suc, length}
use Rattle.json.specs.Json.{Members, no_members, object}
use Rattle.json_parts.specs.Indexed.{json_at}
use Rattle.json_parts.specs.Internal.Walking.{depth_of}
use Rattle.json_texts.specs.Internal.Walking.{MembersStand, AreWritable, in_order, members_at, nesting}
use Rattle.json_texts.proofs.sorting.sorted_members.Given as goal

abbrev pub invariant-members : goal.invariant-members
invariant-members l =
    (n : ℕ) × (rest : Members) × MembersStand n l.members rest × (depth_of l.element ≡ suc n)
    × ((ms : Members) × (json_at l.element ≡ object ms) × (in_order ms no_members ≡ in_order rest (members_at l.list.items)))
    × AreWritable l.list.items × (nesting l.list.items ≤ n)

abbrev pub decreases-members : goal.decreases-members
decreases-members l = length l.members
