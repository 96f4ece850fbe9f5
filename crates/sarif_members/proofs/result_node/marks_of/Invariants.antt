use Rattle.std.proofs.Common.{◌≡◌, ℕ, length}
use Rattle.serde_json.specs.Data.{Members, object}
use Rattle.json_parts.specs.Indexed.{data_of}
use Rattle.json_parts.specs.Internal.Walking.{put_all, MembersAre}
use Rattle.sarif_members.proofs.Marked.{AreAllMarked}
use Rattle.sarif_members.proofs.result_node.marks_of.Given as goal

abbrev pub invariant-members : goal.invariant-members
invariant-members l =
    (n : ℕ) × (rest : Members) × MembersAre n l.members rest
    × ((done : Members) × (data_of l.node ≡ object (put_all rest done)) × AreAllMarked l.marks done × (length l.marks ≡ 32))

abbrev pub decreases-members : goal.decreases-members
decreases-members l = length l.members
