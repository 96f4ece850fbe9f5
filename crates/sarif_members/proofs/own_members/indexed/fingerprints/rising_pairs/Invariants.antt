use Rattle.std.proofs.Common.{◌≡◌, ℕ, length}
use Rattle.serde_json.specs.Data.{Members, object}
use Rattle.json_parts.specs.Indexed.{data_of}
use Rattle.json_parts.specs.Internal.Ordered.{AreMembersOrdered}
use Rattle.json_parts.specs.Internal.Walking.{put_all, MembersAre}
use Rattle.sarif_members.specs.Internal.Rising.{strings_of}
use Rattle.sarif_members.proofs.own_members.indexed.fingerprints.rising_pairs.Given as goal

abbrev pub invariant-members : goal.invariant-members
invariant-members l =
    (n : ℕ) × (rest : Members) × MembersAre n l.members rest × AreMembersOrdered (strings_of l.pairs)
    × (data_of l.node ≡ object (put_all rest (strings_of l.pairs)))

abbrev pub decreases-members : goal.decreases-members
decreases-members l = length l.members
