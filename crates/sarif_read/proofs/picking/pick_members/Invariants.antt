use Rattle.std.proofs.Common.{◌≡◌, map, drop}
use Rattle.serde_json.specs.Data.{no_members}
use Rattle.serde_json.specs.View.{members_view}
use Rattle.sarif_read.specs.Internal.Listed.{value_at}
use Rattle.sarif_read.specs.Internal.Picked.{picked_onto}
use Rattle.sarif_read.proofs.picking.pick_members.Given as goal

abbrev pub invariant-loop-name : goal.invariant-loop-name
invariant-loop-name l =
    picked_onto (members_view l.members.entries) (map (λ name. name.now) (drop l.name-index l.names)) (value_at l.node)
    ≡ picked_onto no_members (map (λ name. name.now) l.names) (value_at l.node)
