use Rattle.std.proofs.Common.{◌≡◌, map, drop}
use Rattle.sarif_read.specs.Internal.Listed.{value_at}
use Rattle.sarif_model.specs.Members.{read_each}
use Rattle.sarif_members.specs.OwnMembers.{text_of}
use Rattle.sarif_model.proofs.ReadEach.{before}
use Rattle.sarif_members.proofs.own_members.indexed.message.texts_of.Given as goal

abbrev pub invariant-loop-node : goal.invariant-loop-node
invariant-loop-node l =
    before l.texts (read_each text_of (map value_at (drop l.node-index l.nodes)))
    ≡ read_each text_of (map value_at l.nodes)
