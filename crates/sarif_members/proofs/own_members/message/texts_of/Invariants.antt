use Rattle.std.proofs.Common.{◌≡◌, map, drop}
use Rattle.serde_json.specs.View.{view as seen}
use Rattle.sarif_model.specs.Members.{read_each}
use Rattle.sarif_members.specs.OwnMembers.{text_of}
use Rattle.sarif_model.proofs.ReadEach.{before}
use Rattle.sarif_members.proofs.own_members.message.texts_of.Given as goal

abbrev pub invariant-loop-value : goal.invariant-loop-value
invariant-loop-value l =
    before l.texts (read_each text_of (map seen (drop l.value-index l.values)))
    ≡ read_each text_of (map seen l.values)
