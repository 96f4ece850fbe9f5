use Rattle.std.proofs.Common.{◌≡◌, map, drop}
use Rattle.serde_json.specs.View.{view}
use Rattle.sarif_model.specs.Members.{read_each}
use Rattle.sarif_entries.specs.Entries.{text_or}
use Rattle.sarif_model.proofs.ReadEach.{before}
use Rattle.sarif_entries.proofs.read_condition.texts_of.Given as goal

abbrev pub invariant-loop-value : goal.invariant-loop-value
invariant-loop-value l =
    before l.texts (read_each (text_or l.wrong) (map view (drop l.value-index l.values)))
    ≡ read_each (text_or l.wrong) (map view l.values)
