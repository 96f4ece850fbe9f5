-- The item of a result's value.
use Rattle.serde_json.specs.Data.{Data}
use Rattle.sarif_model.specs.Members.{◌>>=◌}
use Rattle.sarif_model.specs.Driver.{tool_name}
use Rattle.sarif_runs.specs.Head.{head_of}
use Rattle.sarif_runs.specs.Record.{record_in}
use Rattle.sarif_runs.specs.declared.item.Item.{Item}
use Rattle.sarif_runs.specs.declared.run_options.RecordOptions.{RecordOptions}
use Rattle.sarif_runs.specs.Judging.{item_by}

-- the record of this value as a result of the run, or the first error
abbrev pub record_item : RecordOptions → Data → Data → Item
record_item options run found =
    item_by (head_of run >>= λ head. record_in options head (tool_name run) found)
