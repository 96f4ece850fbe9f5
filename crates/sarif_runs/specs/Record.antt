-- The record of a result: its own members, and what its run says about it (SARIF 2.1.0, "result object").
use Rattle.std.specs.Prelude.{ℕ, ◌||◌, List, [], Option, Some, None, Result, Ok, if◌then◌else◌, is_some, option_map, unwrap_or}
use Rattle.serde_json.specs.Data.{Data}
use Rattle.sarif_model.specs.declared.fault.Fault.{Fault}
use Rattle.sarif_members.specs.declared.parts.Parts.{Parts}
use Rattle.sarif_model.specs.declared.place.Place.{Place}
use Rattle.sarif_model.specs.declared.record.Record.{Record}
use Rattle.sarif_model.specs.Members.{◌>>=◌}
use Rattle.sarif_members.specs.OwnMembers.{parts_of}
use Rattle.sarif_model.specs.Driver.{tool_name}
use Rattle.sarif_model.specs.Run.{result_at}
use Rattle.sarif_runs.specs.declared.component.Descriptor.{Descriptor}
use Rattle.sarif_runs.specs.declared.component.Rule.{Rule}
use Rattle.sarif_runs.specs.declared.head.RunHead.{RunHead}
use Rattle.sarif_runs.specs.Descriptor.{reference_of, descriptor_of}
use Rattle.sarif_runs.specs.Level.{rule_at, level_of}
use Rattle.sarif_runs.specs.Place.{place_of}
use Rattle.sarif_runs.specs.Head.{head_of}
use Rattle.sarif_runs.specs.Ignoring.{without_names}
use Rattle.sarif_runs.specs.declared.run_options.RecordOptions.{RecordOptions}

-- the id of a descriptor's rule
abbrev pub descriptor_id : List (List Rule) → Option Descriptor → Option (List ℕ)
descriptor_id components None = None
descriptor_id components (Some d) = option_map (λ rule. rule.id) (rule_at components d)

-- the result's own id, otherwise its descriptor's id, otherwise the empty string
abbrev pub rule_id_of : List (List Rule) → Option (List ℕ) → Option Descriptor → List ℕ
rule_id_of components (Some id) descriptor = id
rule_id_of components None descriptor = unwrap_or (descriptor_id components descriptor) []

-- a region or a snippet is that of an artifact: without a URI and a base there is none
abbrev pub if_placed : {X : Type 0} → Place → Option X → Option X
if_placed place found = if is_some place.uri || is_some place.base then found else None

-- the record of a result with these own members, without the fingerprints of these names, in a run with that head and
-- that tool
unfoldable pub record_by : List (List ℕ) → RunHead → List ℕ → Parts → Result Record Fault
record_by ignored head tool parts = do
  descriptor ← descriptor_of head.components (reference_of parts)
  level ← level_of head parts
  place ← place_of head.artifacts parts
  Ok (record {
    tool = tool;
    rule_id = rule_id_of head.components parts.rule_id descriptor;
    kind = parts.kind;
    level = level;
    message = parts.message;
    place = place;
    guid = parts.guid;
    full = without_names ignored parts.full;
    partial = without_names ignored parts.partial;
    held = parts.held;
    region = if_placed place parts.region;
    snippet = if_placed place parts.snippet;
    admitted = [];
  })

-- the record of a result of a run with that head and that tool, or its first error
unfoldable pub record_in : RecordOptions → RunHead → List ℕ → Data → Result Record Fault
record_in options head tool result =
    parts_of options.regions result >>= record_by options.ignored head tool

-- the record of the result with that number, or the first error
unfoldable pub record_of : RecordOptions → Data → ℕ → Result Record Fault
record_of options run seq = do
  head ← head_of run
  record_in options head (tool_name run) (result_at run seq)
