-- A result's own members, each with a separate check, and all of them in the order of these checks (SARIF 2.1.0,
-- "result object"). Missing members and null pass each check that does not say "must".
use Rattle.std.specs.Prelude.{ℕ, Bool, List, [], Option, Some, None, Result, Ok, Err, codes, if◌then◌else◌, ⊤, option_and_then, unwrap_or}
use Rattle.std.specs.Option.{option_or}
use Rattle.serde_json.specs.Data.{Data}
use Rattle.serde_json.specs.Find.{as_str}
use Rattle.sarif_model.specs.declared.fault.Fault.{Fault}
use Rattle.sarif_model.specs.declared.fault.Fault.TheVariants.{AbsentInput, BadKind, BadLevel, BadGuid, BadSuppression, BadMember, BadIndex, BadLocation}
use Rattle.sarif_model.specs.declared.kinds.Kind.{Kind}
use Rattle.sarif_model.specs.declared.kinds.Kind.TheVariants.{Fail}
use Rattle.sarif_model.specs.declared.kinds.Level.{Level}
use Rattle.sarif_model.specs.declared.kinds.Status.{Status}
use Rattle.sarif_model.specs.declared.message.Message.{Message}
use Rattle.sarif_members.specs.declared.own_members.fingerprints.Fingerprints.{Fingerprints}
use Rattle.sarif_members.specs.declared.own_members.message.MessageAndRule.{MessageAndRule}
use Rattle.sarif_members.specs.declared.own_members.indexes.Indexes.{Indexes}
use Rattle.sarif_members.specs.declared.own_members.location.Location.{Location}
use Rattle.sarif_members.specs.declared.parts.Parts.{Parts}
use Rattle.sarif_model.specs.Kind.{kind_named}
use Rattle.sarif_model.specs.Level.{level_named}
use Rattle.sarif_model.specs.Guid.{guid_of_text}
use Rattle.sarif_members.specs.Fingerprints.{pairs_at}
use Rattle.sarif_members.specs.Regions.{own_region}
use Rattle.sarif_model.specs.Suppression.{status_of}
use Rattle.sarif_model.specs.Run.{is_absent_result}
use Rattle.sarif_model.specs.Members.{◌>>=◌, result_map, of_kind, member_at, text_at, object_at, elements_at, objects_at, index_at, if_there, first_of, if_object, read_each}

-- no result of a log may be marked as absent from it; another baseline state is ignored
abbrev pub check_present : Data → Result ⊤ Fault
check_present result = if is_absent_result result then Err AbsentInput else Ok tt

abbrev pub as_kind : Data → Option Kind
as_kind d = option_and_then kind_named (as_str d)

-- `fail` if it is missing
abbrev pub own_kind : Data → Result Kind Fault
own_kind result =
    result_map (λ kind. unwrap_or kind Fail)
    (of_kind BadKind as_kind (member_at (codes "kind") result))

abbrev pub as_level : Data → Option Level
as_level d = option_and_then level_named (as_str d)

abbrev pub own_level : Data → Result (Option Level) Fault
own_level result = of_kind BadLevel as_level (member_at (codes "level") result)

abbrev pub as_guid : Data → Option ℕ
as_guid d = option_and_then guid_of_text (as_str d)

-- `correlationGuid`, as a number
abbrev pub own_guid : Data → Result (Option ℕ) Fault
own_guid result = of_kind BadGuid as_guid (member_at (codes "correlationGuid") result)

unfoldable pub own_fingerprints : Data → Result Fingerprints Fault
own_fingerprints result = do
  full ← pairs_at (codes "fingerprints") result
  partial ← pairs_at (codes "partialFingerprints") result
  Ok (record { full = full; partial = partial })

-- the statuses of the suppressions, in order
unfoldable pub own_statuses : Data → Result (List Status) Fault
own_statuses result =
    objects_at BadSuppression (codes "suppressions") result >>= read_each status_of

abbrev pub text_of : Data → Result (List ℕ) Fault
text_of d = as_text (as_str d) where
  as_text : Option (List ℕ) → Result (List ℕ) Fault
  as_text None = Err BadMember
  as_text (Some text) = Ok text

-- the elements of an array of strings in an object that may be missing; empty if it is missing
abbrev pub texts_within : List ℕ → Option Data → Result (List (List ℕ)) Fault
texts_within name None = Ok []
texts_within name (Some d) = elements_at BadMember name d >>= read_each text_of

unfoldable pub own_message : Data → Result Message Fault
own_message result = do
  message ← object_at BadMember (codes "message") result
  text ← if_there (text_at BadMember (codes "text")) message
  id ← if_there (text_at BadMember (codes "id")) message
  args ← texts_within (codes "arguments") message
  Ok (record { text = text; id = id; args = args })

-- `ruleId`, otherwise `rule.id`
unfoldable pub own_rule_id : Data → Result (Option (List ℕ)) Fault
own_rule_id result = do
  own ← text_at BadMember (codes "ruleId") result
  rule ← object_at BadMember (codes "rule") result
  id ← if_there (text_at BadMember (codes "id")) rule
  _ ← if_there (object_at BadMember (codes "toolComponent")) rule
  Ok (option_or own id)

unfoldable pub own_message_and_rule : Data → Result MessageAndRule Fault
own_message_and_rule result = do
  message ← own_message result
  rule_id ← own_rule_id result
  _ ← object_at BadMember (codes "provenance") result
  Ok (record { message = message; rule_id = rule_id })

-- an index in an object that may be absent
abbrev pub index_within : List ℕ → Option Data → Result (Option ℕ) Fault
index_within name found = if_there (index_at BadIndex name) found

-- the component in `rule`
abbrev pub tool_component : Data → Option Data
tool_component result =
    option_and_then (member_at (codes "toolComponent")) (member_at (codes "rule") result)

-- `rule.index`, otherwise `ruleIndex`; the component's index; the invocation's index
unfoldable pub own_indexes : Data → Result Indexes Fault
own_indexes result = do
  own ← index_at BadIndex (codes "ruleIndex") result
  of_rule ← index_within (codes "index") (member_at (codes "rule") result)
  component ← index_within (codes "index") (tool_component result)
  invocation ← index_within (codes "invocationIndex") (member_at (codes "provenance") result)
  Ok (record {
    rule_index = option_or of_rule own;
    component = component;
    invocation = invocation;
  })

-- the artifact of the first location, which must be an object if there is one
unfoldable pub own_location : Data → Result Location Fault
own_location result = do
  locations ← elements_at BadLocation (codes "locations") result
  first ← if_object BadLocation (first_of locations)
  physical ← if_there (object_at BadLocation (codes "physicalLocation")) first
  artifact ← if_there (object_at BadLocation (codes "artifactLocation")) physical
  uri ← if_there (text_at BadLocation (codes "uri")) artifact
  base ← if_there (text_at BadLocation (codes "uriBaseId")) artifact
  index ← index_within (codes "index") artifact
  Ok (record { uri = uri; base = base; artifact = index })

-- the members of a result, or its first error in the order of these checks; its region and its snippet if regions are
-- read
unfoldable pub parts_of : Bool → Data → Result Parts Fault
parts_of regions result = do
  _ ← check_present result
  kind ← own_kind result
  level ← own_level result
  guid ← own_guid result
  fingerprints ← own_fingerprints result
  held ← own_statuses result
  said ← own_message_and_rule result
  indexes ← own_indexes result
  location ← own_location result
  Ok (record {
    kind = kind;
    level = level;
    rule_id = said.rule_id;
    rule_index = indexes.rule_index;
    component = indexes.component;
    invocation = indexes.invocation;
    message = said.message;
    uri = location.uri;
    base = location.base;
    artifact = location.artifact;
    guid = guid;
    full = fingerprints.full;
    partial = fingerprints.partial;
    held = held;
    region = (own_region regions result).region;
    snippet = (own_region regions result).snippet;
  })
