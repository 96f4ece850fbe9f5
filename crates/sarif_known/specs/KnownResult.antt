-- A known result: what matching and states need, written from a record (SARIF 2.1.0, "result object").
use Rattle.std.specs.Prelude.{ℕ, ◌||◌, List, [], ◌∷◌, map, Option, Some, None, is_some, option_and_then, option_map, codes, if◌then◌else◌}
use Rattle.serde_json.specs.Data.{Data, number, unsigned, string, array, object, Members, no_members, member}
use Rattle.serde_json.specs.View.{items_of}
use Rattle.sarif_model.specs.declared.kinds.Kind.{Kind}
use Rattle.sarif_model.specs.declared.kinds.Kind.TheVariants.{Pass, Undecided, Informational, NotApplicable, Review, Fail}
use Rattle.sarif_model.specs.declared.kinds.Level.{Level}
use Rattle.sarif_model.specs.declared.kinds.Status.{Status}
use Rattle.sarif_model.specs.declared.message.Message.{Message}
use Rattle.sarif_model.specs.declared.place.Place.{Place}
use Rattle.sarif_model.specs.declared.record.Record.{Record}
use Rattle.sarif_model.specs.declared.region.Region.{Region}
use Rattle.sarif_model.specs.Guid.{guid_text}
use Rattle.sarif_model.specs.Kind.{kind_name}
use Rattle.sarif_model.specs.Level.{level_name}
use Rattle.sarif_model.specs.Status.{status_name}
use Rattle.sarif_model.specs.Written.{Row, text_members, list_if_any}

-- ---- members

abbrev pub with_value : List ℕ → Option Data → Members → Members
with_value name None ms = ms
with_value name (Some d) ms = member name d ms

-- the members that have a value
abbrev pub members_from : List Row → Members
members_from [] = no_members
members_from (row ∷ rows) = with_value row.0 row.1 (members_from rows)

-- an object with these members
abbrev pub object_from : List Row → Data
object_from rows = object (members_from rows)

-- strings under their names as an object, unless there is none
abbrev pub texts_if_any : List (List ℕ × List ℕ) → Option Data
texts_if_any [] = None
texts_if_any (p ∷ ps) = Some (object (text_members (p ∷ ps)))

-- ---- the members of a result

abbrev pub kind_unless_fail : Kind → Option Data
kind_unless_fail Pass = Some (string (kind_name Pass))
kind_unless_fail Undecided = Some (string (kind_name Undecided))
kind_unless_fail Informational = Some (string (kind_name Informational))
kind_unless_fail NotApplicable = Some (string (kind_name NotApplicable))
kind_unless_fail Review = Some (string (kind_name Review))
kind_unless_fail Fail = None

-- a level matters only if the kind is fail
abbrev pub level_if_fail : Kind → Level → Option Data
level_if_fail Pass level = None
level_if_fail Undecided level = None
level_if_fail Informational level = None
level_if_fail NotApplicable level = None
level_if_fail Review level = None
level_if_fail Fail level = Some (string (level_name level))

abbrev pub message_rows : Message → List Row
message_rows m =
    (codes "arguments", list_if_any (map string m.args))
    ∷ (codes "id", option_map string m.id)
    ∷ (codes "text", option_map string m.text) ∷ []

abbrev pub number_if : Option ℕ → Option Data
number_if o = option_map (λ n. number (unsigned n)) o

abbrev pub snippet_for : List ℕ → Data
snippet_for text = object (member (codes "text") (string text) no_members)

-- the lines and columns of a region, and the text of its snippet
abbrev pub region_rows : Option Region → Option (List ℕ) → List Row
region_rows region snippet =
    (codes "endColumn", number_if (option_and_then (λ r. r.end_column) region))
    ∷ (codes "endLine", number_if (option_and_then (λ r. r.end_line) region))
    ∷ (codes "snippet", option_map snippet_for snippet)
    ∷ (codes "startColumn", number_if (option_and_then (λ r. r.start_column) region))
    ∷ (codes "startLine", number_if (option_map (λ r. r.start_line) region)) ∷ []

-- the region, if it has lines or a snippet
abbrev pub region_for : Option Region → Option (List ℕ) → Option Data
region_for region snippet =
    if is_some region || is_some snippet then Some (object_from (region_rows region snippet))
    else None

abbrev pub physical_rows : Members → Option Data → List Row
physical_rows ms region =
    (codes "artifactLocation", Some (object ms)) ∷ (codes "region", region) ∷ []

-- one location with this region, whose artifact has these members
abbrev pub one_location : Members → Option Data → Data
one_location ms region =
    array (items_of (object (member (codes "physicalLocation")
    (object_from (physical_rows ms region)) no_members) ∷ []))

abbrev pub uri_rows : List ℕ → Option (List ℕ) → List Row
uri_rows uri base =
    (codes "uri", Some (string uri)) ∷ (codes "uriBaseId", option_map string base) ∷ []

-- the place: its URI and its base next to it; a base without a URI by the number of the artifact that has it; with the
-- region if there is one
abbrev pub locations_for : Place → Option Data → Option ℕ → Option Data
locations_for place region (Some n) =
    Some (one_location (member (codes "index") (number (unsigned n)) no_members) region)
locations_for place region None =
    option_map (λ uri. one_location (members_from (uri_rows uri place.base)) region) place.uri

abbrev pub suppression_for : Status → Data
suppression_for status =
    object (member (codes "kind") (string (codes "external"))
    (member (codes "status") (string (status_name status)) no_members))

abbrev pub unless_empty : List ℕ → Option Data
unless_empty [] = None
unless_empty (b ∷ bs) = Some (string (b ∷ bs))

abbrev pub result_rows : Record → Option ℕ → List Row
result_rows r artifact =
    (codes "correlationGuid", option_map (λ guid. string (guid_text guid)) r.guid)
    ∷ (codes "fingerprints", texts_if_any r.full)
    ∷ (codes "kind", kind_unless_fail r.kind)
    ∷ (codes "level", level_if_fail r.kind r.level)
    ∷ (codes "locations", locations_for r.place (region_for r.region r.snippet) artifact)
    ∷ (codes "message", Some (object_from (message_rows r.message)))
    ∷ (codes "partialFingerprints", texts_if_any r.partial)
    ∷ (codes "ruleId", unless_empty r.rule_id)
    ∷ (codes "suppressions", list_if_any (map suppression_for r.held))
    ∷ []

-- the result of a record, whose place is that of an artifact if it has a number
abbrev pub known_result : Record → Option ℕ → Data
known_result r artifact = object_from (result_rows r artifact)
