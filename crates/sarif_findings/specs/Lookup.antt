-- What a result of a merged log names: its rule and its place. A member of the wrong type is treated as missing
-- (SARIF 2.1.0, "result object", "reportingDescriptorReference object", "artifactLocation object").
use Rattle.std.specs.Prelude.{ℕ, ◌^◌, Bool, ◌&&◌, nat_lt, nat_le, List, [], Option, Some, None, codes, find, slice_get, option_and_then, unwrap_or, if◌then◌else◌}
use Rattle.std.specs.Option.{option_or}
use Rattle.serde_json.specs.Data.{Data}
use Rattle.serde_json.specs.Find.{get, as_array, as_number, as_u64}
use Rattle.sarif_model.specs.Members.{first_of, text_in}
use Rattle.sarif_model.specs.Run.{elements_or_none, is_text}

abbrev pub number_in : List ℕ → Data → Option ℕ
number_in name d = option_and_then as_u64 (option_and_then as_number (get name d))

abbrev pub elements_in : List ℕ → Data → List Data
elements_in name d = elements_or_none (option_and_then as_array (get name d))

abbrev pub element_at : List ℕ → Data → ℕ → Option Data
element_at name d n = slice_get (elements_in name d) n

-- ---- the rule

-- `ruleId`, otherwise `rule.id`
abbrev pub own_rule_id : Data → Option (List ℕ)
own_rule_id result =
    option_or (text_in (codes "ruleId") result)
    (option_and_then (text_in (codes "id")) (get (codes "rule") result))

-- `rule.index`
abbrev pub index_of_rule : Data → Option ℕ
index_of_rule result = option_and_then (number_in (codes "index")) (get (codes "rule") result)

-- `rule.index`, otherwise `ruleIndex`
abbrev pub rule_index : Data → Option ℕ
rule_index result = option_or (index_of_rule result) (number_in (codes "ruleIndex") result)

-- `rule.toolComponent.index`
abbrev pub extension_index : Data → Option ℕ
extension_index result =
    option_and_then (number_in (codes "index"))
    (option_and_then (get (codes "toolComponent")) (get (codes "rule") result))

abbrev pub driver_of : Data → Option Data
driver_of run = option_and_then (get (codes "driver")) (get (codes "tool") run)

abbrev pub extension_at : Data → ℕ → Option Data
extension_at run n =
    option_and_then (λ tool. element_at (codes "extensions") tool n) (get (codes "tool") run)

-- the extension of that number, or the driver
abbrev pub component_by : Data → Option ℕ → Option Data
component_by run None = driver_of run
component_by run (Some n) = extension_at run n

abbrev pub component_of : Data → Data → Option Data
component_of run result = component_by run (extension_index result)

abbrev pub has_id : List ℕ → Data → Bool
has_id id rule = is_text id (text_in (codes "id") rule)

-- the rule with that index, otherwise the first rule with that id
abbrev pub rule_by : Option ℕ → Option (List ℕ) → List Data → Option Data
rule_by (Some index) id rules = slice_get rules index
rule_by None (Some id) rules = find (has_id id) rules
rule_by None None rules = None

abbrev pub rule_in : Data → Data → Option Data
rule_in result component =
    rule_by (rule_index result) (own_rule_id result) (elements_in (codes "rules") component)

-- the descriptor of a result of a run
abbrev pub descriptor_of : Data → Data → Option Data
descriptor_of run result = option_and_then (rule_in result) (component_of run result)

abbrev pub descriptor_id : Data → Data → Option (List ℕ)
descriptor_id run result = option_and_then (text_in (codes "id")) (descriptor_of run result)

-- the result's own rule id, otherwise the id of its descriptor, otherwise the empty string
abbrev pub rule_id : Data → Data → List ℕ
rule_id run result =
    unwrap_or (option_or (own_rule_id result) (descriptor_id run result)) []

-- the address of a page on the rule
abbrev pub help_uri : Data → Data → Option (List ℕ)
help_uri run result = option_and_then (text_in (codes "helpUri")) (descriptor_of run result)

-- ---- the place

-- `locations[0].physicalLocation`
abbrev pub physical_location : Data → Option Data
physical_location result =
    option_and_then (get (codes "physicalLocation"))
    (first_of (elements_in (codes "locations") result))

-- `artifacts[n].location.uri`
abbrev pub artifact_uri : Data → ℕ → Option (List ℕ)
artifact_uri run n =
    option_and_then (text_in (codes "uri"))
    (option_and_then (get (codes "location")) (element_at (codes "artifacts") run n))

-- the URI of an artifact location, otherwise the URI of the artifact whose index it has
abbrev pub location_uri : Data → Data → Option (List ℕ)
location_uri run location =
    option_or (text_in (codes "uri") location)
    (option_and_then (artifact_uri run) (number_in (codes "index") location))

-- the URI of a result's place
abbrev pub uri_of : Data → Data → Option (List ℕ)
uri_of run result =
    option_and_then (location_uri run)
    (option_and_then (get (codes "artifactLocation")) (physical_location result))

-- lines and columns are counted from 1
abbrev pub position_number : ℕ → Option ℕ
position_number n = if nat_le 1 n && nat_lt n (2 ^ 32) then Some n else None

-- a member of the region, as a line or a column
abbrev pub position_in : List ℕ → Data → Option ℕ
position_in name result =
    option_and_then position_number
    (option_and_then (number_in name)
    (option_and_then (get (codes "region")) (physical_location result)))

-- `snippet.text` of the region of that name
abbrev pub snippet_in : List ℕ → Data → Option (List ℕ)
snippet_in name result =
    option_and_then (text_in (codes "text"))
    (option_and_then (get (codes "snippet"))
    (option_and_then (get name) (physical_location result)))

-- the number at which the context region begins
abbrev pub context_number : Data → Option ℕ
context_number result =
    option_and_then (number_in (codes "startLine"))
    (option_and_then (get (codes "contextRegion")) (physical_location result))
