-- How a result refers to its rule and to the text of its message, as reports read it (SARIF 2.1.0, "result object",
-- "reportingDescriptorReference object", "message object"). A member of the wrong type is treated as missing.
use Rattle.std.specs.Prelude.{◌≡◌, ℕ, List, Option, Some, codes, option_map, option_and_then}
use Rattle.std.specs.Option.{option_or}
use Rattle.serde_json.specs.Data.{Data}
use Rattle.serde_json.specs.Find.{get, as_array}
use Rattle.sarif_model.specs.declared.references.MessageReference.{MessageReference}
use Rattle.sarif_model.specs.declared.references.RuleReference.{RuleReference}
use Rattle.sarif_model.specs.Internal.FirstLocation.{string_in, integer_in}
use Rattle.sarif_model.specs.Run.{elements_or_none}

-- ---- the rule

abbrev pub rule_in : Data → Option Data
rule_in result = get (codes "rule") result

-- `ruleId`, otherwise `rule.id`
abbrev pub rule_id : Data → Option (List ℕ)
rule_id result =
    option_or (string_in (codes "ruleId") (Some result)) (string_in (codes "id") (rule_in result))

-- `rule.index`, otherwise `ruleIndex`
abbrev pub rule_index : Data → Option ℕ
rule_index result =
    option_or (integer_in (codes "index") (rule_in result))
    (integer_in (codes "ruleIndex") (Some result))

-- `rule.toolComponent`
abbrev pub component_in : Data → Option Data
component_in result = option_and_then (get (codes "toolComponent")) (rule_in result)

-- `rule.toolComponent.index`
abbrev pub extension_index : Data → Option ℕ
extension_index result = integer_in (codes "index") (component_in result)

abbrev pub IsRuleReference : RuleReference → Data → Type 0
IsRuleReference rule result =
    (option_map (λ id. id.now) rule.id ≡ rule_id result)
    × (rule.index ≡ rule_index result)
    × (rule.extension ≡ extension_index result)

-- ---- the message

abbrev pub message_in : Data → Option Data
message_in result = get (codes "message") result

-- `message.text`
abbrev pub message_text : Data → Option (List ℕ)
message_text result = string_in (codes "text") (message_in result)

-- `message.id`
abbrev pub message_id : Data → Option (List ℕ)
message_id result = string_in (codes "id") (message_in result)

abbrev pub IsMessageReference : MessageReference → Data → Type 0
IsMessageReference message result =
    (option_map (λ text. text.now) message.text ≡ message_text result)
    × (option_map (λ id. id.now) message.id ≡ message_id result)

-- the arguments of a message
abbrev pub arguments_of : Option Data → List Data
arguments_of message =
    elements_or_none
    (option_and_then as_array (option_and_then (get (codes "arguments")) message))

-- `message.arguments`
abbrev pub arguments_in : Data → List Data
arguments_in result = arguments_of (message_in result)
