-- A finding by what is read from its result is the finding of the result.
use Rattle.std.proofs.Common.{◌≡◌, ℕ, false, List, [], Option, Some, None, chars, codes, is_some, option_map, refl, ap, ◌∙◌}
use Rattle.std.specs.Prelude.{option_and_then, unwrap_or, if◌then◌else◌}
use Rattle.std.specs.Option.{option_map_or, option_or}
use Rattle.serde_json.specs.Data.{Data}
use Rattle.serde_json.specs.Find.{get, as_array}
use Rattle.sarif_model.specs.declared.first_location.FirstLocation.{FirstLocation}
use Rattle.sarif_model.specs.declared.kinds.Level.{Level}
use Rattle.sarif_model.specs.declared.kinds.State.{State}
use Rattle.sarif_model.specs.declared.references.RuleReference.{RuleReference}
use Rattle.sarif_model.specs.Internal.FirstLocation.{IsFirstLocation, first_artifact, first_region, string_in, integer_in}
use Rattle.sarif_model.specs.Internal.References.{IsRuleReference, rule_in, component_in, message_in, message_text}
use Rattle.sarif_model.specs.Run.{elements_or_none}
use Rattle.sarif_model.specs.Members.{text_in}
use Rattle.sarif_findings.specs.declared.reporting.Reporting.{Reporting}
use Rattle.sarif_findings.specs.declared.told_result.ToldResult.{ToldResult}
use Rattle.sarif_findings.specs.Internal.Told.{IsTold}
use Rattle.sarif_findings.specs.Code.{code_by}
use Rattle.sarif_findings.specs.Internal.SnippetsOf.{first_context}
use Rattle.sarif_findings.specs.Links.{unlinked}
use Rattle.sarif_findings.specs.Located.{own_id_at, component_at, rule_at, descriptor_at, descriptor_id_at, rule_id_at, help_at, rule_name_at, code_at, strings_at, looked_up_at, text_at, message_text_at, arguments_at, message_at, uri_at, path_at, is_exact_at, line_at, column_at, finding_at}
use Rattle.sarif_findings.specs.Lookup as Lookup
use Rattle.sarif_findings.specs.Lookup.{artifact_uri, component_by, component_of, context_number, descriptor_of, driver_of, elements_in, location_uri, number_in, own_rule_id, position_in, position_number, rule_by, rule_id, rule_index, snippet_in, uri_of}
use Rattle.sarif_findings.specs.Message as Message
use Rattle.sarif_findings.specs.Message.{arguments_of, component_string, descriptor_string, found_text, looked_up, message_of, strings_of, text_by}
use Rattle.sarif_findings.specs.Placeholders.{filled}
use Rattle.sarif_findings.specs.RuleName.{name_in, shown_name}
use Rattle.sarif_findings.specs.Reported.{code_in, finding_of, help_in, is_exact_in, is_exact_path, rule_name_in, link_of, only_with, path_in, line_in, column_in, shown_path}

uri_within : (run : Data) (artifact : Option Data)
    → option_or (string_in (codes "uri") artifact) (option_and_then (artifact_uri run) (integer_in (codes "index") artifact))
    ≡ option_and_then (location_uri run) artifact
uri_within run None = refl
uri_within run (Some d) = refl

number_within : (name : List ℕ) (region : Option Data) → integer_in name region ≡ option_and_then (number_in name) region
number_within name None = refl
number_within name (Some d) = refl

uri_same : (run result : Data) (location : FirstLocation) → IsFirstLocation location result → uri_at run location ≡ uri_of run result
uri_same run result location is =
    ap (λ uri. option_or uri (option_and_then (artifact_uri run) location.artifact)) is.0
    ∙ ap (λ index. option_or (string_in (codes "uri") (first_artifact result)) (option_and_then (artifact_uri run) index)) is.1
    ∙ uri_within run (first_artifact result)

path_same : (reporting : Reporting) (run result : Data) (location : FirstLocation) → IsFirstLocation location result
    → path_at reporting run location ≡ path_in reporting run result
path_same reporting run result location is = ap (option_and_then (shown_path reporting.roots)) (uri_same run result location is)

exact_same : (reporting : Reporting) (run result : Data) (location : FirstLocation) → IsFirstLocation location result
    → is_exact_at reporting run location ≡ is_exact_in reporting run result
exact_same reporting run result location is =
    ap (λ uri. option_map_or (is_exact_path reporting.roots) uri false) (uri_same run result location is)

position_same : (name : List ℕ) (number : Option ℕ) (result : Data) → number ≡ integer_in name (first_region result)
    → option_and_then position_number number ≡ position_in name result
position_same name number result is = ap (option_and_then position_number) (is ∙ number_within name (first_region result))

line_same : (reporting : Reporting) (run result : Data) (location : FirstLocation) → IsFirstLocation location result
    → line_at reporting run location ≡ line_in reporting run result
line_same reporting run result location is =
    ap (λ path. only_with path (option_and_then position_number location.line)) (path_same reporting run result location is)
    ∙ ap (only_with (path_in reporting run result)) (position_same (codes "startLine") location.line result is.2)

column_same : (reporting : Reporting) (run result : Data) (location : FirstLocation) → IsFirstLocation location result
    → column_at reporting run location ≡ column_in reporting run result
column_same reporting run result location is =
    ap (λ line. only_with line (option_and_then position_number location.column)) (line_same reporting run result location is)
    ∙ ap (only_with (line_in reporting run result)) (position_same (codes "startColumn") location.column result is.3)

-- ---- the rule

text_within : (name : List ℕ) (found : Option Data) → string_in name found ≡ option_and_then (text_in name) found
text_within name None = refl
text_within name (Some d) = refl

own_id_same : (result : Data) (r : RuleReference) → IsRuleReference r result → own_id_at r ≡ own_rule_id result
own_id_same result r is = is.0 ∙ ap (option_or (text_in (codes "ruleId") result)) (text_within (codes "id") (rule_in result))

index_same : (result : Data) (r : RuleReference) → IsRuleReference r result → r.index ≡ rule_index result
index_same result r is =
    is.1 ∙ ap (λ o. option_or o (number_in (codes "ruleIndex") result)) (number_within (codes "index") (rule_in result))

component_same : (run result : Data) (r : RuleReference) → IsRuleReference r result → component_at run r ≡ component_of run result
component_same run result r is = ap (component_by run) (is.2 ∙ number_within (codes "index") (component_in result))

rule_same : (result : Data) (r : RuleReference) (component : Option Data) → IsRuleReference r result
    → option_and_then (rule_at r) component ≡ option_and_then (Lookup.rule_in result) component
rule_same result r None is = refl
rule_same result r (Some component) is =
    ap (λ i. rule_by i (own_id_at r) (elements_in (codes "rules") component)) (index_same result r is)
    ∙ ap (λ id. rule_by (rule_index result) id (elements_in (codes "rules") component)) (own_id_same result r is)

pub descriptor_same : (run result : Data) (r : RuleReference) → IsRuleReference r result → descriptor_at run r ≡ descriptor_of run result
descriptor_same run result r is =
    rule_same result r (component_at run r) is ∙ ap (option_and_then (Lookup.rule_in result)) (component_same run result r is)

id_same : (run result : Data) (r : RuleReference) → IsRuleReference r result → rule_id_at run r ≡ rule_id run result
id_same run result r is =
    ap (λ o. unwrap_or (option_or o (descriptor_id_at run r)) []) (own_id_same result r is)
    ∙ ap (λ d. unwrap_or (option_or (own_rule_id result) (option_and_then (text_in (codes "id")) d)) []) (descriptor_same run result r is)

help_same : (run result : Data) (r : RuleReference) → IsRuleReference r result → help_at run r ≡ help_in run result
help_same run result r is =
    ap (λ d. option_and_then link_of (option_and_then (text_in (codes "helpUri")) d)) (descriptor_same run result r is)

name_same : (run result : Data) (r : RuleReference) → IsRuleReference r result → rule_name_at run r ≡ rule_name_in run result
name_same run result r is =
    ap (λ id. option_map shown_name (option_and_then (name_in id) (descriptor_at run r))) (id_same run result r is)
    ∙ ap (λ d. option_map shown_name (option_and_then (name_in (rule_id run result)) d)) (descriptor_same run result r is)

-- ---- the code

snippet_within : (region : Option Data)
    → string_in (codes "text") (option_and_then (get (codes "snippet")) region)
    ≡ option_and_then (text_in (codes "text")) (option_and_then (get (codes "snippet")) region)
snippet_within region = text_within (codes "text") (option_and_then (get (codes "snippet")) region)

code_same : (reporting : Reporting) (run result : Data) (told : ToldResult) → IsTold told result
    → code_at reporting run told ≡ code_in reporting run result
code_same reporting run result told is =
    ap (λ text. code_by text (option_map (λ text. text.now) told.snippets.context)
    (option_and_then position_number told.snippets.context_line) (line_at reporting run told.location))
    (is.4.0 ∙ snippet_within (first_region result))
    ∙ ap (λ text. code_by (snippet_in (codes "region") result) text
    (option_and_then position_number told.snippets.context_line) (line_at reporting run told.location))
    (is.4.1 ∙ snippet_within (first_context result))
    ∙ ap (λ n. code_by (snippet_in (codes "region") result) (snippet_in (codes "contextRegion") result)
    (option_and_then position_number n) (line_at reporting run told.location))
    (is.4.2 ∙ number_within (codes "startLine") (first_context result))
    ∙ ap (λ n. code_by (snippet_in (codes "region") result) (snippet_in (codes "contextRegion") result)
    (option_and_then position_number (context_number result)) n)
    (line_same reporting run result told.location is.3)

-- ---- the message

strings_same : (run result : Data) (r : RuleReference) → IsRuleReference r result → strings_at run r ≡ strings_of run result
strings_same run result r is =
    ap (λ d. if is_some d then component_at run r else driver_of run) (descriptor_same run result r is)
    ∙ ap (λ d. if is_some (descriptor_of run result) then d else driver_of run) (component_same run result r is)

string_same : (run result : Data) (r : RuleReference) (name : Option (List ℕ)) → IsRuleReference r result
    → option_and_then (looked_up_at run r) name ≡ option_and_then (looked_up run result) name
string_same run result r None is = refl
string_same run result r (Some name) is =
    ap (λ d. option_or (descriptor_string name d) (component_string name (strings_at run r))) (descriptor_same run result r is)
    ∙ ap (λ d. option_or (descriptor_string name (descriptor_of run result)) (component_string name d)) (strings_same run result r is)

text_found : (run result : Data) (message : Option Data)
    → option_or (string_in (codes "text") message) (option_and_then (looked_up run result) (string_in (codes "id") message))
    ≡ option_and_then (text_by run result) message
text_found run result None = refl
text_found run result (Some message) = refl

text_same : (run result : Data) (told : ToldResult) → IsTold told result → text_at run told ≡ found_text run result
text_same run result told is =
    ap (option_or (option_map (λ text. text.now) told.message.text)) (string_same run result told.rule (option_map (λ id. id.now) told.message.id) is.0)
    ∙ ap (λ text. option_or text (option_and_then (looked_up run result) (option_map (λ id. id.now) told.message.id))) is.1.0
    ∙ ap (λ id. option_or (message_text result) (option_and_then (looked_up run result) id)) is.1.1
    ∙ text_found run result (message_in result)

arguments_found : (message : Option Data)
    → elements_or_none (option_and_then as_array (option_and_then (get (codes "arguments")) message)) ≡ Message.arguments_in message
arguments_found None = refl
arguments_found (Some message) = refl

arguments_same : (result : Data) (told : ToldResult) → IsTold told result → arguments_at told ≡ arguments_of result
arguments_same result told is = is.2 ∙ arguments_found (message_in result)

message_same : (run result : Data) (told : ToldResult) → IsTold told result → message_at run told ≡ message_of run result
message_same run result told is =
    ap (λ args. filled args (unlinked args (chars (message_text_at run told)))) (arguments_same result told is)
    ∙ ap (λ text. filled (arguments_of result) (unlinked (arguments_of result) (chars (unwrap_or text [])))) (text_same run result told is)

-- ---- the whole

-- a finding by what was read from a result is the finding of the result
pub whole_at : (reporting : Reporting) (run result : Data) (told : ToldResult) (level : Level) (state : State) → IsTold told result
    → finding_at reporting run told level state ≡ finding_of reporting run result level state
unfolding finding_at finding_of
whole_at reporting run result told level state is =
    rw (
      name_same run result told.rule is.0,
      code_same reporting run result told is,
      id_same run result told.rule is.0,
      message_same run result told is,
      column_same reporting run result told.location is.3,
      line_same reporting run result told.location is.3,
      path_same reporting run result told.location is.3,
      exact_same reporting run result told.location is.3,
      help_same run result told.rule is.0,
    ) refl
