-- The finding of a result by what is read from it: how it refers to its rule and to its message, the arguments of the
-- message, and its first location.
use Rattle.std.specs.Prelude.{ℕ, Bool, false, List, [], Option, chars, codes, map, option_map, option_and_then, unwrap_or}
use Rattle.std.specs.Option.{option_map_or, option_or}
use Rattle.serde_json.specs.Data.{Data}
use Rattle.serde_json.specs.View.{view}
use Rattle.sarif_model.specs.declared.first_location.FirstLocation.{FirstLocation}
use Rattle.sarif_model.specs.declared.kinds.Level.{Level}
use Rattle.sarif_model.specs.declared.kinds.State.{State}
use Rattle.sarif_model.specs.declared.references.RuleReference.{RuleReference}
use Rattle.sarif_model.specs.Members.{text_in}
use Rattle.sarif_model.specs.Driver.{tool_name}
use Rattle.sarif_findings.specs.declared.code.Code.{Code}
use Rattle.sarif_findings.specs.declared.finding.Finding.{Finding}
use Rattle.sarif_findings.specs.declared.reporting.Reporting.{Reporting}
use Rattle.sarif_findings.specs.declared.told_result.ToldResult.{ToldResult}
use Rattle.sarif_findings.specs.Code.{code_by}
use Rattle.sarif_findings.specs.Links.{unlinked}
use Rattle.sarif_findings.specs.Lookup.{artifact_uri, component_by, elements_in, position_number, rule_by}
use Rattle.sarif_findings.specs.Message.{component_string, descriptor_string, strings_by}
use Rattle.sarif_findings.specs.Placeholders.{filled}
use Rattle.sarif_findings.specs.Reported.{impact_at, is_exact_path, link_of, only_with, or_no_message, shown_path}
use Rattle.sarif_findings.specs.RuleName.{name_in, shown_name}
use Rattle.sarif_findings.specs.Shown.{shown}

-- ---- the rule

-- the id that the result itself has for its rule
abbrev pub own_id_at : RuleReference → Option (List ℕ)
own_id_at rule = option_map (λ id. id.now) rule.id

abbrev pub component_at : Data → RuleReference → Option Data
component_at run rule = component_by run rule.extension

abbrev pub rule_at : RuleReference → Data → Option Data
rule_at rule component = rule_by rule.index (own_id_at rule) (elements_in (codes "rules") component)

abbrev pub descriptor_at : Data → RuleReference → Option Data
descriptor_at run rule = option_and_then (rule_at rule) (component_at run rule)

abbrev pub descriptor_id_at : Data → RuleReference → Option (List ℕ)
descriptor_id_at run rule = option_and_then (text_in (codes "id")) (descriptor_at run rule)

-- the result's own rule id, otherwise the id of its descriptor, otherwise the empty string
abbrev pub rule_id_at : Data → RuleReference → List ℕ
rule_id_at run rule = unwrap_or (option_or (own_id_at rule) (descriptor_id_at run rule)) []

-- the address of a page on the rule
abbrev pub help_uri_at : Data → RuleReference → Option (List ℕ)
help_uri_at run rule = option_and_then (text_in (codes "helpUri")) (descriptor_at run rule)

abbrev pub help_at : Data → RuleReference → Option (List ℕ)
help_at run rule = option_and_then link_of (help_uri_at run rule)

-- the name of the rule, if it has one besides its id
abbrev pub rule_name_at : Data → RuleReference → Option (List ℕ)
rule_name_at run rule =
    option_map shown_name (option_and_then (name_in (rule_id_at run rule)) (descriptor_at run rule))

-- ---- the message

-- the component whose strings a result's message may be one of
abbrev pub strings_at : Data → RuleReference → Option Data
strings_at run rule = strings_by run (descriptor_at run rule) (component_at run rule)

-- the string with that name in the descriptor, otherwise in the component
abbrev pub looked_up_at : Data → RuleReference → List ℕ → Option (List ℕ)
looked_up_at run rule name =
    option_or (descriptor_string name (descriptor_at run rule))
    (component_string name (strings_at run rule))

-- the message's own text, otherwise the string that its id names
abbrev pub text_at : Data → ToldResult → Option (List ℕ)
text_at run told =
    option_or (option_map (λ text. text.now) told.message.text)
    (option_and_then (looked_up_at run told.rule) (option_map (λ id. id.now) told.message.id))

abbrev pub message_text_at : Data → ToldResult → List ℕ
message_text_at run told = unwrap_or (text_at run told) []

abbrev pub arguments_at : ToldResult → List Data
arguments_at told = map view told.arguments.now

-- links are read before placeholders, so no argument makes a link
abbrev pub message_at : Data → ToldResult → List ℕ
message_at run told =
    filled (arguments_at told) (unlinked (arguments_at told) (chars (message_text_at run told)))

-- ---- the place

-- the URI of a location, otherwise the URI of the artifact whose index it has
abbrev pub uri_at : Data → FirstLocation → Option (List ℕ)
uri_at run location =
    option_or (option_map (λ uri. uri.now) location.uri)
    (option_and_then (artifact_uri run) location.artifact)

abbrev pub path_at : Reporting → Data → FirstLocation → Option (List ℕ)
path_at reporting run location =
    option_and_then (shown_path reporting.roots) (uri_at run location)

-- whether there is a path, and it is shown unchanged
abbrev pub is_exact_at : Reporting → Data → FirstLocation → Bool
is_exact_at reporting run location =
    option_map_or (is_exact_path reporting.roots) (uri_at run location) false

-- there is a line only with a path
abbrev pub line_at : Reporting → Data → FirstLocation → Option ℕ
line_at reporting run location =
    only_with (path_at reporting run location) (option_and_then position_number location.line)

-- there is a column only with a line
abbrev pub column_at : Reporting → Data → FirstLocation → Option ℕ
column_at reporting run location =
    only_with (line_at reporting run location) (option_and_then position_number location.column)

-- ---- the code

abbrev pub code_at : Reporting → Data → ToldResult → Option Code
code_at reporting run told =
    code_by (option_map (λ text. text.now) told.snippets.region)
    (option_map (λ text. text.now) told.snippets.context)
    (option_and_then position_number told.snippets.context_line)
    (line_at reporting run told.location)

-- ---- the whole

-- the finding of a result of this run from which this was read
unfoldable pub finding_at : Reporting → Data → ToldResult → Level → State → Finding
finding_at reporting run told level state = record {
  tool = shown (chars (tool_name run));
  rule = shown (chars (rule_id_at run told.rule));
  level = level;
  state = state;
  message = or_no_message (shown (message_at run told));
  path = path_at reporting run told.location;
  exact = is_exact_at reporting run told.location;
  line = line_at reporting run told.location;
  column = column_at reporting run told.location;
  help = help_at run told.rule;
  rule_name = rule_name_at run told.rule;
  code = code_at reporting run told;
  impact = impact_at reporting.policy level;
}
