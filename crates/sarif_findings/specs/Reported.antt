-- The shown results of a merged log, in the order of the log: the active results whose baseline state the policy lists
-- (the reported results), or only the hits among them.
use Rattle.std.specs.Prelude.{ℕ, Bool, true, false, not, ◌&&◌, ◌==◌, bytes_eq, encode_utf8_all, length, List, [], ◌∷◌, Option, Some, None, codes, chars, flat_map, option_map, option_and_then, if◌then◌else◌}
use Rattle.std.specs.List.{filter_map}
use Rattle.std.specs.Option.{option_map_or}
use Rattle.serde_json.specs.Data.{Data}
use Rattle.sarif_model.specs.declared.kinds.Level.{Level}
use Rattle.sarif_model.specs.declared.kinds.State.{State}
use Rattle.sarif_model.specs.Level.{level_named}
use Rattle.sarif_model.specs.State.{state_named}
use Rattle.sarif_model.specs.Driver.{tool_name}
use Rattle.sarif_model.specs.Level.{is_at_least}
use Rattle.sarif_model.specs.Members.{text_in, none_if_empty}
use Rattle.sarif_options.specs.declared.policy.Policy.{Policy}
use Rattle.sarif_options.specs.Policy.{is_listed}
use Rattle.sarif_counts.specs.declared.gate_verdict.Impact.{Impact}
use Rattle.sarif_counts.specs.declared.gate_verdict.Impact.TheVariants as impacts
use Rattle.sarif_counts.specs.CountOf.{suppressions_in, suppresses}
use Rattle.sarif_links.specs.Address.{is_address}
use Rattle.sarif_findings.specs.declared.code.Code.{Code}
use Rattle.sarif_findings.specs.declared.finding.Finding.{Finding}
use Rattle.sarif_findings.specs.declared.reporting.Reporting.{Reporting}
use Rattle.sarif_findings.specs.declared.reporting.Show.{Show}
use Rattle.sarif_findings.specs.declared.reporting.Show.TheVariants.{Hits, All}
use Rattle.sarif_findings.specs.Code.{code_by}
use Rattle.sarif_findings.specs.Lookup.{context_number, descriptor_of, elements_in, help_uri, position_in, position_number, rule_id, snippet_in, uri_of}
use Rattle.sarif_findings.specs.Message.{message_of}
use Rattle.sarif_findings.specs.PathOf.{path_chars}
use Rattle.sarif_findings.specs.RuleName.{name_in, shown_name}
use Rattle.sarif_findings.specs.Shown.{shown}

abbrev pub state_in : Data → Option State
state_in result = option_and_then state_named (text_in (codes "baselineState") result)

abbrev pub level_in : Data → Option Level
level_in result = option_and_then level_named (text_in (codes "level") result)

abbrev pub is_active : Data → Bool
is_active result = not (suppresses (suppressions_in result))

-- an empty message is reported as an empty message
abbrev pub or_no_message : List ℕ → List ℕ
or_no_message [] = codes "(no message)"
or_no_message (b ∷ bs) = b ∷ bs

-- a URI as it is shown; an empty path is treated as missing
abbrev pub shown_path : List (List ℕ) → List ℕ → Option (List ℕ)
shown_path roots uri = none_if_empty (shown (path_chars roots uri))

-- a path that is shown unchanged: it isn't empty, and has only characters that are shown, not too many of them
abbrev pub is_exact : List ℕ → Bool
is_exact cs = not (length (shown cs) == 0) && bytes_eq (shown cs) (encode_utf8_all cs)

abbrev pub is_exact_path : List (List ℕ) → List ℕ → Bool
is_exact_path roots uri = is_exact (path_chars roots uri)

abbrev pub path_in : Reporting → Data → Data → Option (List ℕ)
path_in reporting run result = option_and_then (shown_path reporting.roots) (uri_of run result)

-- whether there is a path, and it is shown unchanged
abbrev pub is_exact_in : Reporting → Data → Data → Bool
is_exact_in reporting run result =
    option_map_or (is_exact_path reporting.roots) (uri_of run result) false

-- a value that is reported only together with another value
abbrev pub only_with : {X Y : Type 0} → Option X → Option Y → Option Y
only_with None o = None
only_with (Some x) o = o

-- there is a line only with a path
abbrev pub line_in : Reporting → Data → Data → Option ℕ
line_in reporting run result =
    only_with (path_in reporting run result) (position_in (codes "startLine") result)

-- there is a column only with a line
abbrev pub column_in : Reporting → Data → Data → Option ℕ
column_in reporting run result =
    only_with (line_in reporting run result) (position_in (codes "startColumn") result)

-- what reports link to, if it is an address
abbrev pub link_of : List ℕ → Option (List ℕ)
link_of uri = if is_address uri then Some uri else None

abbrev pub help_in : Data → Data → Option (List ℕ)
help_in run result = option_and_then link_of (help_uri run result)

-- the name of the rule, if it has one besides its id
abbrev pub rule_name_in : Data → Data → Option (List ℕ)
rule_name_in run result =
    option_map shown_name (option_and_then (name_in (rule_id run result)) (descriptor_of run result))

-- the code on the line of the result, from the snippets of its first location
abbrev pub code_in : Reporting → Data → Data → Option Code
code_in reporting run result =
    code_by (snippet_in (codes "region") result) (snippet_in (codes "contextRegion") result)
    (option_and_then position_number (context_number result)) (line_in reporting run result)

-- what a result of this level does to the gate
abbrev pub impact_at : Policy → Level → Impact
impact_at policy level = if is_at_least policy.fail_on level then impacts.Hit else impacts.None

-- the finding of a result of this run
unfoldable pub finding_of : Reporting → Data → Data → Level → State → Finding
finding_of reporting run result level state = record {
  tool = shown (chars (tool_name run));
  rule = shown (chars (rule_id run result));
  level = level;
  state = state;
  message = or_no_message (shown (message_of run result));
  path = path_in reporting run result;
  exact = is_exact_in reporting run result;
  line = line_in reporting run result;
  column = column_in reporting run result;
  help = help_in run result;
  rule_name = rule_name_in run result;
  code = code_in reporting run result;
  impact = impact_at reporting.policy level;
}

-- whether a reported result is shown that is a hit, or is none
abbrev pub is_among : Show → Bool → Bool
is_among Hits hit = hit
is_among All hit = true

-- whether active results of this state and level are shown
abbrev pub are_shown : Reporting → State → Level → Bool
are_shown reporting state level =
    is_listed reporting.policy.states state
    && is_among reporting.show (is_at_least reporting.policy.fail_on level)

abbrev pub is_shown : Reporting → Data → Level → State → Bool
is_shown reporting result level state = are_shown reporting state level && is_active result

-- a result of a merged log has a level and a state; a result without one of them is not shown
abbrev pub finding_by : Reporting → Data → Data → Option Level → Option State → Option Finding
finding_by reporting run result None state = None
finding_by reporting run result (Some level) None = None
finding_by reporting run result (Some level) (Some state) =
    if is_shown reporting result level state
    then Some (finding_of reporting run result level state) else None

abbrev pub finding_if : Reporting → Data → Data → Option Finding
finding_if reporting run result =
    finding_by reporting run result (level_in result) (state_in result)

abbrev pub reported_in : Reporting → Data → List Finding
reported_in reporting run =
    filter_map (finding_if reporting run) (elements_in (codes "results") run)

abbrev pub reported_of : Reporting → Data → List Finding
reported_of reporting log = flat_map (reported_in reporting) (elements_in (codes "runs") log)
