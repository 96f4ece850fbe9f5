-- A finding depends on two members of its run: its tool and its artifacts.
use Rattle.std.proofs.Common.{◌≡◌, ℕ, false, List, [], Option, Some, None, codes, refl, ap, ◌∙◌}
use Rattle.std.specs.Prelude.{chars, is_some, slice_get, option_map, option_and_then, unwrap_or, if◌then◌else◌}
use Rattle.std.specs.Option.{option_or, option_map_or}
use Rattle.serde_json.specs.Data.{Data}
use Rattle.serde_json.specs.Find.{get, as_str, as_array}
use Rattle.sarif_model.specs.declared.kinds.Level.{Level}
use Rattle.sarif_model.specs.declared.kinds.State.{State}
use Rattle.sarif_read.specs.Internal.Bare.{bare}
use Rattle.sarif_model.specs.Run.{elements_or_none}
use Rattle.sarif_model.specs.Members.{text_in}
use Rattle.sarif_model.specs.Driver.{tool_name}
use Rattle.sarif_read.proofs.Beside.{bare_get}
use Rattle.sarif_findings.specs.declared.reporting.Reporting.{Reporting}
use Rattle.sarif_findings.specs.Lookup.{element_at, own_rule_id, rule_in, driver_of, extension_index, component_by, component_of, descriptor_of, rule_id, artifact_uri, location_uri, physical_location, position_in, position_number, context_number, snippet_in, number_in}
use Rattle.sarif_findings.specs.Message.{arguments_of, component_string, descriptor_string, looked_up, message_of, strings_of, text_by}
use Rattle.sarif_findings.specs.Links.{unlinked}
use Rattle.sarif_findings.specs.Placeholders.{filled}
use Rattle.sarif_findings.specs.Code.{code_by}
use Rattle.sarif_findings.specs.RuleName.{name_in, shown_name}
use Rattle.sarif_findings.specs.Reported.{code_in, help_in, is_exact_in, is_exact_path, line_in, link_of, only_with, path_in, rule_name_in, shown_path, finding_of}

-- two runs have the same tool and the same artifacts
pub record AreAlike (a b : Data) : Type 0 where
  pub tool : get (codes "tool") a ≡ get (codes "tool") b
  pub artifacts : get (codes "artifacts") a ≡ get (codes "artifacts") b

tool_same : (a b : Data) → AreAlike a b → tool_name a ≡ tool_name b
tool_same a b same =
    ap (λ tool. unwrap_or (option_and_then as_str (option_and_then (get (codes "name")) (option_and_then (get (codes "driver")) tool))) []) same.tool

-- ---- the rule

driver_same : (a b : Data) → AreAlike a b → driver_of a ≡ driver_of b
driver_same a b same = ap (option_and_then (get (codes "driver"))) same.tool

component_same : (a b : Data) (o : Option ℕ) → AreAlike a b → component_by a o ≡ component_by b o
component_same a b None same = driver_same a b same
component_same a b (Some n) same = ap (option_and_then (λ tool. element_at (codes "extensions") tool n)) same.tool

descriptor_same : (a b x : Data) → AreAlike a b → descriptor_of a x ≡ descriptor_of b x
descriptor_same a b x same = ap (option_and_then (rule_in x)) (component_same a b (extension_index x) same)

rule_same : (a b x : Data) → AreAlike a b → rule_id a x ≡ rule_id b x
rule_same a b x same =
    ap (λ d. unwrap_or (option_or (own_rule_id x) (option_and_then (text_in (codes "id")) d)) []) (descriptor_same a b x same)

help_same : (a b x : Data) → AreAlike a b → help_in a x ≡ help_in b x
help_same a b x same =
    ap (λ d. option_and_then link_of (option_and_then (text_in (codes "helpUri")) d)) (descriptor_same a b x same)

name_same : (a b x : Data) → AreAlike a b → rule_name_in a x ≡ rule_name_in b x
name_same a b x same =
    ap (λ id. option_map shown_name (option_and_then (name_in id) (descriptor_of a x))) (rule_same a b x same)
    ∙ ap (λ d. option_map shown_name (option_and_then (name_in (rule_id b x)) d)) (descriptor_same a b x same)

-- ---- the place

artifact_same : (a b : Data) (o : Option ℕ) → AreAlike a b → option_and_then (artifact_uri a) o ≡ option_and_then (artifact_uri b) o
artifact_same a b None same = refl
artifact_same a b (Some n) same =
    ap (λ found. option_and_then (text_in (codes "uri"))
    (option_and_then (get (codes "location")) (slice_get (elements_or_none (option_and_then as_array found)) n))) same.artifacts

location_same : (a b : Data) (o : Option Data) → AreAlike a b → option_and_then (location_uri a) o ≡ option_and_then (location_uri b) o
location_same a b None same = refl
location_same a b (Some location) same =
    ap (λ uri. option_or (text_in (codes "uri") location) uri) (artifact_same a b (number_in (codes "index") location) same)

path_same : (reporting : Reporting) (a b x : Data) → AreAlike a b → path_in reporting a x ≡ path_in reporting b x
path_same reporting a b x same =
    ap (option_and_then (shown_path reporting.roots)) (location_same a b (option_and_then (get (codes "artifactLocation")) (physical_location x)) same)

exact_same : (reporting : Reporting) (a b x : Data) → AreAlike a b → is_exact_in reporting a x ≡ is_exact_in reporting b x
exact_same reporting a b x same =
    ap (λ uri. option_map_or (is_exact_path reporting.roots) uri false)
    (location_same a b (option_and_then (get (codes "artifactLocation")) (physical_location x)) same)

line_same : (reporting : Reporting) (a b x : Data) → AreAlike a b → line_in reporting a x ≡ line_in reporting b x
line_same reporting a b x same = ap (λ path. only_with path (position_in (codes "startLine") x)) (path_same reporting a b x same)

code_same : (reporting : Reporting) (a b x : Data) → AreAlike a b → code_in reporting a x ≡ code_in reporting b x
code_same reporting a b x same =
    ap (code_by (snippet_in (codes "region") x) (snippet_in (codes "contextRegion") x) (option_and_then position_number (context_number x)))
    (line_same reporting a b x same)

-- ---- the message

strings_same : (a b x : Data) → AreAlike a b → strings_of a x ≡ strings_of b x
strings_same a b x same =
    ap (λ d. if is_some d then component_of a x else driver_of a) (descriptor_same a b x same)
    ∙ ap (λ d. if is_some (descriptor_of b x) then d else driver_of a) (component_same a b (extension_index x) same)
    ∙ ap (λ d. if is_some (descriptor_of b x) then component_of b x else d) (driver_same a b same)

-- both results find their strings in the same places
pub record AreStringsAlike (a b x y : Data) : Type 0 where
  pub descriptor : descriptor_of a x ≡ descriptor_of b y
  pub strings : strings_of a x ≡ strings_of b y

string_same : (a b x y : Data) (o : Option (List ℕ)) → AreStringsAlike a b x y
    → option_and_then (looked_up a x) o ≡ option_and_then (looked_up b y) o
string_same a b x y None same = refl
string_same a b x y (Some name) same =
    ap (λ d. option_or (descriptor_string name d) (component_string name (strings_of a x))) same.descriptor
    ∙ ap (λ d. option_or (descriptor_string name (descriptor_of b y)) (component_string name d)) same.strings

-- so an equal message has an equal text
pub text_same : (a b x y : Data) (o : Option Data) → AreStringsAlike a b x y
    → option_and_then (text_by a x) o ≡ option_and_then (text_by b y) o
text_same a b x y None same = refl
text_same a b x y (Some message) same =
    ap (option_or (text_in (codes "text") message)) (string_same a b x y (text_in (codes "id") message) same)

strings_alike : (a b x : Data) → AreAlike a b → AreStringsAlike a b x x
strings_alike a b x same = record { descriptor = descriptor_same a b x same; strings = strings_same a b x same }

message_same : (a b x : Data) → AreAlike a b → message_of a x ≡ message_of b x
message_same a b x same =
    ap (λ text. filled (arguments_of x) (unlinked (arguments_of x) (chars (unwrap_or text []))))
    (text_same a b x x (get (codes "message") x) (strings_alike a b x same))

-- ---- the whole

pub run_same : (reporting : Reporting) (a b x : Data) (level : Level) (state : State) → AreAlike a b
    → finding_of reporting a x level state ≡ finding_of reporting b x level state
unfolding finding_of
run_same reporting a b x level state same =
    rw (
      name_same a b x same,
      code_same reporting a b x same,
      exact_same reporting a b x same,
      tool_same a b same,
      rule_same a b x same,
      message_same a b x same,
      path_same reporting a b x same,
      help_same a b x same,
    ) refl

pub bare_alike : (run : Data) → AreAlike (bare run) run
bare_alike run = record {
  tool = bare_get (codes "tool") run refl;
  artifacts = bare_get (codes "artifacts") run refl;
}

-- the findings of a run's results depend on the run without them
pub bare_told : (reporting : Reporting) (run x : Data) (level : Level) (state : State)
    → finding_of reporting (bare run) x level state ≡ finding_of reporting run x level state
bare_told reporting run x level state = run_same reporting (bare run) run x level state (bare_alike run)
