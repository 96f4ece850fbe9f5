-- A finding depends on five members of its result, besides its level and its state.
use Rattle.std.proofs.Common.{◌≡◌, ℕ, false, List, [], Option, Some, None, codes, refl, ap, ◌∙◌}
use Rattle.std.specs.Prelude.{chars, is_some, option_map, option_and_then, unwrap_or, if◌then◌else◌}
use Rattle.std.specs.Option.{option_or, option_map_or}
use Rattle.serde_json.specs.Data.{Data}
use Rattle.serde_json.specs.Find.{get, as_str, as_array, as_number, as_u64}
use Rattle.sarif_model.specs.declared.kinds.Level.{Level}
use Rattle.sarif_model.specs.declared.kinds.State.{State}
use Rattle.sarif_model.specs.Members.{first_of, text_in}
use Rattle.sarif_model.specs.Run.{elements_or_none}
use Rattle.sarif_findings.specs.declared.reporting.Reporting.{Reporting}
use Rattle.sarif_findings.specs.Lookup.{number_in, own_rule_id, index_of_rule, rule_index, component_by, component_of, driver_of, rule_by, rule_in, descriptor_of, descriptor_id, rule_id, elements_in, location_uri, physical_location, position_in, position_number, context_number, snippet_in}
use Rattle.sarif_findings.specs.Message.{arguments_in, arguments_of, message_of, strings_of, text_by}
use Rattle.sarif_findings.specs.Links.{unlinked}
use Rattle.sarif_findings.specs.Placeholders.{filled}
use Rattle.sarif_findings.specs.Code.{code_by}
use Rattle.sarif_findings.specs.RuleName.{name_in, shown_name}
use Rattle.sarif_findings.specs.Reported.{code_in, help_in, is_exact_in, is_exact_path, line_in, link_of, only_with, path_in, rule_name_in, shown_path, finding_of}
use Rattle.sarif_prepare.proofs.RunsAlike.{AreAlike, AreStringsAlike, run_same, text_same}

pub record AreNamedAlike (x y : Data) : Type 0 where
  pub rule_id : get (codes "ruleId") x ≡ get (codes "ruleId") y
  pub rule : get (codes "rule") x ≡ get (codes "rule") y
  pub rule_index : get (codes "ruleIndex") x ≡ get (codes "ruleIndex") y
  pub message : get (codes "message") x ≡ get (codes "message") y

pub record AreToldAlike (x y : Data) : Type 0 where
  pub rule_id : get (codes "ruleId") x ≡ get (codes "ruleId") y
  pub rule : get (codes "rule") x ≡ get (codes "rule") y
  pub rule_index : get (codes "ruleIndex") x ≡ get (codes "ruleIndex") y
  pub message : get (codes "message") x ≡ get (codes "message") y
  pub locations : get (codes "locations") x ≡ get (codes "locations") y

named_alike : (x y : Data) → AreToldAlike x y → AreNamedAlike x y
named_alike x y same = record { rule_id = same.rule_id; rule = same.rule; rule_index = same.rule_index; message = same.message }

-- ---- the rule

own_id_same : (x y : Data) → AreNamedAlike x y → own_rule_id x ≡ own_rule_id y
own_id_same x y same =
    ap (λ o. option_or (option_and_then as_str o) (option_and_then (text_in (codes "id")) (get (codes "rule") x))) same.rule_id
    ∙ ap (λ o. option_or (text_in (codes "ruleId") y) (option_and_then (text_in (codes "id")) o)) same.rule

index_same : (x y : Data) → AreNamedAlike x y → rule_index x ≡ rule_index y
index_same x y same =
    ap (λ o. option_or (option_and_then (number_in (codes "index")) o) (number_in (codes "ruleIndex") x)) same.rule
    ∙ ap (λ o. option_or (index_of_rule y) (option_and_then as_u64 (option_and_then as_number o))) same.rule_index

component_same : (run x y : Data) → AreNamedAlike x y → component_of run x ≡ component_of run y
component_same run x y same =
    ap (λ o. component_by run (option_and_then (number_in (codes "index")) (option_and_then (get (codes "toolComponent")) o))) same.rule

rule_same : (x y : Data) (o : Option Data) → AreNamedAlike x y → option_and_then (rule_in x) o ≡ option_and_then (rule_in y) o
rule_same x y None same = refl
rule_same x y (Some component) same =
    ap (λ i. rule_by i (own_rule_id x) (elements_in (codes "rules") component)) (index_same x y same)
    ∙ ap (λ id. rule_by (rule_index y) id (elements_in (codes "rules") component)) (own_id_same x y same)

descriptor_same : (run x y : Data) → AreNamedAlike x y → descriptor_of run x ≡ descriptor_of run y
descriptor_same run x y same =
    ap (option_and_then (rule_in x)) (component_same run x y same) ∙ rule_same x y (component_of run y) same

id_same : (run x y : Data) → AreNamedAlike x y → rule_id run x ≡ rule_id run y
id_same run x y same =
    ap (λ o. unwrap_or (option_or o (descriptor_id run x)) []) (own_id_same x y same)
    ∙ ap (λ d. unwrap_or (option_or (own_rule_id y) (option_and_then (text_in (codes "id")) d)) []) (descriptor_same run x y same)

help_same : (run x y : Data) → AreNamedAlike x y → help_in run x ≡ help_in run y
help_same run x y same =
    ap (λ d. option_and_then link_of (option_and_then (text_in (codes "helpUri")) d)) (descriptor_same run x y same)

name_same : (run x y : Data) → AreNamedAlike x y → rule_name_in run x ≡ rule_name_in run y
name_same run x y same =
    ap (λ id. option_map shown_name (option_and_then (name_in id) (descriptor_of run x))) (id_same run x y same)
    ∙ ap (λ d. option_map shown_name (option_and_then (name_in (rule_id run y)) d)) (descriptor_same run x y same)

-- ---- the message

strings_same : (run x y : Data) → AreNamedAlike x y → strings_of run x ≡ strings_of run y
strings_same run x y same =
    ap (λ d. if is_some d then component_of run x else driver_of run) (descriptor_same run x y same)
    ∙ ap (λ d. if is_some (descriptor_of run y) then d else driver_of run) (component_same run x y same)

strings_alike : (run x y : Data) → AreNamedAlike x y → AreStringsAlike run run x y
strings_alike run x y same = record { descriptor = descriptor_same run x y same; strings = strings_same run x y same }

message_same : (run x y : Data) → AreNamedAlike x y → message_of run x ≡ message_of run y
message_same run x y same =
    ap (λ o. filled (arguments_in o) (unlinked (arguments_in o) (chars (unwrap_or (option_and_then (text_by run x) o) [])))) same.message
    ∙ ap (λ text. filled (arguments_of y) (unlinked (arguments_of y) (chars (unwrap_or text []))))
    (text_same run run x y (get (codes "message") y) (strings_alike run x y same))

-- ---- the place

physical_same : (x y : Data) → AreToldAlike x y → physical_location x ≡ physical_location y
physical_same x y same =
    ap (λ o. option_and_then (get (codes "physicalLocation")) (first_of (elements_or_none (option_and_then as_array o)))) same.locations

path_same : (reporting : Reporting) (run x y : Data) → AreToldAlike x y → path_in reporting run x ≡ path_in reporting run y
path_same reporting run x y same =
    ap (λ p. option_and_then (shown_path reporting.roots) (option_and_then (location_uri run) (option_and_then (get (codes "artifactLocation")) p)))
    (physical_same x y same)

exact_same : (reporting : Reporting) (run x y : Data) → AreToldAlike x y → is_exact_in reporting run x ≡ is_exact_in reporting run y
exact_same reporting run x y same =
    ap (λ p. option_map_or (is_exact_path reporting.roots) (option_and_then (location_uri run) (option_and_then (get (codes "artifactLocation")) p)) false)
    (physical_same x y same)

position_same : (name : List ℕ) (x y : Data) → AreToldAlike x y → position_in name x ≡ position_in name y
position_same name x y same =
    ap (λ p. option_and_then position_number (option_and_then (number_in name) (option_and_then (get (codes "region")) p))) (physical_same x y same)

line_same : (reporting : Reporting) (run x y : Data) → AreToldAlike x y → line_in reporting run x ≡ line_in reporting run y
line_same reporting run x y same =
    ap (λ path. only_with path (position_in (codes "startLine") x)) (path_same reporting run x y same)
    ∙ ap (only_with (path_in reporting run y)) (position_same (codes "startLine") x y same)

-- ---- the code

snippet_same : (name : List ℕ) (x y : Data) → AreToldAlike x y → snippet_in name x ≡ snippet_in name y
snippet_same name x y same =
    ap (λ p. option_and_then (text_in (codes "text")) (option_and_then (get (codes "snippet")) (option_and_then (get name) p))) (physical_same x y same)

number_same : (x y : Data) → AreToldAlike x y → context_number x ≡ context_number y
number_same x y same =
    ap (λ p. option_and_then (number_in (codes "startLine")) (option_and_then (get (codes "contextRegion")) p)) (physical_same x y same)

code_same : (reporting : Reporting) (run x y : Data) → AreToldAlike x y → code_in reporting run x ≡ code_in reporting run y
code_same reporting run x y same =
    ap (λ text. code_by text (snippet_in (codes "contextRegion") x) (option_and_then position_number (context_number x)) (line_in reporting run x))
    (snippet_same (codes "region") x y same)
    ∙ ap (λ text. code_by (snippet_in (codes "region") y) text (option_and_then position_number (context_number x)) (line_in reporting run x))
    (snippet_same (codes "contextRegion") x y same)
    ∙ ap (λ n. code_by (snippet_in (codes "region") y) (snippet_in (codes "contextRegion") y) (option_and_then position_number n) (line_in reporting run x))
    (number_same x y same)
    ∙ ap (code_by (snippet_in (codes "region") y) (snippet_in (codes "contextRegion") y) (option_and_then position_number (context_number y)))
    (line_same reporting run x y same)

-- ---- the whole

result_same : (reporting : Reporting) (run x y : Data) (level : Level) (state : State) → AreToldAlike x y
    → finding_of reporting run x level state ≡ finding_of reporting run y level state
unfolding finding_of
result_same reporting run x y level state same =
    let named = named_alike x y same in
    rw (
      name_same run x y named,
      code_same reporting run x y same,
      exact_same reporting run x y same,
      id_same run x y named,
      message_same run x y named,
      path_same reporting run x y same,
      position_same (codes "startLine") x y same,
      position_same (codes "startColumn") x y same,
      help_same run x y named,
    ) refl

-- equal findings for results that are alike, in runs that are alike
pub same_told : (reporting : Reporting) (a b x y : Data) (level : Level) (state : State) → AreAlike a b → AreToldAlike x y
    → finding_of reporting a x level state ≡ finding_of reporting b y level state
same_told reporting a b x y level state runs results =
    run_same reporting a b x level state runs ∙ result_same reporting b x y level state results
