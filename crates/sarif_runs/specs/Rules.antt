-- The rules of a run's tool components (SARIF 2.1.0, "tool object", "toolComponent object", "reportingDescriptor
-- object").
use Rattle.std.specs.Prelude.{ℕ, List, ◌∷◌, codes, bytes_eq, position, Option, Result, Ok, option_and_then, ok_or}
use Rattle.serde_json.specs.Data.{Data}
use Rattle.serde_json.specs.Find.{get}
use Rattle.sarif_model.specs.declared.fault.Fault.{Fault}
use Rattle.sarif_model.specs.declared.fault.Fault.TheVariants.{BadRules}
use Rattle.sarif_model.specs.Members.{◌>>=◌, text_at, object_at, elements_at, objects_at, read_each, if_there}
use Rattle.sarif_runs.specs.declared.component.Rule.{Rule}
use Rattle.sarif_runs.specs.Reading.{list_if_there, level_at}

-- a rule: its `id`, which must be there, and `defaultConfiguration.level`
unfoldable pub rule_of : Data → Result Rule Fault
rule_of d = do
  stated ← text_at BadRules (codes "id") d
  id ← ok_or stated BadRules
  configuration ← object_at BadRules (codes "defaultConfiguration") d
  level ← if_there level_at configuration
  Ok (record { id = id; level = level })

-- the rules of a component, in order
unfoldable pub rules_of : Data → Result (List Rule) Fault
rules_of component = elements_at BadRules (codes "rules") component >>= read_each rule_of

abbrev pub tool_of : Data → Option Data
tool_of run = get (codes "tool") run

abbrev pub driver_of : Data → Option Data
driver_of run = option_and_then (get (codes "driver")) (tool_of run)

-- the rules of the driver, and then of each extension
unfoldable pub components_of : Data → Result (List (List Rule)) Fault
components_of run = do
  extensions ← list_if_there (objects_at BadRules (codes "extensions")) (tool_of run)
  driver ← list_if_there rules_of (driver_of run)
  rest ← read_each rules_of extensions
  Ok (driver ∷ rest)

-- the place of the first rule with that id
abbrev pub first_with_id : List ℕ → List Rule → Option ℕ
first_with_id id rules = position (λ rule. bytes_eq id rule.id) rules
